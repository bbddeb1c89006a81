use Rattle.std.proofs.Common.{◌∙◌, arith}
use Rattle.transfer_codings.proofs.CharsetTables.{after_table, before_table, in_table}
use Rattle.transfer_codings.proofs.charset.windows_1252_character.Goals as goal
use Rattle.transfer_codings.proofs.charset.windows_1252_character.Goals.{else-byte-ge128-via-then-byte-ge128+else-byte-le159, else-byte-ge128-via-else-byte-ge128}

pub returns-then-byte-le159 : goal.returns-then-byte-le159
returns-then-byte-le159 c = in_table c.args.byte c.if-byte-ge128.true c.if-byte-le159.true

pub returns-else-byte-ge128 : goal.returns-else-byte-ge128
returns-else-byte-ge128 c = elim c.else-byte-ge128.branch [
  | else-byte-ge128-via-then-byte-ge128+else-byte-le159 w ↦ c.from.ensures ∙ after_table c.args.byte (omega arith) (omega arith)
  | else-byte-ge128-via-else-byte-ge128 w ↦ c.from.ensures ∙ before_table c.args.byte (omega arith)
]
