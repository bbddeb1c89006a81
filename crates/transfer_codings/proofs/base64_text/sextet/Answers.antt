use Rattle.transfer_codings.proofs.Base64Lemmas.{sextet_of-table, sextet_of-none}
use Rattle.std.proofs.Common.{arith}
use Rattle.transfer_codings.proofs.base64_text.sextet.Goals as goal

pub returns-clause-value : goal.returns-clause-value
returns-clause-value c = sextet_of-table c.args.character (omega arith)

pub returns-clause-other : goal.returns-clause-other
returns-clause-other c = sextet_of-none c.args.character (omega arith)
