use Rattle.std.proofs.Common.{◌≡◌, drop}
use Rattle.mime_content.specs.Pieces.{unquoted}
use Rattle.mime_content.specs.declared.pieces.Quoting.TheVariants.{Inside}
use Rattle.mime_content.proofs.PieceLemmas.{joined_text}
use Rattle.mime_content.proofs.pieces.unquote.Given as goal

abbrev pub invariant-loop-byte : goal.invariant-loop-byte
invariant-loop-byte l = joined_text l.text (unquoted l.quoting (drop l.byte-index l.quoted)) ≡ unquoted Inside l.quoted
