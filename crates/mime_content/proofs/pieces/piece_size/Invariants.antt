use Rattle.std.proofs.Common.{◌≡◌, ◌+◌, drop}
use Rattle.mime_content.specs.Pieces.{size_from}
use Rattle.mime_content.specs.declared.pieces.Quoting.TheVariants.{Outside}
use Rattle.mime_content.proofs.pieces.piece_size.Given as goal

abbrev pub invariant-loop-i : goal.invariant-loop-i
invariant-loop-i l = l.i + size_from l.quoting (drop l.i l.value) ≡ size_from Outside l.value
