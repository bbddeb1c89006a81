use Rattle.std.proofs.Common.{◌≡◌, length}
use Rattle.std.specs.Str.{bytes_eq}
use Rattle.std.specs.List.{list_any}
use Rattle.style_wash.specs.Seen.{texts_seen}
use Rattle.style_wash.proofs.tables.contains_text.Given as goal

abbrev pub invariant-loop-rest : goal.invariant-loop-rest
invariant-loop-rest l = list_any (bytes_eq l.text) (texts_seen l.rest) ≡ list_any (bytes_eq l.text) (texts_seen l.texts)

abbrev pub decreases-loop-rest : goal.decreases-loop-rest
decreases-loop-rest l = length l.rest
