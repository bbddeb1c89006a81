use Rattle.std.proofs.Common.{◌≡◌, length, map}
use Rattle.html_syntax.specs.Tokenizer.{is_among}
use Rattle.html_wash.specs.Elements.{name_of}
use Rattle.html_wash.proofs.open_elements.contains.Given as goal

abbrev pub invariant-loop-rest : goal.invariant-loop-rest
invariant-loop-rest l = is_among (map name_of l.rest) (name_of l.element) ≡ is_among (map name_of l.elements) (name_of l.element)

abbrev pub decreases-loop-rest : goal.decreases-loop-rest
decreases-loop-rest l = length l.rest
