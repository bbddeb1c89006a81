use Rattle.std.proofs.Common.{◌≡◌, false, take, map}
use Rattle.html_syntax.specs.Tokenizer.{is_among}
use Rattle.html_wash.specs.Elements.{name_of}
use Rattle.html_wash.proofs.element.named_in.Given as goal

abbrev pub invariant-loop-element : goal.invariant-loop-element
invariant-loop-element l = is_among (map name_of (take l.element-index l.elements)) l.name ≡ false
