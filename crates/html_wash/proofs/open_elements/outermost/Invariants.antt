use Rattle.std.proofs.Common.{◌≡◌, ◌<◌, ℕ, false, get_or}
use Rattle.html_syntax.specs.Tokenizer.{is_among}
use Rattle.html_wash.specs.Elements.{name_of}
use Rattle.html_wash.specs.Seen.{lookup_of}
use Rattle.html_wash.specs.declared.element.Element.{Element}
use Rattle.html_wash.proofs.open_elements.outermost.Given as goal

abbrev pub invariant-loop-i : goal.invariant-loop-i
invariant-loop-i l = (k : ℕ) (d : Element) → k < l.i → is_among (lookup_of l.kind).closes (name_of (get_or l.region k d)) ≡ false
