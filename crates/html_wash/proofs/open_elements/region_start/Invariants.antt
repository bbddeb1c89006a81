use Rattle.std.proofs.Common.{not}
use Rattle.html_syntax.specs.Tokenizer.{is_among}
use Rattle.html_wash.specs.Elements.{name_of}
use Rattle.html_wash.specs.Seen.{lookup_of}
use Rattle.html_wash.proofs.Reversed.{IsLeft}
use Rattle.html_wash.proofs.open_elements.region_start.Given as goal

abbrev pub invariant-loop-start : goal.invariant-loop-start
invariant-loop-start l = IsLeft (λ e. not (is_among (lookup_of l.kind).stops (name_of e))) l.elements l.start

abbrev pub decreases-loop-start : goal.decreases-loop-start
decreases-loop-start l = l.start
