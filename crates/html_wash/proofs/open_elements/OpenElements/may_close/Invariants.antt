use Rattle.std.proofs.Common.{◌≡◌, length, map}
use Rattle.html_wash.specs.Elements.{name_of}
use Rattle.html_wash.specs.Seen.{lookup_of, are_absent}
use Rattle.html_wash.proofs.open_elements.OpenElements.may_close.Given as goal

abbrev pub invariant-loop-rest : goal.invariant-loop-rest
invariant-loop-rest l = are_absent l.self (map name_of l.rest) ≡ are_absent l.self (lookup_of l.fn.kind).closes

abbrev pub decreases-loop-rest : goal.decreases-loop-rest
decreases-loop-rest l = length l.rest
