use Rattle.std.proofs.Common.{◌≡◌, length}
use Rattle.std.specs.List.{filter_map}
use Rattle.style_wash.specs.Declarations.{declaration_of, pieces, stylewash}
use Rattle.style_wash.specs.Values.Nesting.{Outside}
use Rattle.style_wash.proofs.Pieces.{style_onto}
use Rattle.style_wash.proofs.declarations.wash_style.Given as goal

abbrev pub invariant-loop-piece : goal.invariant-loop-piece
invariant-loop-piece l = style_onto l.style.items (filter_map declaration_of (pieces Outside l.rest)) ≡ stylewash l.fn.text

abbrev pub decreases-loop-piece : goal.decreases-loop-piece
decreases-loop-piece l = length l.rest
