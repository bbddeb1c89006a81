use Rattle.std.proofs.Common.{◌≡◌, ◌-◌, ◌++◌, length, drop, chars, string_bytes, IsCharBoundary}
use Rattle.html_references.specs.Input.{input, read_as}
use Rattle.html_references.proofs.stretch.push_stretch.Given as goal

abbrev pub invariant-loop-at : goal.invariant-loop-at
invariant-loop-at l =
    IsCharBoundary l.stretch l.at
    × (chars (string_bytes l.out) ++ read_as l.read_as (input (drop l.at l.stretch)) ≡ chars (string_bytes l.fn.out) ++ read_as l.read_as (input l.stretch))

abbrev pub decreases-loop-at : goal.decreases-loop-at
decreases-loop-at l = length l.stretch - l.at
