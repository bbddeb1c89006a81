use Rattle.std.proofs.Common.{length, drop, ◌-◌, ◌≤◌}
use Rattle.std.specs.Prelude.{All, IfSome}
use Rattle.mime_tree.specs.Body.{delimiters, IsWithin}
use Rattle.mime_tree.proofs.BodyLemmas.{Continues}
use Rattle.mime_tree.proofs.body.places_within.Given as goal

abbrev pub invariant-loop-line : goal.invariant-loop-line
invariant-loop-line l = record {
  within : l.start.at ≤ length l.text;
  ordered : l.start.line_break ≤ l.start.at;
  few : length l.found.items ≤ l.most;
  begun : IfSome l.begun (λ from. from ≤ length l.text);
  places : All (IsWithin (length l.text)) l.found.items;
  all : Continues l.boundary l.text l.found.items l.begun (delimiters l.boundary l.start.line_break l.start.at (drop l.start.at l.text));
}

abbrev pub decreases-loop-line : goal.decreases-loop-line
decreases-loop-line l = length l.text - l.start.at
