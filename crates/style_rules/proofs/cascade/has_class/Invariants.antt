use Rattle.std.proofs.Common.{◌≡◌, ◌≤◌, length}
use Rattle.std.specs.List.{slice_split}
use Rattle.style_wash.specs.Characters.{is_white}
use Rattle.style_rules.specs.Cascade.{has_class}
use Rattle.style_rules.proofs.Last.{is_among_words}
use Rattle.style_rules.proofs.cascade.has_class.Given as goal

abbrev pub invariant-words : goal.invariant-words
invariant-words l = record {
  same : is_among_words l.class (slice_split is_white l.rest) ≡ has_class l.classes l.class;
  short : length l.rest ≤ length l.classes;
}

abbrev pub decreases-words : goal.decreases-words
decreases-words l = length l.rest
