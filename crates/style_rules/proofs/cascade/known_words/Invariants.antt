use Rattle.std.proofs.Common.{◌≡◌, ◌≤◌, ◌||◌, ◌&&◌, ℕ, List, length}
use Rattle.std.specs.List.{slice_split}
use Rattle.style_wash.specs.Characters.{is_white}
use Rattle.style_rules.specs.Cascade.{has_class}
use Rattle.style_rules.specs.Steps.{has_word}
use Rattle.style_rules.proofs.Last.{is_among_words}
use Rattle.style_rules.proofs.cascade.known_words.Given as goal

abbrev pub invariant-words : goal.invariant-words
invariant-words l = record {
  whole : (class : List ℕ) → (has_word l.words class || (has_word l.known class && is_among_words class (slice_split is_white l.rest))) ≡ (has_word l.known class && has_class l.classes class);
  short : length l.rest ≤ length l.classes;
}

abbrev pub decreases-words : goal.decreases-words
decreases-words l = length l.rest
