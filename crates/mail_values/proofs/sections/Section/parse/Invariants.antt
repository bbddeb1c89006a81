use Rattle.std.proofs.Common.{◌≡◌, ℕ, List, length, map, take, decimal}
use Rattle.mail_values.specs.Section.{IsSection, spelling, numbers_of}
use Rattle.mail_values.proofs.sections.Section.parse.Given as goal

abbrev pub invariant-loop-piece : goal.invariant-loop-piece
invariant-loop-piece l = record {
  can : (goal.iterator-loop-piece).can_next l.piece-iterator;
  finite : (goal.iterator-loop-piece).is_finite l.piece-iterator;
  spelled : map decimal (numbers_of l.section) ≡ map (λ x. x.now) l.yielded;
  found : (numbers : List ℕ) → IsSection numbers → spelling numbers ≡ l.text → numbers_of l.section ≡ take (length l.yielded) numbers;
}
