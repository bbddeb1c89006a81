-- Lines that end with no size.
use Rattle.std.proofs.Common.{◌≡◌, ℕ, suc, ◌-◌, Bool, true, false, not, ◌||◌, ◌==◌, List, [], ◌∷◌, length, refl, sym, subst, ◌∙◌, arith, None, inl, inr}
use Rattle.std.specs.List.{fold, ends_with}
use Rattle.std.proofs.lemmas.Bool.{cases_Bool}
use Rattle.imap_framing.specs.declared.line.Brace.TheVariants as braces
use Rattle.imap_framing.specs.Lines.{Tail, tail_with, tail_of, has_literals}
use Rattle.imap_framing.specs.Lines.Tail.{Out, Open, Number, Size}
use Rattle.imap_framing.specs.Units.{after_tail, after_line}
use Rattle.imap_framing.specs.Units.FrameState.{Whole}
use Rattle.imap_framing.specs.Scans.{capped, brace_of_tail, SizeOfTail}

abbrev ends_with_brace : List ℕ → Bool
ends_with_brace line = ends_with (λ a b. a == b) line (125 ∷ [])

size_last : (tail : Tail) (c n : ℕ) → tail_with tail c ≡ Size n → c ≡ 125
size_last Out c n is = grind arith
size_last Open c n is = grind arith
size_last (Number m) c n is = grind arith
size_last (Size m) c n is = grind arith

size_ends : (tail : Tail) (c : ℕ) (line : List ℕ) (n : ℕ) → fold tail_with tail (c ∷ line) ≡ Size n → ends_with_brace (c ∷ line) ≡ true
size_ends tail c [] n is = subst (λ (d : ℕ). ends_with_brace (d ∷ []) ≡ true) (sym (size_last tail c n is)) refl
size_ends tail c (d ∷ line) n is =
    let shorter : length (c ∷ d ∷ line) - 1 ≡ suc (length (d ∷ line) - 1) = omega arith in
    rw shorter (size_ends (tail_with tail c) d line n is)

kept_size : (tail : Tail) (n : ℕ) → brace_of_tail tail ≡ braces.Size n → (m : ℕ) × (tail ≡ Size m)
kept_size Out n is = absurd cc
kept_size Open n is = absurd cc
kept_size (Number m) n is = absurd cc
kept_size (Size m) n is = (m, refl)

pub no_size : (line : List ℕ) → ends_with_brace line ≡ false → (n : ℕ) → brace_of_tail (tail_of line) ≡ braces.Size n → ⊥
no_size [] other n is = absurd cc
no_size (c ∷ line) other n is =
    let size = kept_size (tail_of (c ∷ line)) n is in
    let ends = size_ends Out c line size.0 size.1 in
    let wrong : true ≡ false = sym ends ∙ other in
    cc

no_literal : (tail : Tail) → SizeOfTail None tail → after_tail tail ≡ Whole
no_literal Out none = refl
no_literal Open none = refl
no_literal (Number n) none = refl
no_literal (Size n) none = absurd (none (capped n) refl)

pub line_of_no_size : (first : Bool) (line : List ℕ) → SizeOfTail None (tail_of line) → Whole ≡ after_line first line
line_of_no_size first line none = elim (cases_Bool (not first || has_literals line)) [
  | inl test ↦ rw test (sym (no_literal (tail_of line) none))
  | inr test ↦ rw test refl
]
