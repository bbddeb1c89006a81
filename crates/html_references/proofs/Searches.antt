-- The stretch before the place that a search for bytes finds.
use Rattle.std.proofs.Common.{◌≡◌, ℕ, zero, suc, ◌<◌, ◌≤◌, Bool, true, not, List, [], ◌∷◌, length, take, refl, sym, subst, arith, Some, None, Option, get_or, unwrap_or}
use Rattle.std.proofs.lemmas.Bool.{and_from, not_from_false, false_from_ne_true}
use Rattle.std.proofs.lemmas.List.{take_all}
use Rattle.std.specs.List.{list_all, slice_index}
use Rattle.memchr.specs.Find.{IsFirstByte}

-- no byte before n passes the test
pub all_before : (p : ℕ → Bool) (bytes : List ℕ) (n : ℕ) → n ≤ length bytes → ((k : ℕ) → k < n → p (slice_index bytes k) ≡ true → ⊥) → list_all (λ b. not (p b)) (take n bytes) ≡ true
all_before p bytes zero le none = refl
all_before p [] (suc n) le none = absurd (omega arith)
all_before p (b ∷ bytes) (suc n) le none =
    and_from (not (p b)) (list_all (λ x. not (p x)) (take n bytes)) (not_from_false (p b) (false_from_ne_true (p b) (none 0 (omega arith))))
    (all_before p bytes n (omega arith) (λ k lt. none (suc k) (omega arith)))

pub record Found (p : ℕ → Bool) (bytes : List ℕ) (n : ℕ) : Type 0 where
  pub within : n < length bytes
  pub clean : list_all (λ b. not (p b)) (take n bytes) ≡ true
  pub here : p (get_or bytes n 0) ≡ true

pub found : (p : ℕ → Bool) (bytes : List ℕ) (n : ℕ) → IsFirstByte p bytes (Some n) → Found p bytes n
found p bytes n h = record {
  within = h.0.high;
  clean = all_before p bytes n (omega (arith, h.0.high)) (λ k lt. h.0.before k (omega arith) lt);
  here = h.1;
}

pub not_found : (p : ℕ → Bool) (bytes : List ℕ) → IsFirstByte p bytes None → list_all (λ b. not (p b)) bytes ≡ true
not_found p bytes h = subst (λ (l : List ℕ). list_all (λ b. not (p b)) l ≡ true) (take_all (length bytes) bytes (omega arith)) (all_before p bytes (length bytes) (omega arith) (λ k lt. h k (omega arith) lt))

pub lacks_before : (p : ℕ → Bool) (bytes : List ℕ) (r : Option ℕ) (n : ℕ) → IsFirstByte p bytes r → n ≡ unwrap_or r (length bytes) → list_all (λ b. not (p b)) (take n bytes) ≡ true
lacks_before p bytes None n h e = rw e (subst (λ (l : List ℕ). list_all (λ b. not (p b)) l ≡ true) (sym (take_all (length bytes) bytes (omega arith))) (not_found p bytes h))
lacks_before p bytes (Some k) n h e = rw e (found p bytes k h).clean
