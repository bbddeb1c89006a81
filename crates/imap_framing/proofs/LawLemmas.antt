-- A stream is cut in one way.
use Rattle.std.proofs.Common.{◌≡◌, ℕ, ◌<◌, List, [], ◌∷◌, ◌++◌, length, take, drop, refl, sym, ap, subst, ◌∙◌, append_assoc, inl, inr, arith}
use Rattle.std.specs.List.{concat, AllByRecursion}
use Rattle.std.proofs.lemmas.List.{append-nil, append_cancel_left, take-append-drop, take_at, take-append-le, length-drop}
use Rattle.std.proofs.lemmas.Bool.{cases_lt}
use Rattle.imap_framing.specs.Units.{frame_state, IsUnit, IsIncomplete, IsIncompleteState, HasTooLongLiteral}
use Rattle.imap_framing.specs.Units.FrameState.{Whole, TooLong, Past}
use Rattle.imap_framing.specs.Streams.{SplitsStream}
use Rattle.imap_framing.specs.Laws.{IsEnd}
use Rattle.imap_framing.proofs.StateLemmas.{no_longer}

past_is_no_unit : (a b later : List ℕ) → IsUnit a → IsUnit b → a ++ later ≡ b → 0 < length later → ⊥
past_is_no_unit a b [] ua ub e some = omega arith
past_is_no_unit a b (c ∷ later) ua ub e some =
    let differ : Past ≡ Whole = sym (no_longer a c later ua) ∙ ap frame_state e ∙ ub in
    cc

longer : (a b x y : List ℕ) → IsUnit a → IsUnit b → a ++ x ≡ b ++ y → length a < length b → ⊥
longer a b x y ua ub e lt =
    let front : take (length a) b ≡ a = sym (take-append-le (length a) b y (omega arith)) ∙ ap (take (length a)) (sym e) ∙ take_at a x (length a) refl in
    let whole : a ++ drop (length a) b ≡ b = ap (λ (xs : List ℕ). xs ++ drop (length a) b) (sym front) ∙ take-append-drop (length a) b in
    let some : 0 < length (drop (length a) b) = omega (arith, length-drop (length a) b) in
    past_is_no_unit a b (drop (length a) b) ua ub whole some

prefix_free : (a b x y : List ℕ) → IsUnit a → IsUnit b → a ++ x ≡ b ++ y → a ≡ b
prefix_free a b x y ua ub e = elim (cases_lt (length a) (length b)) [
  | inl lt ↦ absurd (longer a b x y ua ub e lt)
  | inr le ↦ elim (cases_lt (length b) (length a)) [
    | inl lt ↦ absurd (longer b a y x ub ua (sym e) lt)
    | inr le2 ↦ sym (take_at a x (length b) (omega arith)) ∙ ap (take (length b)) e ∙ take_at b y (length b) refl
  ]
]

-- no unit is a proper prefix of another
pub apart : (a b x y : List ℕ) → IsUnit a → IsUnit b → a ++ x ≡ b ++ y → (a ≡ b) × (x ≡ y)
apart a b x y ua ub e =
    let same = prefix_free a b x y ua ub e in
    (same, append_cancel_left a x y (e ∙ ap (λ (xs : List ℕ). xs ++ y) (sym same)))

pub open_none : (unit more : List ℕ) → IsUnit unit → IsIncomplete (unit ++ more) → ⊥
open_none unit [] u o = subst IsIncompleteState (ap frame_state (append-nil unit) ∙ u) o
open_none unit (c ∷ more) u o = subst IsIncompleteState (no_longer unit c more u) o

pub long_none : (unit more : List ℕ) → IsUnit unit → HasTooLongLiteral (unit ++ more) → ⊥
long_none unit [] u l = let e : Whole ≡ TooLong = sym u ∙ ap frame_state (sym (append-nil unit)) ∙ l in cc
long_none unit (c ∷ more) u l = let e : Past ≡ TooLong = sym (no_longer unit c more u) ∙ l in cc

pub end_none : (unit more : List ℕ) → IsUnit unit → IsEnd (unit ++ more) → ⊥
end_none unit more u end = elim end [
  | inl o ↦ open_none unit more u o
  | inr l ↦ long_none unit more u l
]

-- parts that are units, up to an end that begins with no part
pub once : (P E : List ℕ → Type 0) → ((unit : List ℕ) → P unit → IsUnit unit) → ((unit more : List ℕ) → P unit → E (unit ++ more) → ⊥)
    → (us vs : List (List ℕ)) (r q : List ℕ) → concat us ++ r ≡ concat vs ++ q → AllByRecursion P us → AllByRecursion P vs → E r → E q → (us ≡ vs) × (r ≡ q)
once P E unit none [] [] r q e p s er eq = (refl, e)
once P E unit none [] (v ∷ vs) r q e p s er eq = absurd (none v (concat vs ++ q) s.0 (subst E (e ∙ append_assoc v (concat vs) q) er))
once P E unit none (u ∷ us) [] r q e p s er eq = absurd (none u (concat us ++ r) p.0 (subst E (sym e ∙ append_assoc u (concat us) r) eq))
once P E unit none (u ∷ us) (v ∷ vs) r q e p s er eq =
    let regrouped : u ++ (concat us ++ r) ≡ v ++ (concat vs ++ q) = sym (append_assoc u (concat us) r) ∙ e ∙ append_assoc v (concat vs) q in
    let heads = apart u v (concat us ++ r) (concat vs ++ q) (unit u p.0) (unit v s.0) regrouped in
    let tails = once P E unit none us vs r q heads.1 p.1 s.1 er eq in
    (ap (λ (x : List ℕ). x ∷ us) heads.0 ∙ ap (λ (xs : List (List ℕ)). v ∷ xs) tails.0, tails.1)

pub splits_once : (stream : List ℕ) (us vs : List (List ℕ)) (r q : List ℕ) → SplitsStream IsUnit stream us r → IsEnd r → SplitsStream IsUnit stream vs q → IsEnd q → (us ≡ vs) × (r ≡ q)
splits_once stream us vs r q a er b eq = once IsUnit IsEnd (λ unit is. is) (λ unit more u end. end_none unit more u end) us vs r q (sym a.whole ∙ b.whole) a.each b.each er eq

pub open_not_long : (rest : List ℕ) → IsIncomplete rest → HasTooLongLiteral rest → ⊥
open_not_long rest open_rest long = subst IsIncompleteState long open_rest
