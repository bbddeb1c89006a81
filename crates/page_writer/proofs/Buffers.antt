-- The bytes of a page with a long text more.
use Rattle.std.proofs.Common.{◌≡◌, ℕ, cond, List, [], ◌∷◌, ◌++◌, sym, ap, ◌∙◌, append_assoc, append-nil, is_ok, IsOk, Result, Ok, Err}
use Rattle.std.specs.List.{concat}
use Rattle.std.proofs.lemmas.List.Folds.{concat-append}
use Rattle.page_writer.specs.Bytes.{spell_bytes}
use Rattle.page_writer.specs.Written.{segment_bytes}

one_list : (xs : List ℕ) → concat (xs ∷ []) ≡ xs
one_list xs = append-nil xs

-- the tail and a text became the last segment
pub segment_added : (segments new : List (List ℕ)) (tail rest text bytes self : List ℕ) → new ≡ segments ++ segment_bytes tail text ∷ [] → rest ≡ [] → spell_bytes text ≡ bytes → concat segments ++ tail ≡ self → concat new ++ rest ≡ self ++ bytes
segment_added segments new tail rest text bytes self e r s is =
    ap (λ (xs : List (List ℕ)). concat xs ++ rest) e
    ∙ ap (λ (xs : List ℕ). concat (segments ++ segment_bytes tail text ∷ []) ++ xs) r
    ∙ append-nil (concat (segments ++ segment_bytes tail text ∷ []))
    ∙ concat-append segments (segment_bytes tail text ∷ [])
    ∙ ap (λ (xs : List ℕ). concat segments ++ xs) (one_list (segment_bytes tail text))
    ∙ sym (append_assoc (concat segments) tail (spell_bytes text))
    ∙ ap (λ (xs : List ℕ). xs ++ spell_bytes text) is
    ∙ ap (λ (xs : List ℕ). self ++ xs) s

-- the same, by the equations that the calls give
pub long_text_added : (segments reserved new : List (List ℕ)) (segment tail markup rest text copy bytes self : List ℕ) → new ≡ reserved ++ segment ∷ [] → reserved ≡ segments → segment ≡ segment_bytes markup copy → markup ≡ tail → copy ≡ text → rest ≡ [] → spell_bytes text ≡ bytes → concat segments ++ tail ≡ self → concat new ++ rest ≡ self ++ bytes
long_text_added segments reserved new segment tail markup rest text copy bytes self e a b c d r s is =
    let last : segment ≡ segment_bytes tail text = b ∙ ap (λ (xs : List ℕ). segment_bytes xs copy) c ∙ ap (λ (xs : List ℕ). segment_bytes tail xs) d in
    segment_added segments new tail rest text bytes self (e ∙ ap (λ (xs : List (List ℕ)). xs ++ segment ∷ []) a ∙ ap (λ (x : List ℕ). segments ++ x ∷ []) last) r s is

pub pushed : {A : Type 0} {E : Type 0} (r : Result (Unit {0}) E) (old new : List A) (x : A) → IsOk r → new ≡ cond (is_ok r) (old ++ x ∷ []) old → new ≡ old ++ x ∷ []
pushed (Ok u) old new x h e = e
pushed (Err f) old new x h e = absurd cc
