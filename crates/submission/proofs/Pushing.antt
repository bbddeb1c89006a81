-- Lists that grow by what their elements become.
use Rattle.std.proofs.Common.{◌≡◌, ℕ, ◌+◌, ◌<◌, List, [], ◌∷◌, ◌++◌, length, map, take, get_or, sym, ap, ◌∙◌, append_assoc}
use Rattle.std.proofs.lemmas.List.{take_more, map-append}

pub push_mapped : {A B : Type 0} (f : A → B) (xs : List A) (i : ℕ) (d : A) (before old new : List B) (y : B) → i < length xs → old ≡ before ++ map f (take i xs) → y ≡ f (get_or xs i d) → new ≡ old ++ y ∷ [] → new ≡ before ++ map f (take (i + 1) xs)
push_mapped f xs i d before old new y within was is pushed =
    pushed ∙ ap (λ l. l ++ y ∷ []) was ∙ append_assoc before (map f (take i xs)) (y ∷ [])
    ∙ ap (λ l. before ++ l) (ap (λ z. map f (take i xs) ++ z ∷ []) is ∙ sym (map-append f (take i xs) (get_or xs i d ∷ [])) ∙ ap (map f) (sym (take_more xs i d within)))
