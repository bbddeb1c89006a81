-- A text that begins with a word.
use Rattle.std.proofs.Common.{◌≡◌, ℕ, List, [], ◌∷◌, ◌==◌, ◌&&◌, take, length, refl, ap}
use Rattle.std.specs.Prelude.{nat_eq}
use Rattle.std.specs.Cmp.Lexicographic.{pointwise}
use Rattle.html_syntax.specs.References.{begins_with}

pub begins_with_take : (word text : List ℕ) → pointwise nat_eq word (take (length word) text) ≡ begins_with word text
begins_with_take [] text = refl
begins_with_take (w ∷ word) [] = refl
begins_with_take (w ∷ word) (c ∷ text) = ap (λ b. w == c && b) (begins_with_take word text)
