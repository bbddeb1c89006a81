-- The first line of a text is stuffed as the whole text would be.
use Rattle.std.proofs.Common.{◌≡◌, ◌==◌, ℕ, zero, suc, ◌-◌, ◌<◌, Bool, true, ◌||◌, nat_lt, List, [], ◌∷◌, get_or, take, refl, ap, ◌∙◌, arith}
use Rattle.std.specs.Prelude.{codes}
use Rattle.std.specs.List.{starts_with}
use Rattle.std.proofs.lemmas.Bool.{eqb-true}
use Rattle.flowed_text.specs.Flow.{is_stuffed}

abbrev from_line : List ℕ
from_line = codes "From "

abbrev starts : List ℕ → Bool
starts text = starts_with (λ a b. a == b) text from_line

-- where one of the first bytes is a space
starts_first : (text : List ℕ) (size : ℕ) → get_or text size 0 ≡ 32 → starts (take (suc size) text) ≡ starts text
starts_first [] size space = refl
starts_first (a ∷ text) zero space = rw space refl
starts_first (a ∷ []) (suc size) space = refl
starts_first (a ∷ b ∷ text) (suc zero) space = rw space refl
starts_first (a ∷ b ∷ []) (suc (suc size)) space = refl
starts_first (a ∷ b ∷ c ∷ text) (suc (suc zero)) space = rw space refl
starts_first (a ∷ b ∷ c ∷ []) (suc (suc (suc size))) space = refl
starts_first (a ∷ b ∷ c ∷ d ∷ text) (suc (suc (suc zero))) space = rw space refl
starts_first (a ∷ b ∷ c ∷ d ∷ []) (suc (suc (suc (suc size)))) space = refl
starts_first (a ∷ b ∷ c ∷ d ∷ e ∷ text) (suc (suc (suc (suc size)))) space = refl

first_of : (text : List ℕ) (size : ℕ) → get_or (take (suc size) text) 0 0 ≡ get_or text 0 0
first_of [] size = refl
first_of (a ∷ text) size = refl

sub_one : (n : ℕ) → n ≡ suc n - 1
sub_one n = omega arith

pub stuffed-first : (depth : ℕ) (text : List ℕ) (size : ℕ) → 0 < size → (get_or text (size - 1) 0 == 32) ≡ true → is_stuffed depth (take size text) ≡ is_stuffed depth text
stuffed-first depth text zero some space = absurd (omega arith)
stuffed-first depth text (suc size) some space =
    let here : get_or text size 0 ≡ 32 = ap (λ n. get_or text n 0) (sub_one size) ∙ eqb-true (get_or text (suc size - 1) 0) 32 space in
    ap (λ b. nat_lt 0 depth || (b == 32 || b == 62 || starts (take (suc size) text))) (first_of text size)
    ∙ ap (λ s. nat_lt 0 depth || (get_or text 0 0 == 32 || get_or text 0 0 == 62 || s)) (starts_first text size here)
