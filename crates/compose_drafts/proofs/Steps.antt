-- Texts that are appended in several steps.
use Rattle.std.proofs.Common.{◌≡◌, ℕ, suc, ◌+◌, ◌-◌, ◌*◌, ◌/◌, ◌%◌, ◌<◌, List, [], ◌∷◌, ◌++◌, append_assoc, refl, ap, sym, ◌∙◌, arith}
use Rattle.std.specs.Prelude.{◌^◌}
use Rattle.std.specs.List.{flat_map}
use Rattle.std.proofs.lemmas.List.{append-nil}
use Rattle.std.proofs.lemmas.List.Concat.{flat_map-append}
use Rattle.std.proofs.lemmas.Nat.{shr-shr}
use Rattle.std.proofs.Math.Nat.{div-one}
use Rattle.compose_drafts.specs.Message.{hex_digit, hex_digits}

-- a day, a month and a year, with a space between each two
pub three_parts : (before one two three four after day month year : List ℕ) → one ≡ before ++ day → two ≡ one ++ 32 ∷ [] → three ≡ two ++ month → four ≡ three ++ 32 ∷ [] → after ≡ four ++ year → after ≡ before ++ (day ++ 32 ∷ (month ++ 32 ∷ year))
three_parts before one two three four after day month year a b c d e = rw (e, d, c, b, a) (simp append_assoc refl)

-- a field: its name, its value and the end of its line
pub named_field : (before one two after name value end : List ℕ) → one ≡ before ++ name → two ≡ one ++ value → after ≡ two ++ end → after ≡ before ++ ((name ++ value) ++ end)
named_field before one two after name value end a b c = rw (c, b, a) (simp append_assoc refl)

-- the fields of a header, each as its lines
pub whole_header : (g : List ℕ → List ℕ) (before one two three four five six date subject id mime type coding : List ℕ) (from to copied reply refs : List (List ℕ))
    → one ≡ before ++ g date → two ≡ one ++ flat_map g from ++ flat_map g to ++ flat_map g copied → three ≡ two ++ g subject → four ≡ three ++ flat_map g reply ++ flat_map g refs → five ≡ four ++ g id → six ≡ five ++ g mime ++ g type ++ g coding
    → six ≡ before ++ flat_map g (date ∷ [] ++ from ++ to ++ copied ++ subject ∷ [] ++ reply ++ refs ++ id ∷ [] ++ mime ∷ [] ++ type ∷ [] ++ coding ∷ [])
whole_header g before one two three four five six date subject id mime type coding from to copied reply refs a b c d e f = rw (f, e, d, c, b, a) (simp (flat_map-append, append_assoc, append-nil) refl)

-- ---- hexadecimal digits

pub hex_none : (out : List ℕ) (number : ℕ) → out ≡ out ++ hex_digits 0 number
unfolding hex_digits
hex_none out number = sym (append-nil out)

pub hex_step : (start out after : List ℕ) (number place : ℕ) → place < 16 → out ≡ start ++ hex_digits place (number / 2 ^ (64 - 4 * place)) → after ≡ out ++ hex_digit (number / 2 ^ (60 - 4 * place) % 16) ∷ []
    → after ≡ start ++ hex_digits (suc place) (number / 2 ^ (60 - 4 * place))
unfolding hex_digits
hex_step start out after number place small o a =
    let shift : 60 - 4 * place + 4 ≡ 64 - 4 * place = omega arith in
    let less : number / 2 ^ (60 - 4 * place) / 16 ≡ number / 2 ^ (64 - 4 * place) = shr-shr number (60 - 4 * place) 4 ∙ ap (λ k. number / 2 ^ k) shift in
    rw (a, o, less) (append_assoc start (hex_digits place (number / 2 ^ (64 - 4 * place))) (hex_digit (number / 2 ^ (60 - 4 * place) % 16) ∷ []))

pub hex_next : (start out after : List ℕ) (number place : ℕ) → place < 16 → out ≡ start ++ hex_digits place (number / 2 ^ (64 - 4 * place)) → after ≡ out ++ hex_digit (number / 2 ^ (60 - 4 * place) % 16) ∷ []
    → after ≡ start ++ hex_digits (place + 1) (number / 2 ^ (64 - 4 * (place + 1)))
hex_next start out after number place small o a =
    let shift : 60 - 4 * place ≡ 64 - 4 * (place + 1) = omega arith in
    let next : suc place ≡ place + 1 = omega arith in
    hex_step start out after number place small o a ∙ ap (λ n. start ++ hex_digits n (number / 2 ^ (60 - 4 * place))) next ∙ ap (λ k. start ++ hex_digits (place + 1) (number / 2 ^ k)) shift

pub hex_done : (start out : List ℕ) (number place : ℕ) → place ≡ 16 → out ≡ start ++ hex_digits place (number / 2 ^ (64 - 4 * place)) → out ≡ start ++ hex_digits 16 number
hex_done start out number place end o =
    o ∙ ap (λ n. start ++ hex_digits n (number / 2 ^ (64 - 4 * n))) end ∙ ap (λ n. start ++ hex_digits 16 n) (div-one number)
