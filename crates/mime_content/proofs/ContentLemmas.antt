-- A type is ASCII, and so is a text.
use Rattle.std.proofs.Common.{◌≡◌, ℕ, ◌+◌, ◌<◌, true, List, [], ◌∷◌, length, get_or, take, drop, sym, subst, arith, eqb-true}
use Rattle.std.proofs.lemmas.Bool.{and_parts, ltb-true}
use Rattle.std.proofs.lemmas.List.Elements.{All-append, All-push, All-nil, All-map}
use Rattle.std.proofs.lemmas.List.Sums.{AllPass-from_list_all, passes_at_first, split_at_first}
use Rattle.std.proofs.lemmas.Str.{IsUtf8-from_ascii}
use Rattle.std.proofs.lemmas.Str.Ascii.{IsAscii-from_all, lowercase_ascii}
use Rattle.std.specs.Prelude.{All}
use Rattle.std.specs.List.{position_or_len}
use Rattle.std.specs.Char.{to_ascii_lowercase}
use Rattle.std.specs.Str.{str_to_ascii_lowercase, IsUtf8}
use Rattle.mime_content.specs.Content.{is_type, is_token, is_token_byte, is_slash}

abbrev Ascii : ℕ → Type 0
Ascii b = b < 128

byte_ascii : (b : ℕ) → is_token_byte b ≡ true → b < 128
byte_ascii b h = omega (arith, ltb-true b 127 ((and_parts _ _ ((and_parts _ _ h).1)).0))

token_ascii : (xs : List ℕ) → is_token xs ≡ true → All Ascii xs
token_ascii xs h =
    let pass = AllPass-from_list_all is_token_byte xs ((and_parts _ _ h).1) in
    λ k d lt. byte_ascii _ (pass k d lt)

type_ascii : (xs : List ℕ) → is_type xs ≡ true → All Ascii xs
type_ascii xs h =
    let at = position_or_len is_slash xs in
    let lt : at < length xs = ltb-true at (length xs) ((and_parts _ _ h).0) in
    let front = token_ascii (take at xs) ((and_parts _ _ ((and_parts _ _ h).1)).0) in
    let back = token_ascii (drop (at + 1) xs) ((and_parts _ _ ((and_parts _ _ h).1)).1) in
    let slash : get_or xs at 0 ≡ 47 = eqb-true (get_or xs at 0) 47 (passes_at_first is_slash xs 0 lt) in
    let here : All Ascii (get_or xs at 0 ∷ []) = All-push Ascii [] (get_or xs at 0) (All-nil Ascii) (omega arith) in
    let all = All-append Ascii (take at xs) (get_or xs at 0 ∷ drop (at + 1) xs) front (All-append Ascii (get_or xs at 0 ∷ []) (drop (at + 1) xs) here back) in
    subst (λ (ys : List ℕ). All Ascii ys) (sym (split_at_first is_slash xs 0 lt)) all

-- a type in lower case
pub lowered_type : (xs : List ℕ) → is_type xs ≡ true → IsUtf8 (str_to_ascii_lowercase xs)
lowered_type xs h =
    let all = type_ascii xs h in
    IsUtf8-from_ascii (str_to_ascii_lowercase xs) (IsAscii-from_all (str_to_ascii_lowercase xs) (All-map Ascii to_ascii_lowercase xs (λ k d lt. lowercase_ascii _ (all k d lt))))
