-- Texts as their characters.
use Rattle.std.proofs.Common.{◌≡◌, ℕ, true, List, chars, encode_utf8_all, sym, ap, ◌∙◌, IsUtf8}
use Rattle.std.specs.Str.{bytes_eq}
use Rattle.std.proofs.lemmas.Slice.Eq.{bytes_eq-Decides}
use Rattle.std.proofs.lemmas.Bool.Decides.{same_from_decides}
use Rattle.std.proofs.lemmas.Str.{encodes-chars}
use Rattle.html_syntax.specs.States.{same}

-- the comparison of two texts is that of their characters
pub same_text : (a b : List ℕ) → IsUtf8 a → IsUtf8 b → bytes_eq a b ≡ same (chars b) (chars a)
same_text a b of_a of_b =
    let texts = bytes_eq-Decides a b in
    let lists = bytes_eq-Decides (chars a) (chars b) in
    let back : chars a ≡ chars b → a ≡ b = λ (e : chars a ≡ chars b). sym (encodes-chars a of_a) ∙ ap encode_utf8_all e ∙ encodes-chars b of_b in
    same_from_decides {P = a ≡ b} (bytes_eq a b) (bytes_eq (chars a) (chars b)) texts ((λ (t : bytes_eq (chars a) (chars b) ≡ true). back (lists.0 t)), (λ (e : a ≡ b). lists.1 (ap chars e)))

pub same_sym : (a b : List ℕ) → same a b ≡ same b a
same_sym a b =
    let there = bytes_eq-Decides b a in
    let back = bytes_eq-Decides a b in
    same_from_decides {P = b ≡ a} (bytes_eq b a) (bytes_eq a b) there ((λ (t : bytes_eq a b ≡ true). sym (back.0 t)), (λ (e : b ≡ a). back.1 (sym e)))
