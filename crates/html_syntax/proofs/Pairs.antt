-- Attributes as the pairs that hold them.
use Rattle.std.proofs.Common.{◌≡◌, ℕ, zero, suc, ◌+◌, ◌<◌, Bool, true, false, ◌||◌, List, drop, [], ◌∷◌, length, map, chars, encode_utf8_all, slice_index_or, string_bytes, String, refl, sym, ap, ◌∙◌, arith}
use Rattle.std.proofs.lemmas.Str.{encodes-chars, IsUtf8-string_bytes}
use Rattle.html_syntax.specs.Token.{name_at, value_at, attribute_of}
use Rattle.html_syntax.specs.States.{has_name, same}

back : {Z : Type 0} (s : String Z) → encode_utf8_all (chars (string_bytes s)) ≡ string_bytes s
back s = encodes-chars (string_bytes s) (IsUtf8-string_bytes s)

pub name_at-map : {Z : Type 0} (ps : List (String Z × String Z)) (i : ℕ) (p : String Z × String Z) → i < length (map attribute_of ps) → p ≡ slice_index_or ps i p → encode_utf8_all (name_at (map attribute_of ps) i) ≡ string_bytes p.0
name_at-map [] i p lt e = absurd (omega arith)
name_at-map (q ∷ ps) zero p lt e = back q.0 ∙ ap (λ (x : String _ × String _). string_bytes x.0) (sym e)
name_at-map (q ∷ ps) (suc i) p lt e = name_at-map ps i p (omega arith) e

pub value_at-map : {Z : Type 0} (ps : List (String Z × String Z)) (i : ℕ) (p : String Z × String Z) → i < length (map attribute_of ps) → p ≡ slice_index_or ps i p → value_at (map attribute_of ps) i ≡ chars (string_bytes p.1)
value_at-map [] i p lt e = absurd (omega arith)
value_at-map (q ∷ ps) zero p lt e = ap (λ (x : String _ × String _). chars (string_bytes x.1)) (sym e)
value_at-map (q ∷ ps) (suc i) p lt e = value_at-map ps i p (omega arith) e

-- whether a name is among the pairs from a place on
pub has_name-drop : {Z : Type 0} (name : List ℕ) (ps : List (String Z × String Z)) (i : ℕ) (p : String Z × String Z) → i < length ps → p ≡ slice_index_or ps i p
    → has_name name (map attribute_of (drop i ps)) ≡ (same (chars (string_bytes p.0)) name || has_name name (map attribute_of (drop (i + 1) ps)))
has_name-drop name [] i p lt e = absurd (omega arith)
has_name-drop name (q ∷ ps) zero p lt e = rw e refl
has_name-drop name (q ∷ ps) (suc i) p lt e =
    let step : suc i + 1 ≡ suc (i + 1) = omega arith in
    rw step (has_name-drop name ps i p (omega arith) e)

pub has_name-found : {Z : Type 0} (name : List ℕ) (all : Bool) (ps : List (String Z × String Z)) (i : ℕ) (p : String Z × String Z) → i < length ps → p ≡ slice_index_or ps i p
    → same (chars (string_bytes p.0)) name ≡ true → has_name name (map attribute_of (drop i ps)) ≡ all → true ≡ all
has_name-found name all ps i p lt e t held =
    sym (has_name-drop name ps i p lt e ∙ ap (λ (b : Bool). b || has_name name (map attribute_of (drop (i + 1) ps))) t) ∙ held

pub has_name-passed : {Z : Type 0} (name : List ℕ) (all : Bool) (ps : List (String Z × String Z)) (i : ℕ) (p : String Z × String Z) → i < length ps → p ≡ slice_index_or ps i p
    → same (chars (string_bytes p.0)) name ≡ false → has_name name (map attribute_of (drop i ps)) ≡ all → has_name name (map attribute_of (drop (i + 1) ps)) ≡ all
has_name-passed name all ps i p lt e t held =
    sym (has_name-drop name ps i p lt e ∙ ap (λ (b : Bool). b || has_name name (map attribute_of (drop (i + 1) ps))) t) ∙ held
