-- Letters that begin no listed name.
use Rattle.std.proofs.Common.{◌≡◌, ℕ, Bool, true, false, ◌||◌, ◌==◌, List, [], ◌∷◌, codes, refl, sym, ap, ◌∙◌, inl, inr}
use Rattle.std.proofs.lemmas.Bool.{cases_Bool, and_parts, eqb-true}
use Rattle.std.specs.List.{list_all, list_any}
use Rattle.html_references.specs.CodeReferences.{Listed, listed_names, begins_with_char, listed_with_first}

-- the first letters of names
initials : List ℕ
initials = codes "ACDEGILNOQRSTUYabcdefghilmnopqrstuyz"

-- the word begins with one of these
begins_among : List ℕ → List ℕ → Bool
begins_among letters [] = false
begins_among letters (x ∷ spelling) = list_any (λ c. c == x) letters

begins_listed : Listed → Bool
begins_listed n = begins_among initials n.name.spelling

all_begin : list_all begins_listed listed_names ≡ true
unfolding begins_among begins_listed initials listed_names
all_begin = refl

-- the character is none of these
abbrev pub IsNone : List ℕ → ℕ → Type 0
IsNone [] c = Unit {0}
IsNone (x ∷ letters) c = (c ≡ x → ⊥) × IsNone letters c

unlike : (letters word : List ℕ) (c : ℕ) → IsNone letters c → begins_among letters word ≡ true → begins_with_char c word ≡ false
unfolding begins_among
unlike letters [] c none among = refl
unlike letters (x ∷ word) c none among = elim (cases_Bool (x == c)) [
  | inl is ↦ absurd (passed letters none (ap (λ (y : ℕ). list_any (λ l. l == y) letters) (sym (eqb-true x c is)) ∙ among))
  | inr other ↦ other
]
  where
    passed : (letters : List ℕ) → IsNone letters c → list_any (λ l. l == c) letters ≡ true → ⊥
    passed [] none any = absurd cc
    passed (l ∷ letters) none any = elim (cases_Bool (l == c)) [
      | inl is ↦ none.0 (sym (eqb-true l c is))
      | inr other ↦ passed letters none.1 (ap (λ (b : Bool). b || list_any (λ x. x == c) letters) (sym other) ∙ any)
    ]

none_of : (ns : List Listed) (c : ℕ) → IsNone initials c → list_all begins_listed ns ≡ true → listed_with_first c ns ≡ []
unfolding begins_listed
none_of [] c none all = refl
none_of (n ∷ ns) c none all =
    let parts = and_parts (begins_among initials n.name.spelling) (list_all begins_listed ns) all in
    rw (unlike initials n.name.spelling c none parts.0) (none_of ns c none parts.1)

pub none_with : (c : ℕ) → IsNone (codes "ACDEGILNOQRSTUYabcdefghilmnopqrstuyz") c → listed_with_first c listed_names ≡ []
unfolding initials
none_with c none = none_of listed_names c none all_begin
