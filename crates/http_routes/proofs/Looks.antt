-- What the fields that are kept tell of each name.
use Rattle.std.proofs.Common.{◌≡◌, ℕ, Bool, true, false, List, [], ◌∷◌, ◌++◌, sym, ap, ◌∙◌, refl, append_assoc, append-nil, map}
use Rattle.std.specs.Prelude.{filter, if◌then◌else◌}
use Rattle.std.specs.Str.{bytes_eq}
use Rattle.std.proofs.lemmas.Slice.Eq.{bytes_eq-Decides}
use Rattle.std.proofs.lemmas.List.{map-append}
use Rattle.std.proofs.lemmas.List.Elements.{filter-append}
use Rattle.http_routes.specs.declared.fields.Field.{Field}
use Rattle.http_routes.specs.Fields.{KeepsLook, Occurs, is_named, is_twice, look_in, occurs, values_of}
use Rattle.http_routes.specs.Fields.Occurs.{never, once, twice}

values_of-append : (name : List ℕ) (xs ys : List Field) → values_of name (xs ++ ys) ≡ values_of name xs ++ values_of name ys
values_of-append name xs ys =
    ap (map (λ (field : Field). field.value)) (filter-append (λ (field : Field). bytes_eq field.name name) xs ys)
    ∙ map-append (λ (field : Field). field.value) (filter (λ (field : Field). bytes_eq field.name name) xs) (filter (λ (field : Field). bytes_eq field.name name) ys)

-- what occurs twice does so whatever follows
twice_more : (xs ys : List (List ℕ)) → occurs xs ≡ twice → occurs (xs ++ ys) ≡ twice
twice_more [] ys e = absurd cc
twice_more (x ∷ []) ys e = absurd cc
twice_more (x ∷ y ∷ more) ys e = refl

twice_before : (fields rest : List Field) (name : List ℕ) → look_in fields name ≡ twice → look_in (fields ++ rest) name ≡ twice
twice_before fields rest name e = ap occurs (values_of-append name fields rest) ∙ twice_more (values_of name fields) (values_of name rest) e

-- a field of another name
other_name : (fields rest : List Field) (f : Field) (name : List ℕ) → bytes_eq f.name name ≡ false → look_in (fields ++ rest) name ≡ look_in (fields ++ f ∷ rest) name
other_name fields rest f name other =
    let one : values_of name (f ∷ rest) ≡ values_of name rest = rw other refl in
    ap occurs (values_of-append name fields rest ∙ ap (λ values. values_of name fields ++ values) (sym one) ∙ sym (values_of-append name fields (f ∷ rest)))

one_more : (fields rest : List Field) (f : Field) (name : List ℕ) → look_in fields f.name ≡ twice → look_in (fields ++ rest) name ≡ look_in (fields ++ f ∷ rest) name
one_more fields rest f name e =
    elim (bytes_eq f.name name) as (λ v. bytes_eq f.name name ≡ v → look_in (fields ++ rest) name ≡ look_in (fields ++ f ∷ rest) name) [
      | true ↦ λ same.
          let is : f.name ≡ name = (bytes_eq-Decides f.name name).0 same in
          let here : look_in fields name ≡ twice = sym (ap (look_in fields) is) ∙ e in
          twice_before fields rest name here ∙ sym (twice_before fields (f ∷ rest) name here)
      | false ↦ other_name fields rest f name
    ] refl

-- a field that has occurred twice is not missed
pub twice_kept : (fields : List Field) (f : Field) (b : Bool) → look_in fields f.name ≡ twice → KeepsLook fields (fields ++ (if b then f ∷ [] else []))
twice_kept fields f true e = λ rest name. one_more fields rest f name e ∙ ap (λ (all : List Field). look_in all name) (sym (append_assoc fields (f ∷ []) rest))
twice_kept fields f false e = λ rest name. ap (λ (all : List Field). look_in (all ++ rest) name) (sym (append-nil fields))

-- one more field of a form
pub kept_more : (names : List (List ℕ)) (new old all left : List Field) (f : Field)
    → KeepsLook new (old ++ filter (is_named names) (f ∷ [])) → KeepsLook (old ++ filter (is_named names) (f ∷ left)) all → KeepsLook (new ++ filter (is_named names) left) all
kept_more names new old all left f one rest_kept = λ rest name.
    let split : filter (is_named names) (f ∷ left) ≡ filter (is_named names) (f ∷ []) ++ filter (is_named names) left = filter-append (is_named names) (f ∷ []) left in
    ap (λ (fields : List Field). look_in fields name) (append_assoc new (filter (is_named names) left) rest)
    ∙ one (filter (is_named names) left ++ rest) name
    ∙ ap (λ (fields : List Field). look_in fields name) (sym (append_assoc (old ++ filter (is_named names) (f ∷ [])) (filter (is_named names) left) rest))
    ∙ ap (λ (fields : List Field). look_in (fields ++ rest) name) (append_assoc old (filter (is_named names) (f ∷ [])) (filter (is_named names) left) ∙ ap (λ (fields : List Field). old ++ fields) (sym split))
    ∙ rest_kept rest name

-- what is found with twice before it
pub is_twice_found : (o : Occurs) → is_twice o ≡ true → o ≡ twice
is_twice_found never e = absurd cc
is_twice_found (once value) e = absurd cc
is_twice_found twice e = refl

pub twice_is : (result : Bool) (fields others : List Field) (name text : List ℕ) {own : List ℕ} → result ≡ is_twice (look_in fields name) → result ≡ true → fields ≡ others → name ≡ own → own ≡ text → is_twice (look_in others text) ≡ true
twice_is result fields others name text e is same n t = cc
