-- Attributes that are read one after the other, with the names of those before.
use Rattle.std.proofs.Common.{◌≡◌, ℕ, Bool, true, false, not, ◌||◌, Option, Some, None, List, [], ◌∷◌, ◌++◌, chars, refl, sym, ap, ◌∙◌, append_assoc, append-nil, inl, inr}
use Rattle.std.proofs.lemmas.Bool.{cases_Bool}
use Rattle.std.proofs.lemmas.List.Folds.{list_any-append}
use Rattle.std.specs.Prelude.{Result, Ok, Err, OnOk}
use Rattle.std.specs.List.{filter, filter_map, cons_option}
use Rattle.html_syntax.specs.Token.{Attribute}
use Rattle.html_syntax.specs.Tokenizer.{same, is_among}
use Rattle.html_rules.specs.Tables.{Name, kind_of, is_listed_attribute}
use Rattle.html_rules.specs.declared.ValueKind.{ValueKind}
use Rattle.html_rules.proofs.Facts.{same-true}
use Rattle.html_tokens.specs.Attributes.{first_of_each}
use Rattle.wash_attributes.specs.Given.{Given}
use Rattle.wash_attributes.specs.Values.{written_value}
use Rattle.wash_attributes.specs.Attributes.{attribute, attribute_with, written_value_of_kind, kept_attribute, kept_attributes}
use Rattle.wash_attributes.specs.Keeping.{KeptValue, listed_attribute, is_new, kept_with, to_list, with_attribute}

abbrev differs : Attribute → Attribute → Bool
differs a b = not (same a.name b.name)

-- ---- an attribute that isn't listed

passes_over : (given : Given) (listed : List Name) (b : Attribute) (more : List Attribute) → is_among listed b.name ≡ false → cons_option (listed_attribute given listed b) more ≡ more
passes_over given listed b more h = rw h refl

others_listed : (given : Given) (listed names : List Name) (a : Attribute) (ys : List Attribute) → is_among listed a.name ≡ false → filter_map (listed_attribute given listed) (filter (is_new names) (filter (differs a) ys)) ≡ filter_map (listed_attribute given listed) (filter (is_new names) ys)
others_listed given listed names a [] h = refl
others_listed given listed names a (y ∷ ys) h = elim (cases_Bool (same a.name y.name)) [
  | inl is ↦
      let none : is_among listed y.name ≡ false = ap (is_among listed) (sym (same-true a.name y.name is)) ∙ h in
      elim (cases_Bool (is_among names y.name)) [
        | inl known ↦ rw (is, known) (others_listed given listed names a ys h)
        | inr new ↦ rw (is, new, none) (others_listed given listed names a ys h)
      ]
  | inr other ↦ elim (cases_Bool (is_among names y.name)) [
    | inl known ↦ rw (other, known) (others_listed given listed names a ys h)
    | inr new ↦ rw (other, new) (ap (cons_option (listed_attribute given listed y)) (others_listed given listed names a ys h))
  ]
]

pub not_listed : (given : Given) (listed : List Name) (kept : KeptValue) (a : Attribute) (rest : List Attribute) → is_among listed a.name ≡ false → kept_with given listed kept rest ≡ kept_with given listed kept (a ∷ rest)
unfolding kept_with
not_listed given listed kept a rest h =
    let rest_same = others_listed given listed kept.names a (first_of_each rest) h in
    elim (cases_Bool (is_among kept.names a.name)) [
      | inl known ↦ rw known (ap (λ (l : List Attribute). kept.attributes ++ l) (sym rest_same))
      | inr new ↦ rw (new, h) (ap (λ (l : List Attribute). kept.attributes ++ l) (sym rest_same))
    ]

-- ---- an attribute whose name was read before

filter_known : (names : List Name) (a : Attribute) (ys : List Attribute) → is_among names a.name ≡ true → filter (is_new names) (filter (differs a) ys) ≡ filter (is_new names) ys
filter_known names a [] h = refl
filter_known names a (y ∷ ys) h = elim (cases_Bool (same a.name y.name)) [
  | inl is ↦
      let there : is_among names y.name ≡ true = ap (is_among names) (sym (same-true a.name y.name is)) ∙ h in
      rw (is, there) (filter_known names a ys h)
  | inr other ↦ elim (cases_Bool (is_among names y.name)) [
    | inl known ↦ rw (other, known) (filter_known names a ys h)
    | inr new ↦ rw (other, new) (ap (λ (l : List Attribute). y ∷ l) (filter_known names a ys h))
  ]
]

pub known_name : (given : Given) (listed : List Name) (kept : KeptValue) (a : Attribute) (rest : List Attribute) → is_among kept.names a.name ≡ true → kept_with given listed kept rest ≡ kept_with given listed kept (a ∷ rest)
unfolding kept_with
known_name given listed kept a rest h = rw h (ap (λ (l : List Attribute). kept.attributes ++ filter_map (listed_attribute given listed) l) (sym (filter_known kept.names a (first_of_each rest) h)))

-- ---- the first attribute of a name

or_no : (b : Bool) → (b || false) ≡ b
or_no true = refl
or_no false = refl

among_more : (names : List Name) (name other : Name) → is_among (names ++ name ∷ []) other ≡ (is_among names other || same name other)
among_more names name other = list_any-append (λ n. same n other) names (name ∷ []) ∙ ap (λ b. is_among names other || b) (or_no (same name other))

filter_more : (names : List Name) (a : Attribute) (ys : List Attribute) → filter (is_new (names ++ a.name ∷ [])) ys ≡ filter (is_new names) (filter (differs a) ys)
filter_more names a [] = refl
filter_more names a (y ∷ ys) = elim (cases_Bool (same a.name y.name)) [
  | inl is ↦ elim (cases_Bool (is_among names y.name)) [
    | inl known ↦ rw (among_more names a.name y.name, is, known) (filter_more names a ys)
    | inr new ↦ rw (among_more names a.name y.name, is, new) (filter_more names a ys)
  ]
  | inr other ↦ elim (cases_Bool (is_among names y.name)) [
    | inl known ↦ rw (among_more names a.name y.name, other, known) (filter_more names a ys)
    | inr new ↦ rw (among_more names a.name y.name, other, new) (ap (λ (l : List Attribute). y ∷ l) (filter_more names a ys))
  ]
]

onto : (o : Option Attribute) (more : List Attribute) → to_list o ++ more ≡ cons_option o more
onto None more = refl
onto (Some a) more = refl

pub new_name : (given : Given) (listed : List Name) (kept : KeptValue) (a : Attribute) (rest : List Attribute) → is_among listed a.name ≡ true → is_among kept.names a.name ≡ false → kept_with given listed (with_attribute given kept a) rest ≡ kept_with given listed kept (a ∷ rest)
unfolding kept_with
new_name given listed kept a rest there new =
    let written = attribute_with a.name (written_value_of_kind given (kind_of a.name) a.value) in
    let more = filter_map (listed_attribute given listed) (filter (is_new kept.names) (filter (differs a) (first_of_each rest))) in
    rw (new, there) (
    ap (λ (l : List Attribute). (kept.attributes ++ to_list written) ++ filter_map (listed_attribute given listed) l) (filter_more kept.names a (first_of_each rest))
    ∙ append_assoc kept.attributes (to_list written) more
    ∙ ap (λ (l : List Attribute). kept.attributes ++ l) (onto written more))

-- ---- all attributes

pub none_left : (given : Given) (listed : List Name) (kept : KeptValue) → kept_with given listed kept [] ≡ kept.attributes
unfolding kept_with
none_left given listed kept = append-nil kept.attributes

filter_none : (ys : List Attribute) → filter (is_new []) ys ≡ ys
filter_none [] = refl
filter_none (y ∷ ys) = ap (λ (l : List Attribute). y ∷ l) (filter_none ys)

kept_same : (given : Given) (listed : List Name) (element : Name) (ys : List Attribute) → ((name : Name) → is_listed_attribute element name ≡ is_among listed name) → filter_map (listed_attribute given listed) ys ≡ filter_map (kept_attribute given element) ys
unfolding kept_attribute
kept_same given listed element [] f = refl
kept_same given listed element (y ∷ ys) f = rw (f y.name) (ap (cons_option (listed_attribute given listed y)) (kept_same given listed element ys f))

pub all_kept : (given : Given) (listed : List Name) (element : Name) (attributes : List Attribute) → ((name : Name) → is_listed_attribute element name ≡ is_among listed name) → kept_with given listed (record { attributes = []; names = [] }) attributes ≡ kept_attributes given element attributes
unfolding kept_with kept_attributes
all_kept given listed element attributes f =
    ap (filter_map (listed_attribute given listed)) (filter_none (first_of_each attributes)) ∙ kept_same given listed element (first_of_each attributes) f

pub no_attributes : (given : Given) (element : Name) (attributes : List Attribute) → attributes ≡ [] → [] ≡ kept_attributes given element attributes
unfolding kept_attributes
no_attributes given element attributes e = rw e refl

-- ---- one attribute

pub written_attribute : (given : Given) (name value written : List ℕ) (kind : ValueKind) → kind_of name ≡ Some kind → Some written ≡ written_value given kind value → chars name ≡ name → to_list (attribute_with name (written_value_of_kind given (kind_of name) value)) ≡ attribute (chars name) written ∷ []
written_attribute given name value written kind k w same_name = rw (k, sym w, same_name) refl

pub on_ok_map : {X E : Type 0} (r : Result X E) (P Q : Type 0) → (P → Q) → OnOk r P → OnOk r Q
on_ok_map (Ok x) P Q f h = f h
on_ok_map (Err e) P Q f h = h
