-- The rows of attributes: each element is in one row at most, so its attributes are those of the first row that has it.
use Rattle.std.proofs.Common.{◌≡◌, Bool, true, false, not, ◌&&◌, ◌||◌, List, [], ◌∷◌, ◌++◌, refl, sym, ap, ◌∙◌, inl, inr}
use Rattle.std.proofs.lemmas.Bool.{cases_Bool}
use Rattle.std.proofs.lemmas.List.Folds.{list_any-append}
use Rattle.std.specs.List.{list_all, list_any}
use Rattle.html_syntax.specs.Tokenizer.{is_among, same}
use Rattle.html_rules.specs.Tables.{Name, AttributeRow, common_attributes, attribute_rows, is_listed_attribute}
use Rattle.html_rules.proofs.Facts.{and_true, among_all}
use Rattle.wash_attributes.specs.Listed.{are_words, attributes_in}

abbrev has_element : Name → AttributeRow → Bool
has_element element row = is_among row.elements element

abbrev lists : Name → Name → AttributeRow → Bool
lists element name row = is_among row.elements element && is_among row.attributes name

-- no element of a row is in a later one
pub are_disjoint : List AttributeRow → Bool
are_disjoint [] = true
are_disjoint (row ∷ rows) = list_all (λ element. not (list_any (has_element element) rows)) row.elements && are_disjoint rows

in_no_row : (rows : List AttributeRow) (element name : Name) → list_any (has_element element) rows ≡ false → list_any (lists element name) rows ≡ false
in_no_row [] element name h = refl
in_no_row (row ∷ rows) element name h =
    elim (cases_Bool (is_among row.elements element)) [
      | inl there ↦ let no : true ≡ false = ap (λ b. b || list_any (has_element element) rows) (sym there) ∙ h in absurd cc
      | inr not_there ↦ let rest : list_any (has_element element) rows ≡ false = ap (λ b. b || list_any (has_element element) rows) (sym not_there) ∙ h in rw not_there (in_no_row rows element name rest)
    ]

no_of_not : (b : Bool) → not b ≡ true → b ≡ false
no_of_not true h = absurd cc
no_of_not false h = refl

or_no : (b : Bool) → (b || false) ≡ b
or_no true = refl
or_no false = refl

in_one_row : (rows : List AttributeRow) (element name : Name) → are_disjoint rows ≡ true → list_any (lists element name) rows ≡ is_among (attributes_in rows element) name
unfolding are_disjoint
in_one_row [] element name h = refl
in_one_row (row ∷ rows) element name h =
    let both = and_true (list_all (λ e. not (list_any (has_element e) rows)) row.elements) (are_disjoint rows) h in
    elim (cases_Bool (is_among row.elements element)) [
      | inl there ↦
          let later : list_any (has_element element) rows ≡ false = no_of_not (list_any (has_element element) rows) (among_all (λ e. not (list_any (has_element e) rows)) row.elements element both.0 there) in
          rw (there, in_no_row rows element name later) (or_no (is_among row.attributes name))
      | inr not_there ↦ rw not_there (in_one_row rows element name both.1)
    ]

rows_are_disjoint : are_disjoint attribute_rows ≡ true
unfolding are_disjoint attribute_rows
rows_are_disjoint = refl

-- the attributes that are listed for an element
pub listed_in_row : (element name : Name) → is_listed_attribute element name ≡ is_among (common_attributes ++ attributes_in attribute_rows element) name
unfolding is_listed_attribute
listed_in_row element name =
    ap (λ b. is_among common_attributes name || b) (in_one_row attribute_rows element name rows_are_disjoint)
    ∙ sym (list_any-append (λ n. same n name) common_attributes (attributes_in attribute_rows element))

words_in : (rows : List AttributeRow) (element : Name) → list_all (λ row. are_words row.attributes) rows ≡ true → are_words (attributes_in rows element) ≡ true
words_in [] element h = refl
words_in (row ∷ rows) element h =
    let both = and_true (are_words row.attributes) (list_all (λ row. are_words row.attributes) rows) h in
    elim (cases_Bool (is_among row.elements element)) [
      | inl there ↦ rw there both.0
      | inr not_there ↦ rw not_there (words_in rows element both.1)
    ]

pub words_in_row : (element : Name) → are_words (attributes_in attribute_rows element) ≡ true
unfolding attribute_rows
words_in_row element = words_in attribute_rows element refl
