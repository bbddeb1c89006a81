-- Elements and their names.
use Rattle.std.proofs.Common.{◌≡◌, ◌<◌, ℕ, Bool, true, false, not, ◌||◌, ◌==◌, List, [], arith, inl, inr, refl, sym, ap, ◌∙◌, nat_eq, slice_index_or, eq-eqb, eqb-true}
use Rattle.std.proofs.lemmas.Bool.{cases_Bool}
use Rattle.std.specs.List.{list_all, position_or_len}
use Rattle.html_syntax.specs.Tokenizer.{same, is_among}
use Rattle.html_tokens.specs.Tags.{is_word_char, initial}
use Rattle.html_rules.specs.Tables.{Name, message_elements, is_message_element}
use Rattle.html_rules.proofs.Facts.{among_all, same-true, same-refl}
use Rattle.html_wash.specs.Elements.{name_of, number_of}
use Rattle.html_wash.specs.declared.element.Element.{Element}
use Rattle.html_wash.specs.declared.element.Element.TheVariants as element
use Rattle.html_wash.specs.contracts.element.Element.{the_type}
use denote.Enum.Declared.{tag_of}

pub is_element : (e : Element) → is_message_element (name_of e) ≡ true
unfolding is_message_element message_elements
is_element element.A = refl
is_element _ = refl

-- what holds of all names of elements
pub of_name : (p : Name → Bool) → list_all p message_elements ≡ true → (e : Element) → p (name_of e) ≡ true
unfolding is_message_element
of_name p h e = among_all p message_elements (name_of e) h (is_element e)

pub is_word : (e : Element) → list_all is_word_char (name_of e) ≡ true
unfolding message_elements
is_word e = of_name (λ name. list_all is_word_char name) refl e

-- ---- tags of the enum

place : Name → ℕ
place name = position_or_len (λ n. same n name) message_elements

tag_is_place : (e : Element) → tag_of the_type e ≡ place (name_of e)
unfolding place message_elements
tag_is_place element.A = refl
tag_is_place _ = refl

name_at_tag : (e : Element) → name_of e ≡ slice_index_or message_elements (tag_of the_type e) []
unfolding message_elements
name_at_tag element.A = refl
name_at_tag _ = refl

pub number_is_tag : (e : Element) → number_of e ≡ tag_of the_type e
unfolding number_of place
number_is_tag e = sym (tag_is_place e)

pub number_below : (e : Element) → number_of e < 58
unfolding number_of message_elements
number_below element.A = omega arith
number_below _ = omega arith

-- elements of one number have one name
pub same_numbers : (a b : Element) → number_of a ≡ number_of b → name_of a ≡ name_of b
same_numbers a b e =
    let tags : tag_of the_type a ≡ tag_of the_type b = sym (number_is_tag a) ∙ e ∙ number_is_tag b in
    name_at_tag a ∙ ap (λ n. slice_index_or message_elements n []) tags ∙ sym (name_at_tag b)

pub same_tags : (a b : Element) → nat_eq (tag_of the_type a) (tag_of the_type b) ≡ same (name_of a) (name_of b)
same_tags a b =
    elim (nat_eq (tag_of the_type a) (tag_of the_type b)) as (λ t. nat_eq (tag_of the_type a) (tag_of the_type b) ≡ t → t ≡ same (name_of a) (name_of b)) [
      | true ↦ λ e.
          let tags : tag_of the_type a ≡ tag_of the_type b = eqb-true _ _ e in
          let names : name_of a ≡ name_of b = name_at_tag a ∙ ap (λ n. slice_index_or message_elements n []) tags ∙ sym (name_at_tag b) in
          sym (ap (λ n. same n (name_of b)) names ∙ same-refl (name_of b))
      | false ↦ λ e.
          elim (same (name_of a) (name_of b)) as (λ t. same (name_of a) (name_of b) ≡ t → false ≡ t) [
            | true ↦ λ s.
                let names : name_of a ≡ name_of b = same-true (name_of a) (name_of b) s in
                let tags : tag_of the_type a ≡ tag_of the_type b = tag_is_place a ∙ ap place names ∙ sym (tag_is_place b) in
                sym e ∙ eq-eqb _ _ tags
            | false ↦ λ s. refl
          ] refl
    ] refl

-- ---- elements by the letter that their names begin with

-- the name is listed, or begins with another letter
abbrev pub is_covered : ℕ → List Name → Name → Bool
is_covered letter listed name = not (initial name == letter) || is_among listed name

not_covered : {P : Type 0} (same listed : Bool) → same ≡ true → listed ≡ false → (not same || listed) ≡ true → P
not_covered true true s l h = absurd cc
not_covered true false s l h = absurd cc
not_covered false listed s l h = absurd cc

pub found_by_initial : (letter : ℕ) (listed : List Name) → list_all (is_covered letter listed) message_elements ≡ true → list_all is_message_element listed ≡ true
    → (name : Name) → initial name ≡ letter → is_among listed name ≡ is_message_element name
unfolding is_message_element
found_by_initial letter listed covered listed_all name e = elim (cases_Bool (is_among listed name)) [
  | inl there ↦ there ∙ sym (among_all is_message_element listed name listed_all there)
  | inr not_there ↦ elim (cases_Bool (is_message_element name)) [
    | inl is ↦
        not_covered (initial name == letter) (is_among listed name) (eq-eqb (initial name) letter e) not_there (among_all (is_covered letter listed) message_elements name covered is)
    | inr other ↦ not_there ∙ sym other
  ]
]
