-- What the tables say of the names of listed attributes.
use Rattle.std.proofs.Common.{◌≡◌, Bool, true, false, not, ◌&&◌, ◌||◌, List, [], ◌∷◌, codes, refl, ap, ◌∙◌, ℕ, Some}
use Rattle.std.specs.List.{list_all, list_any}
use Rattle.html_syntax.specs.Tokenizer.{is_among, same}
use Rattle.html_rules.specs.Tables.{Name, AttributeRow, common_attributes, attribute_rows, is_listed_attribute, is_attribute_name, link_attributes, frame_attributes}
use Rattle.std.specs.Str.{bytes_eq}
use Rattle.html_rules.specs.Tables.{kind_of}
use Rattle.html_rules.specs.declared.ValueKind.{ValueKind}
use Rattle.html_rules.proofs.Facts.{and_true, among_all}
use Rattle.style_wash.proofs.Facts.{bytes_eq-true}

pub or_true : (a b : Bool) (P : Type 0) → (a || b) ≡ true → (a ≡ true → P) → (b ≡ true → P) → P
or_true true b P h f g = f refl
or_true false b P h f g = g h

-- a name that a page may have, and none of the two that protect links
abbrev pub is_plain_name : Name → Bool
is_plain_name name = is_attribute_name name && (not (same name (codes "rel")) && not (same name (codes "target")))

abbrev is_in_row : Name → Name → AttributeRow → Bool
is_in_row element name r = is_among r.elements element && is_among r.attributes name

rows_all : (p : Name → Bool) (rows : List AttributeRow) (element name : Name) → list_all (λ r. list_all p r.attributes) rows ≡ true → list_any (λ r. is_among r.elements element && is_among r.attributes name) rows ≡ true → p name ≡ true
rows_all p [] element name all h = absurd cc
rows_all p (r ∷ rows) element name all h =
    let both = and_true (list_all p r.attributes) (list_all (λ (r : AttributeRow). list_all p r.attributes) rows) all in
    or_true (is_in_row element name r) (list_any (is_in_row element name) rows) (p name ≡ true) h
    (λ e. among_all p r.attributes name both.0 (and_true (is_among r.elements element) (is_among r.attributes name) e).1)
    (λ e. rows_all p rows element name both.1 e)

pub listed_name : (element name : Name) → is_listed_attribute element name ≡ true → is_plain_name name ≡ true
unfolding is_listed_attribute common_attributes attribute_rows is_attribute_name link_attributes frame_attributes
listed_name element name h =
    or_true (is_among common_attributes name) (list_any (is_in_row element name) attribute_rows) (is_plain_name name ≡ true) h
    (λ e. among_all is_plain_name common_attributes name refl e)
    (λ e. rows_all is_plain_name attribute_rows element name refl e)

-- a name has the kind of the word that it is
pub kind_by_name : (name word : List ℕ) (kind : ValueKind) → bytes_eq name word ≡ true → kind_of word ≡ Some kind → kind_of name ≡ Some kind
kind_by_name name word kind e is = ap kind_of (bytes_eq-true name word e) ∙ is
