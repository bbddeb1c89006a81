-- Identifiers that count are ASCII, so that their text is read as it is.
use Rattle.std.proofs.Common.{◌≡◌, ℕ, true, Option, Some, None, codes, get_or, List, [], ◌∷◌, length, take, refl, arith, inl, inr}
use Rattle.std.specs.Prelude.{◌==◌, nat_le}
use Rattle.std.specs.List.{list_all, flat_map}
use Rattle.std.specs.Str.{IsAscii}
use Rattle.std.specs.Str.Lossy.{utf8_lossy}
use Rattle.std.proofs.lemmas.Bool.{and_parts, cases_Bool}
use Rattle.std.proofs.lemmas.Str.{utf8_lossy-IsUtf8, IsUtf8-from_ascii}
use Rattle.std.proofs.lemmas.Str.Ascii.{IsAscii-from_all}
use Rattle.std.proofs.lemmas.List.Sums.{AllPass-from_list_all}
use Rattle.compose_drafts.proofs.Unbroken.{all_append, all_filter, all_weaker, both}
use Rattle.compose_drafts.specs.Paragraphs.{is_ascii}
use Rattle.compose_drafts.specs.References.{is_visible, is_writable}
use Rattle.compose_drafts.specs.Texts.{in_angles}
use Rattle.header_words.specs.Fields.{FieldValue, Header, first_of}
use Rattle.header_words.specs.MessageIds.{ids_in}
use Rattle.header_words.specs.Value.{unfolded}
use Rattle.draft_sources.specs.Refs.{ids_of, ids_of_field, ids_text, next_id, parents_of, references_or, reply_ids}

field_counted : (field : Option FieldValue) → list_all is_writable (ids_of_field field) ≡ true
field_counted (Some field) = all_filter is_writable (ids_in (unfolded field.lines))
field_counted None = refl

pub counted : (name : List ℕ) (header : Header) → list_all is_writable (ids_of name header) ≡ true
unfolding ids_of
counted name header = field_counted (first_of name header.fields)

first_counted : (ids : List (List ℕ)) → list_all is_writable ids ≡ true → list_all is_writable (take 1 ids) ≡ true
first_counted [] h = refl
first_counted (id ∷ ids) h = both (is_writable id) true (and_parts (is_writable id) (list_all is_writable ids) h).0 refl

or_counted : (references others : List (List ℕ)) → list_all is_writable references ≡ true → list_all is_writable others ≡ true → list_all is_writable (references_or references others) ≡ true
or_counted references others h o = elim (cases_Bool (length references == 0)) [
  | inl e ↦ rw e (first_counted others o)
  | inr e ↦ rw e h
]

pub reply_counted : (header : Header) → list_all is_writable (reply_ids header) ≡ true
reply_counted header =
    all_append is_writable (parents_of header) (take 1 (ids_of (codes "Message-ID") header))
    (or_counted (ids_of (codes "References") header) (ids_of (codes "In-Reply-To") header) (counted (codes "References") header) (counted (codes "In-Reply-To") header))
    (first_counted (ids_of (codes "Message-ID") header) (counted (codes "Message-ID") header))

visible_ascii : (c : ℕ) → is_visible c ≡ true → is_ascii c ≡ true
visible_ascii c h = grind arith

angles_ascii : (id : List ℕ) → is_writable id ≡ true → list_all is_ascii (in_angles id) ≡ true
angles_ascii id h =
    let inside : list_all is_ascii id ≡ true = all_weaker is_visible is_ascii visible_ascii id (and_parts (nat_le (length id) 200) (list_all is_visible id) h).1 in
    all_append is_ascii id (62 ∷ []) inside refl

more_ascii : (ids : List (List ℕ)) → list_all is_writable ids ≡ true → list_all is_ascii (flat_map next_id ids) ≡ true
more_ascii [] h = refl
more_ascii (id ∷ ids) h =
    let parts = and_parts (is_writable id) (list_all is_writable ids) h in
    all_append is_ascii (next_id id) (flat_map next_id ids) (angles_ascii id parts.0) (more_ascii ids parts.1)

text_ascii : (ids : List (List ℕ)) → list_all is_writable ids ≡ true → list_all is_ascii (ids_text ids) ≡ true
text_ascii [] h = refl
text_ascii (id ∷ ids) h =
    let parts = and_parts (is_writable id) (list_all is_writable ids) h in
    all_append is_ascii (in_angles id) (flat_map next_id ids) (angles_ascii id parts.0) (more_ascii ids parts.1)

ascii : (text : List ℕ) → list_all is_ascii text ≡ true → IsAscii text
ascii text h = IsAscii-from_all text (λ k d within. let one : is_ascii (get_or text k d) ≡ true = AllPass-from_list_all is_ascii text h k d within in grind arith)

pub ids_are_text : (ids : List (List ℕ)) → list_all is_writable ids ≡ true → utf8_lossy (ids_text ids) ≡ ids_text ids
ids_are_text ids h = utf8_lossy-IsUtf8 (ids_text ids) (IsUtf8-from_ascii (ids_text ids) (ascii (ids_text ids) (text_ascii ids h)))
