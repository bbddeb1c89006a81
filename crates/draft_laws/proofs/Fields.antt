-- The Content-* fields of a built message.
use Rattle.std.proofs.Common.{◌≡◌, ◌<◌, ℕ, inl, inr, Bool, true, false, not, List, [], ◌∷◌, ◌++◌, get_or, append_assoc, refl, sym, ap, ◌∙◌, arith}
use Rattle.std.specs.Prelude.{if◌then◌else◌, Option, Some, None, codes, find, take_while}
use Rattle.std.specs.List.{flat_map, list_all}
use Rattle.std.specs.Str.{str_eq_ignore_ascii_case}
use Rattle.std.specs.Str.Lines.{lines}
use Rattle.std.proofs.lemmas.Bool.{and_parts, cases_Bool, not-true}
use Rattle.std.proofs.lemmas.List.Concat.{flat_map-append}
use Rattle.std.proofs.lemmas.List.Folds.{list_all-map}
use Rattle.std.proofs.lemmas.List.Sums.{AllPass-from_list_all, take_while-cons}
use Rattle.header_words.specs.Fields.{FieldValue, begins_field, field_of, fields_of, first_of, has_name, header_of, name_of, own_lines}
use Rattle.header_words.specs.Lines.{is_filled}
use Rattle.jiff_core.specs.declared.civil.datetime.DateTime.{DateTime}
use Rattle.mime_content.specs.declared.content.Content.{Content}
use Rattle.mime_content.specs.Content.{content_of, content_said, field_value, readable, value_of_field}
use Rattle.site_asks.specs.declared.Draft.{Draft}
use Rattle.compose_drafts.specs.declared.parties.Parties.{Parties}
use Rattle.compose_drafts.specs.Lines.{is_line}
use Rattle.compose_drafts.specs.Message.{body, header, ids_or_none, message, optional, own_id}
use Rattle.compose_drafts.specs.Moments.{date_text}
use Rattle.compose_drafts.specs.Paragraphs.{coded, coding_name, is_seven_bit}
use Rattle.compose_drafts.specs.References.{last_of_ids, references_of}
use Rattle.compose_drafts.specs.Texts.{ended, line_end, written}
use Rattle.compose_drafts.proofs.MessageLines.{HavePartyLines, form, front, front_lines, header_split}
use Rattle.compose_drafts.proofs.Unbroken.{all_append, both}
use Rattle.compose_drafts.proofs.WholeLines.{AreFields, taken_lines}

-- ---- fields after others

own_append : (lines : List (List ℕ)) (line : List ℕ) (more : List (List ℕ)) → begins_field line ≡ true → own_lines (lines ++ line ∷ more) ≡ own_lines lines
own_append [] line more b = take_while-cons (λ l. not (begins_field l)) line more ∙ rw b refl
own_append (first ∷ lines) line more b =
    take_while-cons (λ l. not (begins_field l)) first (lines ++ line ∷ more) ∙ ap (λ ls. if not (begins_field first) then first ∷ ls else []) (own_append lines line more b)
    ∙ sym (take_while-cons (λ l. not (begins_field l)) first lines)

pub fields_append : (lines : List (List ℕ)) (line : List ℕ) (more : List (List ℕ)) → begins_field line ≡ true → fields_of (lines ++ line ∷ more) ≡ fields_of lines ++ fields_of (line ∷ more)
fields_append [] line more b = refl
fields_append (first ∷ lines) line more b = elim (cases_Bool (begins_field first)) [
  | inl e ↦ rw e (ap (λ own. field_of first own ∷ fields_of (lines ++ line ∷ more)) (own_append lines line more b) ∙ ap (λ fs. field_of first (own_lines lines) ∷ fs) (fields_append lines line more b))
  | inr e ↦ rw e (fields_append lines line more b)
]

pub find_after : {X : Type 0} (p : X → Bool) (front more : List X) → list_all (λ x. not (p x)) front ≡ true → find p (front ++ more) ≡ find p more
find_after p [] more h = refl
find_after p (x ∷ front) more h =
    let cut = and_parts (not (p x)) (list_all (λ y. not (p y)) front) h in
    let other : p x ≡ false = not-true (p x) cut.0 in
    rw other (find_after p front more cut.1)

-- ---- the names before them

abbrev pub is_other : List ℕ → List ℕ → Bool
is_other name found = not (str_eq_ignore_ascii_case found name)

-- the names of the fields before those of the body's form
abbrev front_names : List (List ℕ)
front_names = codes "Date" ∷ codes "From" ∷ codes "To" ∷ codes "Cc" ∷ codes "Subject" ∷ codes "In-Reply-To" ∷ codes "References" ∷ codes "Message-ID" ∷ []

pub all_eight : (q : List ℕ → Bool) (a b c d e f g h : List (List ℕ)) → list_all q a ≡ true → list_all q b ≡ true → list_all q c ≡ true → list_all q d ≡ true → list_all q e ≡ true → list_all q f ≡ true → list_all q g ≡ true → list_all q h ≡ true
    → list_all q (a ++ b ++ c ++ d ++ e ++ f ++ g ++ h) ≡ true
all_eight q a b c d e f g h a' b' c' d' e' f' g' h' =
    all_append q (a ++ b ++ c ++ d ++ e ++ f ++ g) h (all_append q (a ++ b ++ c ++ d ++ e ++ f) g (all_append q (a ++ b ++ c ++ d ++ e) f (all_append q (a ++ b ++ c ++ d) e (all_append q (a ++ b ++ c) d
    (all_append q (a ++ b) c (all_append q a b a' b') c') d') e') f') g') h'

pub optional_all : (p : List ℕ → Bool) (front : List ℕ) (value : Option (List ℕ)) → ((v : List ℕ) → p (name_of (front ++ v)) ≡ true) → list_all (λ field. p (name_of field)) (optional front value) ≡ true
optional_all p front None each = refl
optional_all p front (Some v) each = both (p (name_of (front ++ v))) true (each v) refl

front_all : (p : List ℕ → Bool) → list_all p front_names ≡ true → (draft : Draft) (parties : Parties) (clock : DateTime) → list_all (λ field. p (name_of field)) (front draft parties clock) ≡ true
front_all p h draft parties clock =
    let at : (k : ℕ) → k < 8 → p (get_or front_names k []) ≡ true = λ k within. AllPass-from_list_all p front_names h k [] within in
    all_eight (λ field. p (name_of field)) ((codes "Date: " ++ date_text clock) ∷ []) (optional (codes "From: ") parties.from) (optional (codes "To: ") parties.to) (optional (codes "Cc: ") parties.cc) ((codes "Subject: " ++ written draft.subject) ∷ [])
    (optional (codes "In-Reply-To: ") (ids_or_none (last_of_ids 1 (references_of draft.refs)))) (optional (codes "References: ") (ids_or_none (references_of draft.refs)))
    ((codes "Message-ID: " ++ own_id draft.form parties.domain) ∷ [])
    (both (p (codes "Date")) true (at 0 (omega arith)) refl) (optional_all p (codes "From: ") parties.from (λ v. at 1 (omega arith))) (optional_all p (codes "To: ") parties.to (λ v. at 2 (omega arith)))
    (optional_all p (codes "Cc: ") parties.cc (λ v. at 3 (omega arith))) (both (p (codes "Subject")) true (at 4 (omega arith)) refl) (optional_all p (codes "In-Reply-To: ") (ids_or_none (last_of_ids 1 (references_of draft.refs))) (λ v. at 5 (omega arith)))
    (optional_all p (codes "References: ") (ids_or_none (references_of draft.refs)) (λ v. at 6 (omega arith))) (both (p (codes "Message-ID")) true (at 7 (omega arith)) refl)

others : (name : List ℕ) → list_all (is_other name) front_names ≡ true → (draft : Draft) (parties : Parties) (clock : DateTime) (a : AreFields (front draft parties clock)) → list_all (λ field. not (has_name name field)) (fields_of a.lines) ≡ true
others name h draft parties clock a =
    sym (list_all-map (is_other name) (λ (field : FieldValue). field.name) (fields_of a.lines)) ∙ ap (list_all (is_other name)) a.names_are ∙ list_all-map (is_other name) name_of (front draft parties clock)
    ∙ front_all (is_other name) h draft parties clock

-- ---- the fields of a message

form_all : (seven_bit : Bool) → (list_all is_line (form seven_bit) ≡ true) × (list_all is_filled (form seven_bit) ≡ true)
form_all true = (refl, refl)
form_all false = (refl, refl)

message_fields : (draft : Draft) (parties : Parties) (clock : DateTime) (h : HavePartyLines parties) → (header_of (message draft parties clock)).fields ≡ fields_of ((front_lines draft parties clock h).lines ++ form (is_seven_bit (body draft)))
unfolding message header_of
message_fields draft parties clock h =
    let seven_bit : Bool = is_seven_bit (body draft) in
    let after : List ℕ = coded seven_bit (body draft) in
    let a = front_lines draft parties clock h in
    let found : List (List ℕ) = a.lines ++ form seven_bit in
    let fields : flat_map ended (header draft parties clock seven_bit) ≡ flat_map ended found =
    ap (flat_map ended) (header_split draft parties clock seven_bit) ∙ flat_map-append ended (front draft parties clock) (form seven_bit) ∙ ap (λ t. t ++ flat_map ended (form seven_bit)) a.bytes_are ∙ sym (flat_map-append ended a.lines (form seven_bit)) in
    let cut : (flat_map ended (header draft parties clock seven_bit) ++ line_end) ++ after ≡ flat_map ended found ++ 13 ∷ 10 ∷ after = append_assoc (flat_map ended (header draft parties clock seven_bit)) line_end after ∙ ap (λ t. t ++ (13 ∷ 10 ∷ after)) fields in
    ap (λ t. fields_of (take_while is_filled (lines t))) cut
    ∙ ap fields_of (taken_lines found after (all_append is_line a.lines (form seven_bit) a.are_lines (form_all seven_bit).0) (all_append is_filled a.lines (form seven_bit) a.are_filled (form_all seven_bit).1))

form_fields : (lines : List (List ℕ)) (seven_bit : Bool) → fields_of (lines ++ form seven_bit) ≡ fields_of lines ++ fields_of (form seven_bit)
form_fields lines seven_bit = fields_append lines (codes "MIME-Version: 1.0") (codes "Content-Type: text/plain; charset=utf-8; format=flowed" ∷ (codes "Content-Transfer-Encoding: " ++ coding_name seven_bit) ∷ []) refl

-- a field of a message that isn't one before those of the body's form
form_value : (name : List ℕ) → list_all (is_other name) front_names ≡ true → (draft : Draft) (parties : Parties) (clock : DateTime) → HavePartyLines parties
    → field_value name (header_of (message draft parties clock)).fields ≡ field_value name (fields_of (form (is_seven_bit (body draft))))
form_value name other draft parties clock h =
    let a = front_lines draft parties clock h in
    let after : List FieldValue = fields_of (form (is_seven_bit (body draft))) in
    ap value_of_field (ap (first_of name) (message_fields draft parties clock h ∙ form_fields a.lines (is_seven_bit (body draft))) ∙ find_after (has_name name) (fields_of a.lines) after (others name other draft parties clock a))

content_same : (default : List ℕ) (a b : List FieldValue) → field_value (codes "Content-Type") a ≡ field_value (codes "Content-Type") b → field_value (codes "Content-Disposition") a ≡ field_value (codes "Content-Disposition") b
    → field_value (codes "Content-Transfer-Encoding") a ≡ field_value (codes "Content-Transfer-Encoding") b → field_value (codes "Content-ID") a ≡ field_value (codes "Content-ID") b → field_value (codes "Content-Location") a ≡ field_value (codes "Content-Location") b
    → content_of default a ≡ content_of default b
unfolding content_of
content_same default a b kind disposition coding id location =
    ap (λ v. content_said default (readable v) (field_value (codes "Content-Disposition") a) (field_value (codes "Content-Transfer-Encoding") a) (field_value (codes "Content-ID") a) (field_value (codes "Content-Location") a)) kind
    ∙ ap (λ v. content_said default (readable (field_value (codes "Content-Type") b)) v (field_value (codes "Content-Transfer-Encoding") a) (field_value (codes "Content-ID") a) (field_value (codes "Content-Location") a)) disposition
    ∙ ap (λ v. content_said default (readable (field_value (codes "Content-Type") b)) (field_value (codes "Content-Disposition") b) v (field_value (codes "Content-ID") a) (field_value (codes "Content-Location") a)) coding
    ∙ ap (λ v. content_said default (readable (field_value (codes "Content-Type") b)) (field_value (codes "Content-Disposition") b) (field_value (codes "Content-Transfer-Encoding") b) v (field_value (codes "Content-Location") a)) id
    ∙ ap (λ v. content_said default (readable (field_value (codes "Content-Type") b)) (field_value (codes "Content-Disposition") b) (field_value (codes "Content-Transfer-Encoding") b) (field_value (codes "Content-ID") b) v) location

-- the content that the fields of the body's form say
abbrev pub form_content : Bool → Content
form_content seven_bit = content_of (codes "text/plain") (fields_of (form seven_bit))

pub message_content : (draft : Draft) (parties : Parties) (clock : DateTime) → HavePartyLines parties → content_of (codes "text/plain") (header_of (message draft parties clock)).fields ≡ form_content (is_seven_bit (body draft))
message_content draft parties clock h =
    content_same (codes "text/plain") (header_of (message draft parties clock)).fields (fields_of (form (is_seven_bit (body draft)))) (form_value (codes "Content-Type") refl draft parties clock h) (form_value (codes "Content-Disposition") refl draft parties clock h)
    (form_value (codes "Content-Transfer-Encoding") refl draft parties clock h) (form_value (codes "Content-ID") refl draft parties clock h) (form_value (codes "Content-Location") refl draft parties clock h)
