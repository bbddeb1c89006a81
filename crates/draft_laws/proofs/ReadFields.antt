-- The fields To and Cc of a built message are read with the addresses of their boxes.
use Rattle.std.proofs.Common.{◌≡◌, ◌<◌, ℕ, Bool, true, false, not, List, [], ◌∷◌, ◌++◌, length, get_or, append_assoc, refl, sym, ap, subst, ◌∙◌, arith}
use Rattle.std.specs.Prelude.{◌==◌, nat_lt, Some, None, codes, find, take_while}
use Rattle.std.specs.List.{filter, flat_map, list_all}
use Rattle.std.specs.Str.{str_eq_ignore_ascii_case}
use Rattle.std.specs.Str.Lines.{lines}
use Rattle.std.proofs.lemmas.Bool.{and_parts, eqb-true, not-true}
use Rattle.std.proofs.lemmas.Bool.Decides.{nat_tests}
use Rattle.std.proofs.lemmas.List.{append-nil}
use Rattle.std.proofs.lemmas.List.Concat.{flat_map-append}
use Rattle.std.proofs.lemmas.List.Folds.{list_all-map}
use Rattle.std.proofs.lemmas.List.Sums.{AllPass-from_list_all, take_while-cons}
use Rattle.header_words.specs.Fields.{FieldValue, begins_field, fields_of, first_of, has_name, header_of, is_continuation, name_of, own_lines, value_of}
use Rattle.header_words.specs.Lines.{is_filled}
use Rattle.header_words.specs.Value.{unfolded, unfolded_line, without_front}
use Rattle.jiff_core.specs.declared.civil.datetime.DateTime.{DateTime}
use Rattle.mail_addresses.specs.declared.Mailbox.{Mailbox}
use Rattle.mail_addresses.specs.Boxes.{boxes_of, boxes_within}
use Rattle.mime_content.specs.Content.{value_of_field}
use Rattle.site_asks.specs.declared.Draft.{Draft}
use Rattle.compose_drafts.specs.declared.parties.Parties.{Parties}
use Rattle.compose_drafts.specs.Drafts.{boxes_or_none}
use Rattle.compose_drafts.specs.Lines.{is_line}
use Rattle.compose_drafts.specs.Message.{body, header, ids_or_none, message, optional, own_id}
use Rattle.compose_drafts.specs.Moments.{date_text}
use Rattle.compose_drafts.specs.Paragraphs.{coded, is_seven_bit}
use Rattle.compose_drafts.specs.Recipients.{addresses}
use Rattle.compose_drafts.specs.References.{is_writable, last_of_ids, references_of}
use Rattle.compose_drafts.specs.Texts.{boxes_text, ended, fold, line_end, written}
use Rattle.compose_drafts.proofs.AddressLines.{HaveLines}
use Rattle.compose_drafts.proofs.MessageLines.{HavePartyLines, date_line, form, header_split, ids_field, joined, own_line, references_writable}
use Rattle.compose_drafts.proofs.Unbroken.{all_append, all_drop, box_unbroken, both, written_unbroken}
use Rattle.compose_drafts.proofs.WholeLines.{AreFields, fields_join, front_begins, line_field, names_append, names_of, optional_field, spaced, taken_lines}
use Rattle.draft_laws.specs.Envelopes.{addresses_read, read_addresses}
use Rattle.draft_laws.proofs.Fields.{find_after, fields_append, is_other, optional_all}
use Rattle.draft_laws.proofs.ReadBoxes.{HaveAddresses, IsAddress, Starts, box_starts, field_reads, more_text, text_of}

-- ---- the lines of boxes, each but the first after a fold

abbrev more_lines : List ℕ → List Mailbox → List (List ℕ)
more_lines front [] = front ∷ []
more_lines front (box ∷ boxes) = (front ++ 44 ∷ []) ∷ more_lines (32 ∷ text_of box) boxes

lines_bytes : (front : List ℕ) (boxes : List Mailbox) → ended (front ++ flat_map (λ box. (44 ∷ fold) ++ text_of box) boxes) ≡ flat_map ended (more_lines front boxes)
lines_bytes front [] = ap ended (append-nil front) ∙ sym (append-nil (ended front))
lines_bytes front (box ∷ boxes) =
    let rest : List ℕ = flat_map (λ one. (44 ∷ fold) ++ text_of one) boxes in
    let cut : ended (front ++ (((44 ∷ fold) ++ text_of box) ++ rest)) ≡ ended (front ++ 44 ∷ []) ++ ended ((32 ∷ text_of box) ++ rest) = simp append_assoc refl in
    cut ∙ ap (λ t. ended (front ++ 44 ∷ []) ++ t) (lines_bytes (32 ∷ text_of box) boxes)

lines_are : (front : List ℕ) (boxes : List Mailbox) → is_line front ≡ true → HaveLines boxes → list_all is_line (more_lines front boxes) ≡ true
lines_are front [] f h = both (is_line front) true f refl
lines_are front (box ∷ boxes) f h =
    let cut = and_parts (is_line box.address) (list_all (λ one. is_line one.address) boxes) h in
    both (is_line (front ++ 44 ∷ [])) (list_all is_line (more_lines (32 ∷ text_of box) boxes)) (all_append _ front (44 ∷ []) f refl) (lines_are (32 ∷ text_of box) boxes (box_unbroken box.name box.address cut.0) cut.1)

lines_filled : (c : ℕ) (front : List ℕ) (boxes : List Mailbox) → list_all is_filled (more_lines (c ∷ front) boxes) ≡ true
lines_filled c front [] = both (is_filled (c ∷ front)) true (grind (arith, nat_tests)) refl
lines_filled c front (box ∷ boxes) = both (is_filled (c ∷ (front ++ 44 ∷ []))) (list_all is_filled (more_lines (32 ∷ text_of box) boxes)) (grind (arith, nat_tests)) (lines_filled 32 (text_of box) boxes)

-- ---- their value

bright_front : (text : List ℕ) → Starts text → without_front (32 ∷ text) ≡ text
bright_front text s =
    let bright = s.bright in
    let read : without_front (32 ∷ s.first ∷ s.rest) ≡ s.first ∷ s.rest = rw bright refl in
    ap (λ t. without_front (32 ∷ t)) s.parts ∙ read ∙ sym s.parts

unfolded_more : (box : Mailbox) (boxes : List Mailbox) → IsAddress box.address → HaveAddresses boxes → flat_map unfolded_line (more_lines (32 ∷ text_of box) boxes) ≡ 32 ∷ (text_of box ++ more_text boxes)
unfolded_more box [] a h =
    let bright : without_front (32 ∷ text_of box) ≡ text_of box = bright_front (text_of box) (subst Starts (append-nil (text_of box)) (box_starts box [] a)) in
    ap (λ t. (32 ∷ t) ++ []) bright
unfolded_more box (next ∷ boxes) a h =
    let bright : without_front (32 ∷ (text_of box ++ 44 ∷ [])) ≡ text_of box ++ 44 ∷ [] = bright_front (text_of box ++ 44 ∷ []) (box_starts box (44 ∷ []) a) in
    let after : List ℕ = 32 ∷ (text_of next ++ more_text boxes) in
    ap (λ t. (32 ∷ t) ++ flat_map unfolded_line (more_lines (32 ∷ text_of next) boxes)) bright ∙ ap (λ t. (32 ∷ (text_of box ++ 44 ∷ [])) ++ t) (unfolded_more next boxes h.0 h.1)
    ∙ ap (λ t. 32 ∷ t) (append_assoc (text_of box) (44 ∷ []) after)

-- ---- one field

abbrev begins_space : List ℕ → Bool
begins_space [] = false
begins_space (c ∷ text) = c == 32

spaced_more : (text : List ℕ) (boxes : List Mailbox) → list_all begins_space (more_lines (32 ∷ text) boxes) ≡ true
spaced_more text [] = refl
spaced_more text (box ∷ boxes) = spaced_more (text_of box) boxes

record Continues (lines : List (List ℕ)) : Type 0 where
  own : own_lines lines ≡ lines
  kept : filter is_continuation lines ≡ lines
  nothing : fields_of lines ≡ []

continues : (lines : List (List ℕ)) → list_all begins_space lines ≡ true → Continues lines
continues [] h = record { own = refl; kept = refl; nothing = refl }
continues ([] ∷ more) h = cc h
continues ((c ∷ text) ∷ more) h =
    let cut = and_parts (c == 32) (list_all begins_space more) h in
    let line : List ℕ = c ∷ text in
    let other : begins_field line ≡ false = subst (λ k. begins_field (k ∷ text) ≡ false) (sym (eqb-true c 32 cut.0)) (spaced text) in
    let space : c ≡ 32 = eqb-true c 32 cut.0 in
    let filled : nat_lt 0 (length line) ≡ true = grind (arith, nat_tests) in
    let here : is_continuation line ≡ true = both (nat_lt 0 (length line)) _ filled (rw space refl) in
    let rest = continues more cut.1 in
    record {
      own = take_while-cons (λ l. not (begins_field l)) line more ∙ rw other (ap (λ ls. line ∷ ls) rest.own);
      kept = rw here (ap (λ ls. line ∷ ls) rest.kept);
      nothing = rw other rest.nothing;
    }

-- the name of a field in a header, and what is before its value
record IsLabel (name label : List ℕ) : Type 0 where
  line : is_line label ≡ true
  begins : begins_field label ≡ true
  first : ℕ
  more : List ℕ
  parts : label ≡ first ∷ more
  named : (text : List ℕ) → name_of (label ++ text) ≡ name
  valued : (text : List ℕ) → value_of (label ++ text) ≡ 32 ∷ text

-- the lines of a field of boxes, which is left out if there are none
abbrev box_lines : List ℕ → List Mailbox → List (List ℕ)
box_lines label [] = []
box_lines label (box ∷ boxes) = more_lines (label ++ text_of box) boxes

record ReadsBoxes (name label : List ℕ) (box : Mailbox) (boxes : List Mailbox) : Type 0 where
  field : FieldValue
  fields : fields_of (box_lines label (box ∷ boxes)) ≡ field ∷ []
  named : field.name ≡ name
  value : unfolded field.lines ≡ 32 ∷ (text_of box ++ more_text boxes)

first_field : (line : List ℕ) (more : List (List ℕ)) → begins_field line ≡ true → Continues more → fields_of (line ∷ more) ≡ record { name = name_of line; lines = value_of line ∷ more } ∷ []
first_field line more b c = rw (b, c.own, c.kept, c.nothing) refl

boxes_field : (name label : List ℕ) (box : Mailbox) (boxes : List Mailbox) → IsLabel name label → IsAddress box.address → HaveAddresses boxes → ReadsBoxes name label box boxes
boxes_field name label box [] l a h =
    let line : List ℕ = label ++ text_of box in
    record {
      field = record { name = name_of line; lines = value_of line ∷ [] };
      fields = first_field line [] (front_begins label (text_of box) l.begins).begins (record { own = refl; kept = refl; nothing = refl });
      named = l.named (text_of box);
      value = ap (λ t. t ++ []) (l.valued (text_of box));
    }
boxes_field name label box (next ∷ boxes) l a h =
    let line : List ℕ = (label ++ text_of box) ++ 44 ∷ [] in
    let more : List (List ℕ) = more_lines (32 ∷ text_of next) boxes in
    let whole : line ≡ label ++ (text_of box ++ 44 ∷ []) = append_assoc label (text_of box) (44 ∷ []) in
    let after : List ℕ = 32 ∷ (text_of next ++ more_text boxes) in
    record {
      field = record { name = name_of line; lines = value_of line ∷ more };
      fields = first_field line more (subst (λ t. begins_field t ≡ true) (sym whole) (front_begins label (text_of box ++ 44 ∷ []) l.begins).begins) (continues more (spaced_more (text_of next) boxes));
      named = ap name_of whole ∙ l.named (text_of box ++ 44 ∷ []);
      value = ap (λ t. value_of t ++ flat_map unfolded_line more) whole ∙ ap (λ t. t ++ flat_map unfolded_line more) (l.valued (text_of box ++ 44 ∷ []))
          ∙ ap (λ t. (32 ∷ (text_of box ++ 44 ∷ [])) ++ t) (unfolded_more next boxes h.0 h.1) ∙ ap (λ t. 32 ∷ t) (append_assoc (text_of box) (44 ∷ []) after);
    }

-- ---- fields beside others

abbrev starts_field : List (List ℕ) → Bool
starts_field [] = true
starts_field (line ∷ more) = begins_field line

fields_apart : (lines more : List (List ℕ)) → starts_field more ≡ true → fields_of (lines ++ more) ≡ fields_of lines ++ fields_of more
fields_apart lines [] b = ap fields_of (append-nil lines) ∙ sym (append-nil (fields_of lines))
fields_apart lines (line ∷ more) b = fields_append lines line more b

box_begins : (name label : List ℕ) (boxes : List Mailbox) (more : List (List ℕ)) → IsLabel name label → starts_field more ≡ true → starts_field (box_lines label boxes ++ more) ≡ true
box_begins name label [] more l b = b
box_begins name label (box ∷ []) more l b = (front_begins label (text_of box) l.begins).begins
box_begins name label (box ∷ next ∷ boxes) more l b = subst (λ t. begins_field t ≡ true) (sym (append_assoc label (text_of box) (44 ∷ []))) (front_begins label (text_of box ++ 44 ∷ []) l.begins).begins

-- no field of a list has a name
abbrev HaveOther : List ℕ → List FieldValue → Type 0
HaveOther name fields = list_all (λ field. not (has_name name field)) fields ≡ true

other_fields : (name : List ℕ) (lines : List (List ℕ)) → list_all (is_other name) (names_of lines) ≡ true → HaveOther name (fields_of lines)
other_fields name lines h = sym (list_all-map (is_other name) (λ (field : FieldValue). field.name) (fields_of lines)) ∙ h

find_none : {X : Type 0} (p : X → Bool) (xs : List X) → list_all (λ x. not (p x)) xs ≡ true → find p xs ≡ None
find_none p [] h = refl
find_none p (x ∷ xs) h =
    let cut = and_parts (not (p x)) (list_all (λ y. not (p y)) xs) h in
    let other : p x ≡ false = not-true (p x) cut.0 in
    rw other (find_none p xs cut.1)

box_other : (name own label : List ℕ) (boxes : List Mailbox) → IsLabel own label → HaveAddresses boxes → is_other name own ≡ true → HaveOther name (fields_of (box_lines label boxes))
box_other name own label [] l h o = refl
box_other name own label (box ∷ boxes) l h o =
    let one = boxes_field own label box boxes l h.0 h.1 in
    subst (HaveOther name) (sym one.fields) (both (is_other name one.field.name) true (subst (λ n. is_other name n ≡ true) (sym one.named) o) refl)

no_boxes : read_addresses (boxes_of []) ≡ []
unfolding boxes_of boxes_within
no_boxes = refl

-- the addresses in the first field of a name are those of the boxes that it was written from
addresses_field : (name label : List ℕ) (boxes : List Mailbox) (before after : List FieldValue) → IsLabel name label → HaveAddresses boxes → str_eq_ignore_ascii_case name name ≡ true → HaveOther name before → HaveOther name after
    → read_addresses (boxes_of (value_of_field (first_of name (before ++ (fields_of (box_lines label boxes) ++ after))))) ≡ addresses boxes
addresses_field name label [] before after l h same b a =
    ap (λ f. read_addresses (boxes_of (value_of_field f))) (find_after (has_name name) before after b ∙ find_none (has_name name) after a) ∙ no_boxes
addresses_field name label (box ∷ boxes) before after l h same b a =
    let one = boxes_field name label box boxes l h.0 h.1 in
    let here : has_name name one.field ≡ true = ap (λ n. str_eq_ignore_ascii_case n name) one.named ∙ same in
    let found : first_of name ((one.field ∷ []) ++ after) ≡ Some one.field = rw here refl in
    let read = field_reads box boxes h in
    ap (λ fs. read_addresses (boxes_of (value_of_field (first_of name (before ++ (fs ++ after)))))) one.fields
    ∙ ap (λ f. read_addresses (boxes_of (value_of_field f))) (find_after (has_name name) before ((one.field ∷ []) ++ after) b ∙ found) ∙ ap (λ v. read_addresses (boxes_of v)) one.value ∙ ap read_addresses read.read ∙ read.same

-- ---- the fields of a message

to_label : IsLabel (codes "To") (codes "To: ")
to_label = record { line = refl; begins = refl; first = 84; more = codes "o: "; parts = refl; named = λ text. refl; valued = λ text. refl }

cc_label : IsLabel (codes "Cc") (codes "Cc: ")
cc_label = record { line = refl; begins = refl; first = 67; more = codes "c: "; parts = refl; named = λ text. refl; valued = λ text. refl }

field_bytes : (name label : List ℕ) (boxes : List Mailbox) → IsLabel name label → flat_map ended (optional label (boxes_or_none boxes)) ≡ flat_map ended (box_lines label boxes)
unfolding boxes_text
field_bytes name label [] l = refl
field_bytes name label (box ∷ boxes) l =
    append-nil (ended (label ++ boxes_text (box ∷ boxes))) ∙ ap ended (sym (append_assoc label (text_of box) (flat_map (λ one. (44 ∷ fold) ++ text_of one) boxes))) ∙ lines_bytes (label ++ text_of box) boxes

field_lines : (name label : List ℕ) (boxes : List Mailbox) → IsLabel name label → HaveLines boxes → list_all is_line (box_lines label boxes) ≡ true
field_lines name label [] l h = refl
field_lines name label (box ∷ boxes) l h =
    let cut = and_parts (is_line box.address) (list_all (λ one. is_line one.address) boxes) h in
    lines_are (label ++ text_of box) boxes (all_append _ label (text_of box) l.line (box_unbroken box.name box.address cut.0)) cut.1

field_filled : (name label : List ℕ) (boxes : List Mailbox) → IsLabel name label → list_all is_filled (box_lines label boxes) ≡ true
field_filled name label [] l = refl
field_filled name label (box ∷ boxes) l =
    subst (λ t. list_all is_filled (more_lines (t ++ text_of box) boxes) ≡ true) (sym l.parts) (lines_filled l.first (l.more ++ text_of box) boxes)

-- the fields before To, and those after Subject that come before the body's form
abbrev sender_part : Parties → DateTime → List (List ℕ)
sender_part parties clock = (codes "Date: " ++ date_text clock) ∷ [] ++ optional (codes "From: ") parties.from

sender_lines : (parties : Parties) (clock : DateTime) → HavePartyLines parties → AreFields (sender_part parties clock)
sender_lines parties clock h =
    fields_join ((codes "Date: " ++ date_text clock) ∷ []) (optional (codes "From: ") parties.from) (line_field (codes "Date: ") (date_text clock) refl (joined (codes "Date: ") (date_text clock) refl (date_line clock)))
    (optional_field (codes "From: ") parties.from h.from)

abbrev answer_part : Draft → Parties → List (List ℕ)
answer_part draft parties =
    optional (codes "In-Reply-To: ") (ids_or_none (last_of_ids 1 (references_of draft.refs))) ++ optional (codes "References: ") (ids_or_none (references_of draft.refs)) ++ (codes "Message-ID: " ++ own_id draft.form parties.domain) ∷ []

answer_lines : (draft : Draft) (parties : Parties) → HavePartyLines parties → AreFields (answer_part draft parties)
answer_lines draft parties h =
    fields_join (optional (codes "In-Reply-To: ") (ids_or_none (last_of_ids 1 (references_of draft.refs))) ++ optional (codes "References: ") (ids_or_none (references_of draft.refs))) ((codes "Message-ID: " ++ own_id draft.form parties.domain) ∷ [])
    (fields_join (optional (codes "In-Reply-To: ") (ids_or_none (last_of_ids 1 (references_of draft.refs)))) (optional (codes "References: ") (ids_or_none (references_of draft.refs)))
    (ids_field (codes "In-Reply-To: ") refl refl (last_of_ids 1 (references_of draft.refs)) (all_drop is_writable _ (references_of draft.refs) (references_writable draft.refs)))
    (ids_field (codes "References: ") refl refl (references_of draft.refs) (references_writable draft.refs)))
    (line_field (codes "Message-ID: ") (own_id draft.form parties.domain) refl (joined (codes "Message-ID: ") (own_id draft.form parties.domain) refl (own_line draft.form parties.domain h.domain)))

sender_other : (p : List ℕ → Bool) → p (codes "Date") ≡ true → p (codes "From") ≡ true → (parties : Parties) (clock : DateTime) (a : AreFields (sender_part parties clock)) → list_all p (names_of a.lines) ≡ true
sender_other p d f parties clock a =
    ap (list_all p) a.names_are ∙ list_all-map p name_of (sender_part parties clock)
    ∙ all_append (λ field. p (name_of field)) ((codes "Date: " ++ date_text clock) ∷ []) (optional (codes "From: ") parties.from) (both (p (codes "Date")) true d refl) (optional_all p (codes "From: ") parties.from (λ v. f))

answer_other : (p : List ℕ → Bool) → p (codes "In-Reply-To") ≡ true → p (codes "References") ≡ true → p (codes "Message-ID") ≡ true → (draft : Draft) (parties : Parties) (a : AreFields (answer_part draft parties)) → list_all p (names_of a.lines) ≡ true
answer_other p i r m draft parties a =
    let reply : List (List ℕ) = optional (codes "In-Reply-To: ") (ids_or_none (last_of_ids 1 (references_of draft.refs))) in
    let refs : List (List ℕ) = optional (codes "References: ") (ids_or_none (references_of draft.refs)) in
    let q : List ℕ → Bool = λ field. p (name_of field) in
    ap (list_all p) a.names_are ∙ list_all-map p name_of (answer_part draft parties)
    ∙ all_append q (reply ++ refs) ((codes "Message-ID: " ++ own_id draft.form parties.domain) ∷ [])
    (all_append q reply refs (optional_all p (codes "In-Reply-To: ") (ids_or_none (last_of_ids 1 (references_of draft.refs))) (λ v. i)) (optional_all p (codes "References: ") (ids_or_none (references_of draft.refs)) (λ v. r)))
    (both (p (codes "Message-ID")) true m refl)

-- the lines of a header by its parts
lines_by_parts : (g : List ℕ → List ℕ) (d f t c s i r m k S T C R : List (List ℕ)) → flat_map g (d ++ f) ≡ flat_map g S → flat_map g t ≡ flat_map g T → flat_map g c ≡ flat_map g C → flat_map g (i ++ r ++ m) ≡ flat_map g R
    → flat_map g ((d ++ f ++ t ++ c ++ s ++ i ++ r ++ m) ++ k) ≡ flat_map g (S ++ (T ++ (C ++ (s ++ (R ++ k)))))
lines_by_parts g d f t c s i r m k S T C R a b e h =
    let left : flat_map g ((d ++ f ++ t ++ c ++ s ++ i ++ r ++ m) ++ k) ≡ flat_map g (d ++ f) ++ (flat_map g t ++ (flat_map g c ++ (flat_map g s ++ (flat_map g (i ++ r ++ m) ++ flat_map g k)))) = simp (flat_map-append, append_assoc) refl in
    let right : flat_map g (S ++ (T ++ (C ++ (s ++ (R ++ k))))) ≡ flat_map g S ++ (flat_map g T ++ (flat_map g C ++ (flat_map g s ++ (flat_map g R ++ flat_map g k)))) = simp flat_map-append refl in
    left ∙ ap (λ x. x ++ (flat_map g t ++ (flat_map g c ++ (flat_map g s ++ (flat_map g (i ++ r ++ m) ++ flat_map g k))))) a ∙ ap (λ x. flat_map g S ++ (x ++ (flat_map g c ++ (flat_map g s ++ (flat_map g (i ++ r ++ m) ++ flat_map g k))))) b
    ∙ ap (λ x. flat_map g S ++ (flat_map g T ++ (x ++ (flat_map g s ++ (flat_map g (i ++ r ++ m) ++ flat_map g k))))) e ∙ ap (λ x. flat_map g S ++ (flat_map g T ++ (flat_map g C ++ (flat_map g s ++ (x ++ flat_map g k))))) h ∙ sym right

-- the names of the fields after Cc
abbrev tail_names : List (List ℕ)
tail_names = codes "Subject" ∷ codes "In-Reply-To" ∷ codes "References" ∷ codes "Message-ID" ∷ codes "MIME-Version" ∷ codes "Content-Type" ∷ codes "Content-Transfer-Encoding" ∷ []

abbrev subject_line : Draft → List ℕ
subject_line draft = codes "Subject: " ++ written draft.subject

tail_lines : (draft : Draft) (parties : Parties) → HavePartyLines parties → Bool → List (List ℕ)
tail_lines draft parties h seven_bit = subject_line draft ∷ [] ++ ((answer_lines draft parties h).lines ++ form seven_bit)

form_other : (p : List ℕ → Bool) (seven_bit : Bool) → p (codes "MIME-Version") ≡ true → p (codes "Content-Type") ≡ true → p (codes "Content-Transfer-Encoding") ≡ true → list_all p (names_of (form seven_bit)) ≡ true
form_other p true m t c = both (p (codes "MIME-Version")) _ m (both (p (codes "Content-Type")) _ t (both (p (codes "Content-Transfer-Encoding")) true c refl))
form_other p false m t c = both (p (codes "MIME-Version")) _ m (both (p (codes "Content-Type")) _ t (both (p (codes "Content-Transfer-Encoding")) true c refl))

subject_other : (p : List ℕ → Bool) (draft : Draft) → p (codes "Subject") ≡ true → list_all p (names_of (subject_line draft ∷ [])) ≡ true
subject_other p draft s =
    let begins : begins_field (subject_line draft) ≡ true = (front_begins (codes "Subject: ") (written draft.subject) refl).begins in
    rw begins (both (p (codes "Subject")) true s refl)

tail_other : (name : List ℕ) → list_all (is_other name) tail_names ≡ true → (draft : Draft) (parties : Parties) (h : HavePartyLines parties) (seven_bit : Bool) → HaveOther name (fields_of (tail_lines draft parties h seven_bit))
unfolding tail_lines
tail_other name all draft parties h seven_bit =
    let p : List ℕ → Bool = is_other name in
    let at : (k : ℕ) → k < 7 → p (get_or tail_names k []) ≡ true = λ k within. AllPass-from_list_all p tail_names all k [] within in
    let answer = answer_lines draft parties h in
    let rest : List (List ℕ) = answer.lines ++ form seven_bit in
    other_fields name (subject_line draft ∷ [] ++ rest)
    (ap (list_all p) (names_append (subject_line draft ∷ []) rest ∙ ap (λ ns. names_of (subject_line draft ∷ []) ++ ns) (names_append answer.lines (form seven_bit)))
    ∙ all_append p (names_of (subject_line draft ∷ [])) (names_of answer.lines ++ names_of (form seven_bit)) (subject_other p draft (at 0 (omega arith)))
    (all_append p (names_of answer.lines) (names_of (form seven_bit)) (answer_other p (at 1 (omega arith)) (at 2 (omega arith)) (at 3 (omega arith)) draft parties answer)
    (form_other p seven_bit (at 4 (omega arith)) (at 5 (omega arith)) (at 6 (omega arith)))))

form_all : (seven_bit : Bool) → (list_all is_line (form seven_bit) ≡ true) × (list_all is_filled (form seven_bit) ≡ true)
form_all true = (refl, refl)
form_all false = (refl, refl)

-- the boxes of a message's fields
pub record HasBoxes (parties : Parties) (to copied : List Mailbox) : Type 0 where
  pub to_field : parties.to ≡ boxes_or_none to
  pub copied_field : parties.cc ≡ boxes_or_none copied
  pub to_lines : HaveLines to
  pub copied_lines : HaveLines copied
  pub to_addresses : HaveAddresses to
  pub copied_addresses : HaveAddresses copied

message_fields : (draft : Draft) (parties : Parties) (clock : DateTime) (to copied : List Mailbox) (h : HavePartyLines parties) → HasBoxes parties to copied
    → (header_of (message draft parties clock)).fields ≡ fields_of (sender_lines parties clock h).lines ++ (fields_of (box_lines (codes "To: ") to) ++ (fields_of (box_lines (codes "Cc: ") copied) ++ fields_of (tail_lines draft parties h (is_seven_bit (body draft)))))
unfolding message header_of tail_lines
message_fields draft parties clock to copied h b =
    let seven_bit : Bool = is_seven_bit (body draft) in
    let after : List ℕ = coded seven_bit (body draft) in
    let sender = sender_lines parties clock h in
    let answer = answer_lines draft parties h in
    let first : List (List ℕ) = box_lines (codes "To: ") to in
    let second : List (List ℕ) = box_lines (codes "Cc: ") copied in
    let subject : List (List ℕ) = subject_line draft ∷ [] in
    let rest : List (List ℕ) = answer.lines ++ form seven_bit in
    let found : List (List ℕ) = sender.lines ++ (first ++ (second ++ (subject ++ rest))) in
    let fields : flat_map ended (header draft parties clock seven_bit) ≡ flat_map ended found =
    ap (flat_map ended) (header_split draft parties clock seven_bit)
    ∙ lines_by_parts ended ((codes "Date: " ++ date_text clock) ∷ []) (optional (codes "From: ") parties.from) (optional (codes "To: ") parties.to) (optional (codes "Cc: ") parties.cc) subject
    (optional (codes "In-Reply-To: ") (ids_or_none (last_of_ids 1 (references_of draft.refs)))) (optional (codes "References: ") (ids_or_none (references_of draft.refs))) ((codes "Message-ID: " ++ own_id draft.form parties.domain) ∷ []) (form seven_bit)
    sender.lines first second answer.lines sender.bytes_are (ap (λ v. flat_map ended (optional (codes "To: ") v)) b.to_field ∙ field_bytes (codes "To") (codes "To: ") to to_label)
    (ap (λ v. flat_map ended (optional (codes "Cc: ") v)) b.copied_field ∙ field_bytes (codes "Cc") (codes "Cc: ") copied cc_label) answer.bytes_are in
    let cut : (flat_map ended (header draft parties clock seven_bit) ++ line_end) ++ after ≡ flat_map ended found ++ 13 ∷ 10 ∷ after = append_assoc (flat_map ended (header draft parties clock seven_bit)) line_end after ∙ ap (λ t. t ++ (13 ∷ 10 ∷ after)) fields in
    let subject_is : is_line (subject_line draft) ≡ true = joined (codes "Subject: ") (written draft.subject) refl (written_unbroken draft.subject) in
    let are : list_all is_line found ≡ true =
    all_append is_line sender.lines (first ++ (second ++ (subject ++ rest))) sender.are_lines (all_append is_line first (second ++ (subject ++ rest)) (field_lines (codes "To") (codes "To: ") to to_label b.to_lines)
    (all_append is_line second (subject ++ rest) (field_lines (codes "Cc") (codes "Cc: ") copied cc_label b.copied_lines) (both (is_line (subject_line draft)) (list_all is_line rest) subject_is (all_append is_line answer.lines (form seven_bit) answer.are_lines (form_all seven_bit).0)))) in
    let filled : list_all is_filled found ≡ true =
    all_append is_filled sender.lines (first ++ (second ++ (subject ++ rest))) sender.are_filled (all_append is_filled first (second ++ (subject ++ rest)) (field_filled (codes "To") (codes "To: ") to to_label)
    (all_append is_filled second (subject ++ rest) (field_filled (codes "Cc") (codes "Cc: ") copied cc_label) (both (is_filled (subject_line draft)) (list_all is_filled rest) (grind (arith, nat_tests)) (all_append is_filled answer.lines (form seven_bit) answer.are_filled (form_all seven_bit).1)))) in
    let begins : starts_field (subject ++ rest) ≡ true = (front_begins (codes "Subject: ") (written draft.subject) refl).begins in
    let second_begins : starts_field (second ++ (subject ++ rest)) ≡ true = box_begins (codes "Cc") (codes "Cc: ") copied (subject ++ rest) cc_label begins in
    let first_begins : starts_field (first ++ (second ++ (subject ++ rest))) ≡ true = box_begins (codes "To") (codes "To: ") to (second ++ (subject ++ rest)) to_label second_begins in
    ap (λ t. fields_of (take_while is_filled (lines t))) cut ∙ ap fields_of (taken_lines found after are filled) ∙ fields_apart sender.lines (first ++ (second ++ (subject ++ rest))) first_begins
    ∙ ap (λ fs. fields_of sender.lines ++ fs) (fields_apart first (second ++ (subject ++ rest)) second_begins ∙ ap (λ fs. fields_of first ++ fs) (fields_apart second (subject ++ rest) begins))

pub to_read : (draft : Draft) (parties : Parties) (clock : DateTime) (to copied : List Mailbox) → HavePartyLines parties → HasBoxes parties to copied → addresses_read (codes "To") (message draft parties clock) ≡ addresses to
to_read draft parties clock to copied h b =
    let sender = sender_lines parties clock h in
    let second : List FieldValue = fields_of (box_lines (codes "Cc: ") copied) in
    let tail : List FieldValue = fields_of (tail_lines draft parties h (is_seven_bit (body draft))) in
    ap (λ fs. read_addresses (boxes_of (value_of_field (first_of (codes "To") fs)))) (message_fields draft parties clock to copied h b)
    ∙ addresses_field (codes "To") (codes "To: ") to (fields_of sender.lines) (second ++ tail) to_label b.to_addresses refl (other_fields (codes "To") sender.lines (sender_other (is_other (codes "To")) refl refl parties clock sender))
    (all_append (λ field. not (has_name (codes "To") field)) second tail (box_other (codes "To") (codes "Cc") (codes "Cc: ") copied cc_label b.copied_addresses refl) (tail_other (codes "To") refl draft parties h (is_seven_bit (body draft))))

pub copied_read : (draft : Draft) (parties : Parties) (clock : DateTime) (to copied : List Mailbox) → HavePartyLines parties → HasBoxes parties to copied → addresses_read (codes "Cc") (message draft parties clock) ≡ addresses copied
copied_read draft parties clock to copied h b =
    let sender = sender_lines parties clock h in
    let first : List FieldValue = fields_of (box_lines (codes "To: ") to) in
    let second : List FieldValue = fields_of (box_lines (codes "Cc: ") copied) in
    let tail : List FieldValue = fields_of (tail_lines draft parties h (is_seven_bit (body draft))) in
    ap (λ fs. read_addresses (boxes_of (value_of_field (first_of (codes "Cc") fs)))) (message_fields draft parties clock to copied h b ∙ sym (append_assoc (fields_of sender.lines) first (second ++ tail)))
    ∙ addresses_field (codes "Cc") (codes "Cc: ") copied (fields_of sender.lines ++ first) tail cc_label b.copied_addresses refl
    (all_append (λ field. not (has_name (codes "Cc") field)) (fields_of sender.lines) first (other_fields (codes "Cc") sender.lines (sender_other (is_other (codes "Cc")) refl refl parties clock sender)) (box_other (codes "Cc") (codes "To") (codes "To: ") to to_label b.to_addresses refl))
    (tail_other (codes "Cc") refl draft parties h (is_seven_bit (body draft)))
