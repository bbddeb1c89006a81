-- A message is lines that end with CR LF.
use Rattle.std.proofs.Common.{append_assoc, ap, ◌∙◌, ◌≡◌, ◌≤◌, ℕ, ℤ, zero, suc, ◌+◌, ◌-◌, ◌/◌, ◌%◌, inl, inr, Bool, true, false, List, [], ◌∷◌, ◌++◌, length, refl, sym, subst, arith, Ok, Err}
use Rattle.std.specs.Prelude.{◌&&◌, ◌==◌, nat_le, nat_lt, Option, Some, None, Result, IfOk, codes, unsigned_abs, map, take_while}
use Rattle.std.specs.List.{filter, flat_map, list_all, position_or_len}
use Rattle.std.specs.Str.Lines.{lines}
use Rattle.std.proofs.lemmas.Bool.{and_parts, cases_Bool}
use Rattle.std.proofs.lemmas.Bool.Decides.{nat_tests}
use Rattle.account_pictures.specs.declared.records.Identity.{Identity}
use Rattle.header_words.specs.Fields.{begins_field, header_of, name_of}
use Rattle.header_words.specs.Lines.{is_filled}
use Rattle.header_words.specs.MessageIds.{ids_in}
use Rattle.jiff_core.specs.Date.{weekday_of}
use Rattle.jiff_core.specs.declared.civil.datetime.DateTime.{DateTime}
use Rattle.jiff_fmt.specs.Rfc2822.{month_text, weekday_text}
use Rattle.jiff_fmt.specs.Text.{pad2, pad4}
use Rattle.mail_addresses.specs.declared.Mailbox.{Mailbox}
use Rattle.mail_addresses.specs.Boxes.{boxes_of, is_address}
use Rattle.site_asks.specs.declared.Draft.{Draft}
use Rattle.compose_drafts.specs.declared.DraftFault.{DraftFault}
use Rattle.compose_drafts.specs.declared.parties.Parties.{Parties}
use Rattle.compose_drafts.specs.Drafts.{◌>>=◌, IsMessage, boxes_or_none, domain_of, from_text, in_field, is_blank, limit, one_address, parties_of, recipients_of, saved_domain, saved_from, saved_parties_of, sender_of, sent_parties_of, text_or_none, within_limit}
use Rattle.compose_drafts.specs.Lines.{IsLines, is_line, is_unbroken}
use Rattle.compose_drafts.specs.Message.{body, header, hex_digit, hex_digits, ids_or_none, message, optional, own_id}
use Rattle.compose_drafts.specs.Moments.{date_text}
use Rattle.compose_drafts.specs.Paragraphs.{coded, coding_name, is_seven_bit, paragraphs_of}
use Rattle.compose_drafts.specs.Readers.{field_names}
use Rattle.compose_drafts.specs.References.{is_visible, is_writable, last_of_ids, references_of}
use Rattle.compose_drafts.specs.Texts.{box_text, boxes_text, ended, in_angles, line_end, written}
use Rattle.compose_drafts.proofs.AddressLines.{HaveLines, address_unbroken, boxes_lines}
use Rattle.compose_drafts.proofs.BodyLines.{coded_lines, flow_lines, paragraph_lines}
use Rattle.compose_drafts.proofs.Unbroken.{all_append, all_drop, all_filter, all_get, all_weaker, angles_unbroken, both, box_unbroken, written_unbroken}
use Rattle.compose_drafts.proofs.WholeLines.{AreFields, IsField, fields_join, fields_lines, joined_field, line_field, lines_join, names_of, no_fields, one_line, optional_field, taken_lines}

-- ---- dates and numbers

above : (c : ℕ) → 14 ≤ c → is_unbroken c ≡ true
above c least = grind (arith, nat_tests)

pad2_line : (n : ℕ) → is_line (pad2 n) ≡ true
pad2_line n = both (is_unbroken (48 + n / 10)) (is_line ((48 + n % 10) ∷ [])) (above (48 + n / 10) (omega arith)) (both (is_unbroken (48 + n % 10)) true (above (48 + n % 10) (omega arith)) refl)

pad4_line : (n : ℕ) → is_line (pad4 n) ≡ true
pad4_line n = all_append is_unbroken (pad2 (n / 100)) (pad2 (n % 100)) (pad2_line (n / 100)) (pad2_line (n % 100))

weekday_line : (n : ℕ) → is_line (weekday_text n) ≡ true
weekday_line n = all_get is_line (codes "Mon" ∷ codes "Tue" ∷ codes "Wed" ∷ codes "Thu" ∷ codes "Fri" ∷ codes "Sat" ∷ codes "Sun" ∷ []) n [] refl refl

month_line : (n : ℕ) → is_line (month_text n) ≡ true
month_line n =
    all_get is_line (codes "Jan" ∷ codes "Feb" ∷ codes "Mar" ∷ codes "Apr" ∷ codes "May" ∷ codes "Jun" ∷ codes "Jul" ∷ codes "Aug" ∷ codes "Sep" ∷ codes "Oct" ∷ codes "Nov" ∷ []) (n - 1) (codes "Dec") refl refl

-- lines in a row
pub joined : (a b : List ℕ) → is_line a ≡ true → is_line b ≡ true → is_line (a ++ b) ≡ true
joined a b x y = all_append is_unbroken a b x y

date_parts : (weekday day month year hour minute second : List ℕ) → is_line weekday ≡ true → is_line day ≡ true → is_line month ≡ true → is_line year ≡ true → is_line hour ≡ true → is_line minute ≡ true → is_line second ≡ true
    → is_line (weekday ++ codes ", " ++ (day ++ 32 ∷ month ++ 32 ∷ year) ++ 32 ∷ (hour ++ 58 ∷ minute ++ 58 ∷ second) ++ codes " +0000") ≡ true
date_parts weekday day month year hour minute second a b c d e f g =
    let days : List ℕ = day ++ 32 ∷ month ++ 32 ∷ year in
    let times : List ℕ = hour ++ 58 ∷ minute ++ 58 ∷ second in
    let d' : is_line days ≡ true = joined (day ++ 32 ∷ month) (32 ∷ year) (joined day (32 ∷ month) b c) d in
    let t' : is_line times ≡ true = joined (hour ++ 58 ∷ minute) (58 ∷ second) (joined hour (58 ∷ minute) e f) g in
    joined (weekday ++ codes ", " ++ days ++ 32 ∷ times) (codes " +0000") (joined (weekday ++ codes ", " ++ days) (32 ∷ times) (joined (weekday ++ codes ", ") days (joined weekday (codes ", ") a refl) d') t') refl

hex_line : (count number : ℕ) → is_line (hex_digits count number) ≡ true
unfolding hex_digits
hex_line zero number = refl
hex_line (suc count) number = joined (hex_digits count (number / 16)) (hex_digit (number % 16) ∷ []) (hex_line count (number / 16)) (both (is_unbroken (hex_digit (number % 16))) true (elim (cases_Bool (nat_lt (number % 16) 10)) [
  | inl e ↦ rw e (above (48 + number % 16) (omega arith))
  | inr e ↦ rw e (above (87 + number % 16) (omega arith))
]) refl)

pub own_line : (form : ℕ) (domain : List ℕ) → is_line domain ≡ true → is_line (own_id form domain) ≡ true
own_line form domain d = angles_unbroken (hex_digits 16 form ++ 64 ∷ domain) (joined (hex_digits 16 form) (64 ∷ domain) (hex_line 16 form) d)

-- ---- identifiers

visible_unbroken : (c : ℕ) → is_visible c ≡ true → is_unbroken c ≡ true
visible_unbroken c e = grind (arith, nat_tests)

pub writable_line : (id : List ℕ) → is_writable id ≡ true → is_line (in_angles id) ≡ true
writable_line id e = angles_unbroken id (all_weaker is_visible is_unbroken visible_unbroken id (and_parts (nat_le (length id) 200) (list_all is_visible id) e).1)

abbrev AreWritable : List (List ℕ) → Type 0
AreWritable ids = list_all is_writable ids ≡ true

pub ids_field : (name : List ℕ) → begins_field name ≡ true → is_line name ≡ true → (ids : List (List ℕ)) → AreWritable ids → AreFields (optional name (ids_or_none ids))
ids_field name b h ids each = elim (cases_Bool (length ids == 0)) [
  | inl e ↦ rw e no_fields
  | inr e ↦ rw e (joined_field in_angles name [] b h refl ids (all_weaker is_writable (λ id. is_line (in_angles id)) writable_line ids each))
]

pub references_writable : (refs : List ℕ) → AreWritable (references_of refs)
unfolding references_of
references_writable refs = all_drop is_writable _ (filter is_writable (ids_in refs)) (all_filter is_writable (ids_in refs))

-- ---- the parties of a message

pub record HavePartyLines (parties : Parties) : Type 0 where
  pub from : (value : List ℕ) → parties.from ≡ Some value → IsField (codes "From: " ++ value)
  pub to : (value : List ℕ) → parties.to ≡ Some value → IsField (codes "To: " ++ value)
  pub copied : (value : List ℕ) → parties.cc ≡ Some value → IsField (codes "Cc: " ++ value)
  pub domain : is_line parties.domain ≡ true

-- a field whose value is a line
line_value : (name line : List ℕ) (found : Option (List ℕ)) → begins_field name ≡ true → is_line name ≡ true → is_line line ≡ true → found ≡ Some line → (value : List ℕ) → found ≡ Some value → IsField (name ++ value)
line_value name line found b n l is value e =
    let same : line ≡ value = cc (is, e) in
    subst (λ v. IsField (name ++ v)) same (line_field name line b (joined name line n l))

no_value : (name : List ℕ) (found : Option (List ℕ)) → found ≡ None → (value : List ℕ) → found ≡ Some value → IsField (name ++ value)
no_value name found none value e = cc (none, e)

box_lines : (boxes : List Mailbox) → HaveLines boxes → list_all (λ box. is_line (box_text box.name box.address)) boxes ≡ true
box_lines [] h = refl
box_lines (box ∷ boxes) h =
    let cut = and_parts (is_line box.address) (list_all (λ one. is_line one.address) boxes) h in
    both (is_line (box_text box.name box.address)) (list_all (λ one. is_line (box_text one.name one.address)) boxes) (box_unbroken box.name box.address cut.0) (box_lines boxes cut.1)

boxes_value : (name : List ℕ) → begins_field name ≡ true → is_line name ≡ true → (boxes : List Mailbox) → HaveLines boxes → (value : List ℕ) → boxes_or_none boxes ≡ Some value → IsField (name ++ value)
unfolding boxes_text
boxes_value name b n [] h value e = cc e
boxes_value name b n (box ∷ boxes) h value e =
    let same : boxes_text (box ∷ boxes) ≡ value = cc e in
    subst (λ v. IsField (name ++ v)) same (joined_field (λ one. box_text one.name one.address) name (44 ∷ []) b n refl (box ∷ boxes) (box_lines (box ∷ boxes) h))

domain_line : (address : List ℕ) → is_line address ≡ true → is_line (domain_of address) ≡ true
domain_line address h = all_drop is_unbroken (suc (position_or_len (λ c. c == 64) address)) address h

-- ---- a message that is sent

read_then : {A B : Type 0} (Q : A → Type 0) (P : B → Type 0) (r : Result A DraftFault) (f : A → Result B DraftFault) → IfOk r Q → ((a : A) → Q a → IfOk (f a) P) → IfOk (r >>= f) P
read_then Q P (Ok a) f q h = h a q
read_then Q P (Err fault) f q h = tt

in_field_lines : (name : List ℕ) (r : Result (List Mailbox) ℕ) → IfOk r HaveLines → IfOk (in_field name r) HaveLines
in_field_lines name (Ok boxes) h = h
in_field_lines name (Err at) h = tt

recipient_lines : (name text : List ℕ) → IfOk (recipients_of name text) HaveLines
unfolding recipients_of
recipient_lines name text = elim (cases_Bool (is_blank text)) [
  | inl e ↦ rw e refl
  | inr e ↦ rw e (in_field_lines name (boxes_of text) (boxes_lines text))
]

one_address_line : (address : List ℕ) (r : Result (List Mailbox) DraftFault) → IfOk (one_address address r) (λ one. (is_line address ≡ true) × (is_line one ≡ true))
one_address_line address (Ok boxes) = elim (cases_Bool (is_address address)) [
  | inl e ↦ rw e (address_unbroken address e, address_unbroken address e)
  | inr e ↦ rw e tt
]
one_address_line address (Err fault) = tt

sender_line : (address : List ℕ) → IfOk (sender_of address) (λ one. (is_line address ≡ true) × (is_line one ≡ true))
unfolding sender_of
sender_line address = one_address_line address (in_field (codes "identity") (boxes_of address))

limit_lines : (text : List ℕ) (parties : Parties) → HavePartyLines parties → IfOk (within_limit text parties) HavePartyLines
limit_lines text parties h = elim (cases_Bool (nat_lt limit (length text))) [
  | inl e ↦ rw e tt
  | inr e ↦ rw e h
]

sent_lines : (draft : Draft) (identity : Identity) → IfOk (sent_parties_of draft identity) HavePartyLines
unfolding sent_parties_of
sent_lines draft identity =
    read_then HaveLines HavePartyLines (recipients_of (codes "to") draft.to) _ (recipient_lines (codes "to") draft.to) (λ to t. read_then HaveLines HavePartyLines (recipients_of (codes "cc") draft.cc) _ (recipient_lines (codes "cc") draft.cc)
    (λ copied c. read_then (λ one. (is_line identity.address ≡ true) × (is_line one ≡ true)) HavePartyLines (sender_of identity.address) _ (sender_line identity.address)
    (λ address a. limit_lines draft.text _ (record {
      from = line_value (codes "From: ") (from_text identity) _ refl refl (box_unbroken identity.name identity.address a.0) refl;
      to = boxes_value (codes "To: ") refl refl to t;
      copied = boxes_value (codes "Cc: ") refl refl copied c;
      domain = domain_line address a.1;
    }))))

pub parties_lines : (draft : Draft) (identity : Identity) → IfOk (parties_of draft identity) HavePartyLines
unfolding parties_of
parties_lines draft identity = elim (cases_Bool (is_blank draft.to && is_blank draft.cc)) [
  | inl e ↦ rw e tt
  | inr e ↦ rw e (sent_lines draft identity)
]

-- ---- a draft that is saved

saved_from_value : (identity : Identity) (value : List ℕ) → saved_from identity ≡ Some value → IsField (codes "From: " ++ value)
saved_from_value identity value e = elim (cases_Bool (is_address identity.address)) [
  | inl f ↦ line_value (codes "From: ") (from_text identity) (saved_from identity) refl refl (box_unbroken identity.name identity.address (address_unbroken identity.address f)) (rw f refl) value e
  | inr f ↦ no_value (codes "From: ") (saved_from identity) (rw f refl) value e
]

text_value : (name text : List ℕ) → begins_field name ≡ true → is_line name ≡ true → (value : List ℕ) → text_or_none text ≡ Some value → IsField (name ++ value)
text_value name text b n value e = elim (cases_Bool (is_blank text)) [
  | inl f ↦ no_value name (text_or_none text) (rw f refl) value e
  | inr f ↦ line_value name (written text) (text_or_none text) b n (written_unbroken text) (rw f refl) value e
]

saved_domain_line : (identity : Identity) → is_line (saved_domain identity) ≡ true
saved_domain_line identity = elim (cases_Bool (is_address identity.address)) [
  | inl f ↦ rw f (domain_line identity.address (address_unbroken identity.address f))
  | inr f ↦ rw f refl
]

pub saved_lines : (draft : Draft) (identity : Identity) → IfOk (saved_parties_of draft identity) HavePartyLines
unfolding saved_parties_of
saved_lines draft identity =
    limit_lines draft.text _ (record {
      from = saved_from_value identity;
      to = text_value (codes "To: ") draft.to refl refl;
      copied = text_value (codes "Cc: ") draft.cc refl refl;
      domain = saved_domain_line identity;
    })

-- ---- the message

all_fields : (a b c d e f g h : List (List ℕ)) → AreFields a → AreFields b → AreFields c → AreFields d → AreFields e → AreFields f → AreFields g → AreFields h → AreFields (a ++ b ++ c ++ d ++ e ++ f ++ g ++ h)
all_fields a b c d e f g h a' b' c' d' e' f' g' h' =
    fields_join (a ++ b ++ c ++ d ++ e ++ f ++ g) h (fields_join (a ++ b ++ c ++ d ++ e ++ f) g (fields_join (a ++ b ++ c ++ d ++ e) f (fields_join (a ++ b ++ c ++ d) e (fields_join (a ++ b ++ c) d (fields_join (a ++ b) c (fields_join a b a' b') c') d') e') f') g') h'

pub date_line : (clock : DateTime) → is_line (date_text clock) ≡ true
unfolding date_text
date_line clock =
    let day : ℕ = weekday_of clock.date in
    let year : ℕ = unsigned_abs clock.date.year in
    date_parts (weekday_text day) (pad2 clock.date.day) (month_text clock.date.month) (pad4 year) (pad2 clock.time.hour) (pad2 clock.time.minute) (pad2 clock.time.second)
    (weekday_line day) (pad2_line clock.date.day) (month_line clock.date.month) (pad4_line year) (pad2_line clock.time.hour) (pad2_line clock.time.minute) (pad2_line clock.time.second)

coding_line : (seven_bit : Bool) → is_line (codes "Content-Transfer-Encoding: " ++ coding_name seven_bit) ≡ true
coding_line true = refl
coding_line false = refl

-- the fields before those of the body's form
abbrev pub front : Draft → Parties → DateTime → List (List ℕ)
front draft parties clock =
    (codes "Date: " ++ date_text clock) ∷ [] ++ optional (codes "From: ") parties.from ++ optional (codes "To: ") parties.to ++ optional (codes "Cc: ") parties.cc ++ (codes "Subject: " ++ written draft.subject) ∷ []
    ++ optional (codes "In-Reply-To: ") (ids_or_none (last_of_ids 1 (references_of draft.refs))) ++ optional (codes "References: ") (ids_or_none (references_of draft.refs)) ++ (codes "Message-ID: " ++ own_id draft.form parties.domain) ∷ []

-- the fields of the body's form
abbrev pub form : Bool → List (List ℕ)
form seven_bit = codes "MIME-Version: 1.0" ∷ codes "Content-Type: text/plain; charset=utf-8; format=flowed" ∷ (codes "Content-Transfer-Encoding: " ++ coding_name seven_bit) ∷ []

pub header_split : (draft : Draft) (parties : Parties) (clock : DateTime) (seven_bit : Bool) → header draft parties clock seven_bit ≡ front draft parties clock ++ form seven_bit
unfolding header
header_split draft parties clock seven_bit =
    let first : List (List ℕ) = front draft parties clock in
    let version : List ℕ = codes "MIME-Version: 1.0" in
    let kind : List ℕ = codes "Content-Type: text/plain; charset=utf-8; format=flowed" in
    let coding : List ℕ = codes "Content-Transfer-Encoding: " ++ coding_name seven_bit in
    ap (λ fields. fields ++ coding ∷ []) (append_assoc first (version ∷ []) (kind ∷ [])) ∙ append_assoc first (version ∷ kind ∷ []) (coding ∷ [])

pub front_lines : (draft : Draft) (parties : Parties) (clock : DateTime) → HavePartyLines parties → AreFields (front draft parties clock)
front_lines draft parties clock h =
    all_fields ((codes "Date: " ++ date_text clock) ∷ []) (optional (codes "From: ") parties.from) (optional (codes "To: ") parties.to) (optional (codes "Cc: ") parties.cc) ((codes "Subject: " ++ written draft.subject) ∷ [])
    (optional (codes "In-Reply-To: ") (ids_or_none (last_of_ids 1 (references_of draft.refs)))) (optional (codes "References: ") (ids_or_none (references_of draft.refs)))
    ((codes "Message-ID: " ++ own_id draft.form parties.domain) ∷ [])
    (line_field (codes "Date: ") (date_text clock) refl (joined (codes "Date: ") (date_text clock) refl (date_line clock)))
    (optional_field (codes "From: ") parties.from h.from) (optional_field (codes "To: ") parties.to h.to) (optional_field (codes "Cc: ") parties.cc h.copied)
    (line_field (codes "Subject: ") (written draft.subject) refl (joined (codes "Subject: ") (written draft.subject) refl (written_unbroken draft.subject)))
    (ids_field (codes "In-Reply-To: ") refl refl (last_of_ids 1 (references_of draft.refs)) (all_drop is_writable _ (references_of draft.refs) (references_writable draft.refs)))
    (ids_field (codes "References: ") refl refl (references_of draft.refs) (references_writable draft.refs))
    (line_field (codes "Message-ID: ") (own_id draft.form parties.domain) refl (joined (codes "Message-ID: ") (own_id draft.form parties.domain) refl (own_line draft.form parties.domain h.domain)))

form_lines : (seven_bit : Bool) → AreFields (form seven_bit)
form_lines seven_bit =
    fields_join (codes "MIME-Version: 1.0" ∷ codes "Content-Type: text/plain; charset=utf-8; format=flowed" ∷ []) ((codes "Content-Transfer-Encoding: " ++ coding_name seven_bit) ∷ [])
    (fields_join (codes "MIME-Version: 1.0" ∷ []) (codes "Content-Type: text/plain; charset=utf-8; format=flowed" ∷ []) (line_field (codes "MIME-Version:") (codes " 1.0") refl refl)
    (line_field (codes "Content-Type:") (codes " text/plain; charset=utf-8; format=flowed") refl refl))
    (line_field (codes "Content-Transfer-Encoding: ") (coding_name seven_bit) refl (coding_line seven_bit))

pub header_lines : (draft : Draft) (parties : Parties) (clock : DateTime) (seven_bit : Bool) → HavePartyLines parties → AreFields (header draft parties clock seven_bit)
header_lines draft parties clock seven_bit h =
    subst AreFields (sym (header_split draft parties clock seven_bit)) (fields_join (front draft parties clock) (form seven_bit) (front_lines draft parties clock h) (form_lines seven_bit))

message_lines : (draft : Draft) (parties : Parties) (clock : DateTime) → HavePartyLines parties → IsLines (message draft parties clock)
unfolding message
message_lines draft parties clock h =
    let seven_bit : Bool = is_seven_bit (body draft) in
    let fields : List ℕ = flat_map ended (header draft parties clock seven_bit) in
    lines_join (fields ++ line_end) (coded seven_bit (body draft)) (lines_join fields line_end (fields_lines (header draft parties clock seven_bit) (header_lines draft parties clock seven_bit h)) (one_line [] refl))
    (coded_lines seven_bit (body draft) (flow_lines (paragraphs_of draft.text) (paragraph_lines draft.text)))

pub built_lines : (draft : Draft) (read : Result Parties DraftFault) (parties : Parties) (moment : ℤ) (bytes : List ℕ) → IfOk read HavePartyLines → read ≡ Ok parties → IsMessage draft parties moment bytes → IsLines bytes
built_lines draft read parties moment bytes h e built =
    let p : HavePartyLines parties = subst (λ r. IfOk r HavePartyLines) e h in
    subst IsLines (sym built.bytes_are) (message_lines draft parties built.clock p)

pub fields_read : (draft : Draft) (read : Result Parties DraftFault) (parties : Parties) (clock : DateTime) → IfOk read HavePartyLines → read ≡ Ok parties
    → field_names (message draft parties clock) ≡ map name_of (header draft parties clock (is_seven_bit (body draft)))
unfolding message header_of
fields_read draft read parties clock h e =
    let p : HavePartyLines parties = subst (λ r. IfOk r HavePartyLines) e h in
    let seven_bit : Bool = is_seven_bit (body draft) in
    let fields : List ℕ = flat_map ended (header draft parties clock seven_bit) in
    let after : List ℕ = coded seven_bit (body draft) in
    let x = header_lines draft parties clock seven_bit p in
    let cut : (fields ++ line_end) ++ after ≡ flat_map ended x.lines ++ 13 ∷ 10 ∷ after = append_assoc fields line_end after ∙ ap (λ t. t ++ (13 ∷ 10 ∷ after)) x.bytes_are in
    ap (λ t. names_of (take_while is_filled (lines t))) cut ∙ ap names_of (taken_lines x.lines after x.are_lines x.are_filled) ∙ x.names_are
