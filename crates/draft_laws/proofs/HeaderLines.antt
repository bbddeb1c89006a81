-- The lines of a header that are at most 998 bytes long.
use Rattle.std.proofs.Common.{◌≡◌, ◌≤◌, ℕ, zero, suc, ◌+◌, ◌-◌, ◌/◌, inl, inr, Bool, true, false, List, [], ◌∷◌, ◌++◌, length, get_or, append_assoc, refl, sym, ap, subst, ◌∙◌, arith, Ok}
use Rattle.std.specs.Prelude.{◌||◌, ◌==◌, nat_le, Option, Some, None, IfOk, codes}
use Rattle.std.specs.List.{flat_map, list_all, position_or_len, slice_split}
use Rattle.std.specs.Str.Lines.{lines, lines_of_parts}
use Rattle.std.proofs.lemmas.Bool.{and_parts, cases_Bool, eqb-true}
use Rattle.std.proofs.lemmas.Bool.Decides.{nat_tests}
use Rattle.std.proofs.lemmas.List.{append-nil, length-append, length-drop, take-append-drop}
use Rattle.std.proofs.lemmas.List.Splits.{slice_split_none}
use Rattle.std.proofs.lemmas.List.Sums.{AllPass-from_list_all}
use Rattle.account_pictures.specs.declared.records.Identity.{Identity}
use Rattle.jiff_core.specs.Date.{weekday_of}
use Rattle.jiff_core.specs.declared.civil.datetime.DateTime.{DateTime}
use Rattle.jiff_fmt.specs.Rfc2822.{month_text, weekday_text}
use Rattle.mail_addresses.specs.declared.runs.Class.TheVariants as classes
use Rattle.mail_addresses.specs.Boxes.{is_address, is_domain_part}
use Rattle.mail_addresses.specs.Runs.{is_run, strip_at, take_while_at}
use Rattle.site_asks.specs.declared.Draft.{Draft}
use Rattle.compose_drafts.specs.declared.parties.Parties.{Parties}
use Rattle.compose_drafts.specs.Drafts.{domain_of, parties_of, saved_domain, saved_from, saved_parties_of, text_or_none}
use Rattle.compose_drafts.specs.Lines.{is_line, is_unbroken}
use Rattle.compose_drafts.specs.Message.{header, hex_digits, ids_or_none, optional, own_id}
use Rattle.compose_drafts.specs.Moments.{date_text}
use Rattle.compose_drafts.specs.References.{is_visible, is_writable, last_of_ids, references_of}
use Rattle.compose_drafts.specs.Texts.{fold, in_angles, written}
use Rattle.compose_drafts.proofs.MessageLines.{HavePartyLines, date_line, form, front, header_split, joined, own_line, parties_lines, references_writable, saved_lines, writable_line}
use Rattle.compose_drafts.proofs.Unbroken.{all_append, all_drop, all_get, both}
use Rattle.compose_drafts.proofs.WholeLines.{lines_ended}
use Rattle.draft_laws.specs.HeaderLines.{has_free_text, is_narrow}
use Rattle.draft_laws.proofs.Fields.{all_eight}
use Rattle.draft_laws.proofs.ReadBoxes.{IsRun, run_from}
use Rattle.draft_laws.proofs.Recipients.{domain_is, limit_keeps, sender_is}

-- ---- fields of short lines

no_line_feed : (c : ℕ) → is_unbroken c ≡ true → (c == 10) ≡ false
no_line_feed c h = grind (arith, nat_tests)

one_line : (line : List ℕ) → is_line line ≡ true → 1 ≤ length line → lines line ≡ line ∷ []
one_line line h some =
    let split : slice_split (λ b. b == 10) line ≡ line ∷ [] = slice_split_none (λ b. b == 10) line (λ k d within. no_line_feed (get_or line k d) (AllPass-from_list_all is_unbroken line h k d within)) in
    let filled : (length line == 0) ≡ false = grind (arith, nat_tests) in
    ap lines_of_parts split ∙ rw filled refl

narrow_line : (line : List ℕ) → is_line line ≡ true → 1 ≤ length line → length line ≤ 998 → is_narrow line ≡ true
narrow_line line h some short =
    let within : nat_le (length line) 998 ≡ true = grind (arith, nat_tests) in
    ap (list_all (λ one. nat_le (length one) 998)) (one_line line h some) ∙ both (nat_le (length line) 998) true within refl

abbrev AreWritable : List (List ℕ) → Type 0
AreWritable ids = list_all is_writable ids ≡ true

id_size : (id : List ℕ) → is_writable id ≡ true → length (in_angles id) ≤ 202
id_size id e =
    let size = (and_parts (nat_le (length id) 200) (list_all is_visible id) e).0 in
    let short : length id ≤ 200 = grind (arith, nat_tests) in
    omega (arith, length-append id (62 ∷ []))

narrow_ids : (line : List ℕ) (ids : List (List ℕ)) → is_line line ≡ true → 1 ≤ length line → length line ≤ 998 → AreWritable ids → is_narrow (line ++ flat_map (λ id. fold ++ in_angles id) ids) ≡ true
narrow_ids line [] h some short each = subst (λ t. is_narrow t ≡ true) (sym (append-nil line)) (narrow_line line h some short)
narrow_ids line (id ∷ ids) h some short each =
    let cut = and_parts (is_writable id) (list_all is_writable ids) each in
    let rest : List ℕ = flat_map (λ one. fold ++ in_angles one) ids in
    let next : List ℕ = 32 ∷ in_angles id in
    let size = id_size id cut.0 in
    let within : nat_le (length line) 998 ≡ true = grind (arith, nat_tests) in
    let cut_lines : lines (line ++ ((fold ++ in_angles id) ++ rest)) ≡ line ∷ lines (next ++ rest) = lines_ended line (next ++ rest) h in
    ap (list_all (λ one. nat_le (length one) 998)) cut_lines
    ∙ both (nat_le (length line) 998) (is_narrow (next ++ rest)) within (narrow_ids next ids (writable_line id cut.0) (omega arith) (omega arith) cut.1)

-- ---- each field

-- whether a field has a free text or short lines
abbrev is_fit : List ℕ → Bool
is_fit field = has_free_text field || is_narrow field

fit_if : (field : List ℕ) → is_narrow field ≡ true → is_fit field ≡ true
fit_if field e = elim (cases_Bool (has_free_text field)) [
  | inl f ↦ rw f refl
  | inr f ↦ rw (f, e) refl
]

fit_ids : (name : List ℕ) (ids : List (List ℕ)) → is_line name ≡ true → 1 ≤ length name → length name ≤ 100 → AreWritable ids → list_all is_fit (optional name (ids_or_none ids)) ≡ true
fit_ids name [] h some short each = refl
fit_ids name (id ∷ ids) h some short each =
    let cut = and_parts (is_writable id) (list_all is_writable ids) each in
    let line : List ℕ = name ++ in_angles id in
    let rest : List ℕ = flat_map (λ one. fold ++ in_angles one) ids in
    let size = id_size id cut.0 in
    let whole : name ++ (in_angles id ++ rest) ≡ line ++ rest = sym (append_assoc name (in_angles id) rest) in
    let narrow : is_narrow (line ++ rest) ≡ true = narrow_ids line ids (joined name (in_angles id) h (writable_line id cut.0)) (omega (arith, length-append name (in_angles id))) (omega (arith, length-append name (in_angles id))) cut.1 in
    let some_ids : (length (id ∷ ids) == 0) ≡ false = grind (arith, nat_tests) in
    rw some_ids (both (is_fit (name ++ (in_angles id ++ rest))) true (fit_if (name ++ (in_angles id ++ rest)) (subst (λ t. is_narrow t ≡ true) (sym whole) narrow)) refl)

free_field : (name : List ℕ) (value : Option (List ℕ)) → ((v : List ℕ) → has_free_text (name ++ v) ≡ true) → list_all is_fit (optional name value) ≡ true
free_field name None free = refl
free_field name (Some v) free = let f : has_free_text (name ++ v) ≡ true = free v in rw f refl

-- ---- dates and numbers

weekday_size : (n : ℕ) → length (weekday_text n) ≤ 3
weekday_size n =
    let short = all_get (λ text. nat_le (length text) 3) (codes "Mon" ∷ codes "Tue" ∷ codes "Wed" ∷ codes "Thu" ∷ codes "Fri" ∷ codes "Sat" ∷ codes "Sun" ∷ []) n [] refl refl in
    grind (arith, nat_tests)

month_size : (n : ℕ) → length (month_text n) ≤ 3
month_size n =
    let short = all_get (λ text. nat_le (length text) 3) (codes "Jan" ∷ codes "Feb" ∷ codes "Mar" ∷ codes "Apr" ∷ codes "May" ∷ codes "Jun" ∷ codes "Jul" ∷ codes "Aug" ∷ codes "Sep" ∷ codes "Oct" ∷ codes "Nov" ∷ []) (n - 1) (codes "Dec") refl refl in
    grind (arith, nat_tests)

date_size : (clock : DateTime) → length (date_text clock) ≤ 60
unfolding date_text
date_size clock = simp length-append (omega (arith, weekday_size (weekday_of clock.date), month_size clock.date.month))

hex_size : (count number : ℕ) → length (hex_digits count number) ≡ count
unfolding hex_digits
hex_size zero number = refl
hex_size (suc count) number = simp length-append (omega (arith, hex_size count (number / 16)))

-- ---- domains

record HasDomain (rest : List ℕ) : Type 0 where
  domain : List ℕ
  parts : rest ≡ 64 ∷ domain
  run : IsRun classes.Domain 255 domain

domain_from : (domain : Option (List ℕ)) (rest : List ℕ) → domain ≡ strip_at 64 rest → is_domain_part domain ≡ true → HasDomain rest
domain_from None rest s e = cc e
domain_from (Some domain) [] s e = cc s
domain_from (Some domain) (c ∷ rest) s e = elim (cases_Bool (c == 64)) [
  | inl f ↦
      let here : strip_at 64 (c ∷ rest) ≡ Some rest = rw f refl in
      let same : domain ≡ rest = cc (s, here) in
      let at : c ≡ 64 = eqb-true c 64 f in
      record { domain = rest; parts = ap (λ k. k ∷ rest) at; run = run_from classes.Domain 255 rest (subst (λ t. is_run classes.Domain 255 t ≡ true) same e) }
  | inr f ↦
      let none : strip_at 64 (c ∷ rest) ≡ None = rw f refl in
      cc (s, none)
]

address_size : (address : List ℕ) → is_address address ≡ true → length address ≤ 320
unfolding is_address
address_size address e =
    let local : List ℕ = (take_while_at classes.Local address).0 in
    let rest : List ℕ = (take_while_at classes.Local address).1 in
    let parts = and_parts (is_domain_part (strip_at 64 rest)) (is_run classes.Local 64 local) e in
    let first = run_from classes.Local 64 local parts.1 in
    let second = domain_from (strip_at 64 rest) rest refl parts.0 in
    let whole : local ++ rest ≡ address = take-append-drop _ address in
    let first_size = first.short in
    let second_size = second.run.short in
    let rest_size : length rest ≡ length (64 ∷ second.domain) = ap length second.parts in
    let size : length local + length rest ≡ length address = sym (length-append local rest) ∙ ap length whole in
    omega arith

domain_size : (address : List ℕ) → is_address address ≡ true → length (domain_of address) ≤ 320
domain_size address e =
    let size = address_size address e in
    omega (arith, length-drop (suc (position_or_len (λ c. c == 64) address)) address)

-- ---- the header

front_fit : (draft : Draft) (parties : Parties) (clock : DateTime) → HavePartyLines parties → length parties.domain ≤ 320 → list_all is_fit (front draft parties clock) ≡ true
front_fit draft parties clock h d =
    let date : List ℕ = codes "Date: " ++ date_text clock in
    let own : List ℕ = codes "Message-ID: " ++ own_id draft.form parties.domain in
    let date_short = date_size clock in
    let hex : length (hex_digits 16 draft.form) ≡ 16 = hex_size 16 draft.form in
    let inner : length (hex_digits 16 draft.form ++ 64 ∷ parties.domain) ≡ 16 + suc (length parties.domain) = length-append (hex_digits 16 draft.form) (64 ∷ parties.domain) ∙ ap (λ n. n + suc (length parties.domain)) hex in
    let own_size : length (own_id draft.form parties.domain) ≤ 400 = omega (arith, length-append (hex_digits 16 draft.form ++ 64 ∷ parties.domain) (62 ∷ [])) in
    all_eight is_fit (date ∷ []) (optional (codes "From: ") parties.from) (optional (codes "To: ") parties.to) (optional (codes "Cc: ") parties.cc) ((codes "Subject: " ++ written draft.subject) ∷ [])
    (optional (codes "In-Reply-To: ") (ids_or_none (last_of_ids 1 (references_of draft.refs)))) (optional (codes "References: ") (ids_or_none (references_of draft.refs))) (own ∷ [])
    (both (is_fit date) true (fit_if date (narrow_line date (joined (codes "Date: ") (date_text clock) refl (date_line clock)) (omega arith) (omega arith))) refl)
    (free_field (codes "From: ") parties.from (λ v. refl)) (free_field (codes "To: ") parties.to (λ v. refl)) (free_field (codes "Cc: ") parties.cc (λ v. refl)) refl
    (fit_ids (codes "In-Reply-To: ") (last_of_ids 1 (references_of draft.refs)) refl (omega arith) (omega arith) (all_drop is_writable _ (references_of draft.refs) (references_writable draft.refs)))
    (fit_ids (codes "References: ") (references_of draft.refs) refl (omega arith) (omega arith) (references_writable draft.refs))
    (both (is_fit own) true (fit_if own (narrow_line own (joined (codes "Message-ID: ") (own_id draft.form parties.domain) refl (own_line draft.form parties.domain h.domain)) (omega arith) (omega arith))) refl)

form_fit : (seven_bit : Bool) → list_all is_fit (form seven_bit) ≡ true
form_fit true = refl
form_fit false = refl

header_fit : (draft : Draft) (parties : Parties) (clock : DateTime) (seven_bit : Bool) → HavePartyLines parties → length parties.domain ≤ 320 → list_all is_fit (header draft parties clock seven_bit) ≡ true
header_fit draft parties clock seven_bit h d =
    ap (list_all is_fit) (header_split draft parties clock seven_bit) ∙ all_append is_fit (front draft parties clock) (form seven_bit) (front_fit draft parties clock h d) (form_fit seven_bit)

pub sent_narrow : (draft : Draft) (identity : Identity) (parties : Parties) (clock : DateTime) (seven_bit : Bool) → parties_of draft identity ≡ Ok parties → list_all is_fit (header draft parties clock seven_bit) ≡ true
sent_narrow draft identity parties clock seven_bit e =
    let h : HavePartyLines parties = subst (λ r. IfOk r HavePartyLines) e (parties_lines draft identity) in
    let same : length parties.domain ≡ length (domain_of identity.address) = ap length (domain_is draft identity parties e) in
    let size = domain_size identity.address (sender_is draft identity parties e) in
    header_fit draft parties clock seven_bit h (omega arith)

saved_size : (identity : Identity) → length (saved_domain identity) ≤ 320
saved_size identity = elim (cases_Bool (is_address identity.address)) [
  | inl e ↦ rw e (domain_size identity.address e)
  | inr e ↦ rw e (omega arith)
]

pub saved_narrow : (draft : Draft) (identity : Identity) (parties : Parties) (clock : DateTime) (seven_bit : Bool) → saved_parties_of draft identity ≡ Ok parties → list_all is_fit (header draft parties clock seven_bit) ≡ true
unfolding saved_parties_of
saved_narrow draft identity parties clock seven_bit e =
    let h : HavePartyLines parties = subst (λ r. IfOk r HavePartyLines) e (saved_lines draft identity) in
    let found : Parties = record { from = saved_from identity; to = text_or_none draft.to; cc = text_or_none draft.cc; domain = saved_domain identity } in
    let same : length (saved_domain identity) ≡ length parties.domain = ap (λ (p : Parties). length p.domain) (limit_keeps draft.text found parties e) in
    let size = saved_size identity in
    header_fit draft parties clock seven_bit h (omega arith)
