-- The recipients of a draft are the boxes of its message's header.
use Rattle.std.proofs.Common.{◌≡◌, ℕ, ℤ, inl, inr, true, false, List, [], ◌++◌, length, refl, sym, ap, ◌∙◌, subst, Ok, Err}
use Rattle.std.specs.Prelude.{◌&&◌, nat_lt, Some, Result, IfOk, codes}
use Rattle.std.specs.List.{All}
use Rattle.std.proofs.lemmas.Bool.{cases_Bool}
use Rattle.std.proofs.lemmas.List.{map-append}
use Rattle.std.proofs.lemmas.List.Elements.{All-append}
use Rattle.account_pictures.specs.declared.records.Identity.{Identity}
use Rattle.mail_addresses.specs.declared.Mailbox.{Mailbox}
use Rattle.site_asks.specs.declared.Draft.{Draft}
use Rattle.compose_drafts.specs.declared.DraftFault.{DraftFault}
use Rattle.compose_drafts.specs.declared.DraftFault.TheVariants as faults
use Rattle.compose_drafts.specs.declared.parties.Parties.{Parties}
use Rattle.compose_drafts.specs.Drafts.{◌>>=◌, IsSent, boxes_or_none, domain_of, from_text, in_field, is_blank, one_address, limit, parties_of, recipients_of, sender_of, sent_parties_of, within_limit}
use Rattle.compose_drafts.specs.Recipients.{addresses, addresses_in, addresses_of}
use Rattle.mail_addresses.specs.Boxes.{boxes_of, is_address}
use Rattle.compose_drafts.proofs.AddressLines.{HaveLines, boxes_lines}
use Rattle.compose_drafts.proofs.MessageLines.{HavePartyLines, parties_lines}
use Rattle.draft_laws.specs.Envelopes.{HasRecipients, addresses_read}
use Rattle.draft_laws.proofs.ReadBoxes.{HaveAddresses, addresses_are, boxes_found}
use Rattle.draft_laws.proofs.ReadFields.{HasBoxes, copied_read, to_read}

record IsWritten (first second : Result (List Mailbox) DraftFault) (sender : Result (List ℕ) DraftFault) (parties : Parties) : Type 0 where
  to : List Mailbox
  cc : List Mailbox
  to_field : parties.to ≡ boxes_or_none to
  cc_field : parties.cc ≡ boxes_or_none cc
  sent_to : addresses_in first second ≡ Ok (addresses (to ++ cc))
  first_boxes : first ≡ Ok to
  second_boxes : second ≡ Ok cc
  from : List ℕ
  sender_address : sender ≡ Ok from
  own_domain : parties.domain ≡ domain_of from

-- a message that is sent
abbrev sent_with : Draft → Identity → Result (List Mailbox) DraftFault → Result (List Mailbox) DraftFault → Result (List ℕ) DraftFault → Result Parties DraftFault
sent_with draft identity first second sender = do
  to ← first
  cc ← second
  address ← sender
  within_limit draft.text (record { from = Some (from_text identity); to = boxes_or_none to; cc = boxes_or_none cc; domain = domain_of address })

pub limit_keeps : (text : List ℕ) (found parties : Parties) → within_limit text found ≡ Ok parties → found ≡ parties
limit_keeps text found parties e = elim (cases_Bool (nat_lt limit (length text))) [
  | inl long ↦ let long_text : within_limit text found ≡ Err (faults.Long (length text)) = rw long refl in cc (e, long_text)
  | inr short ↦ let kept : within_limit text found ≡ Ok found = rw short refl in cc (e, kept)
]

written : (draft : Draft) (identity : Identity) (first second : Result (List Mailbox) DraftFault) (sender : Result (List ℕ) DraftFault) (parties : Parties) → sent_with draft identity first second sender ≡ Ok parties → IsWritten first second sender parties
written draft identity (Ok to) (Ok copied) (Ok address) parties e =
    let same = limit_keeps draft.text (record { from = Some (from_text identity); to = boxes_or_none to; cc = boxes_or_none copied; domain = domain_of address }) parties e in
    record {
      to = to;
      cc = copied;
      to_field = ap (λ (p : Parties). p.to) (sym same);
      cc_field = ap (λ (p : Parties). p.cc) (sym same);
      sent_to = ap Ok (sym (map-append (λ (box : Mailbox). box.address) to copied));
      first_boxes = refl;
      second_boxes = refl;
      from = address;
      sender_address = refl;
      own_domain = ap (λ (p : Parties). p.domain) (sym same);
    }
written draft identity (Ok to) (Ok copied) (Err fault) parties e = cc e
written draft identity (Ok to) (Err fault) sender parties e = cc e
written draft identity (Err fault) second sender parties e = cc e

written_boxes : (draft : Draft) (identity : Identity) (parties : Parties) → parties_of draft identity ≡ Ok parties → IsWritten (recipients_of (codes "to") draft.to) (recipients_of (codes "cc") draft.cc) (sender_of identity.address) parties
unfolding parties_of sent_parties_of
written_boxes draft identity parties e = elim (cases_Bool (is_blank draft.to && is_blank draft.cc)) [
  | inl b ↦
      let nobody : parties_of draft identity ≡ Err faults.NoRecipient = rw b refl in
      cc (e, nobody)
  | inr b ↦
      let sent : sent_with draft identity (recipients_of (codes "to") draft.to) (recipients_of (codes "cc") draft.cc) (sender_of identity.address) ≡ Ok parties = rw b at e in
      written draft identity (recipients_of (codes "to") draft.to) (recipients_of (codes "cc") draft.cc) (sender_of identity.address) parties sent
]

-- a draft with a message has a recipient
addressed : (draft : Draft) (identity : Identity) (parties : Parties) → parties_of draft identity ≡ Ok parties → (is_blank draft.to && is_blank draft.cc) ≡ false
unfolding parties_of
addressed draft identity parties e = elim (cases_Bool (is_blank draft.to && is_blank draft.cc)) [
  | inl b ↦
      let nobody : parties_of draft identity ≡ Err faults.NoRecipient = rw b refl in
      cc (e, nobody)
  | inr b ↦ b
]

pub has_recipients : (draft : Draft) (identity : Identity) (parties : Parties) → parties_of draft identity ≡ Ok parties → HasRecipients draft parties
unfolding addresses_of
has_recipients draft identity parties e =
    let w = written_boxes draft identity parties e in
    let b : (is_blank draft.to && is_blank draft.cc) ≡ false = addressed draft identity parties e in
    record { to = w.to; cc = w.cc; to_field = w.to_field; cc_field = w.cc_field; sent_to = rw b w.sent_to }

-- ---- what readers find

field_boxes : (name : List ℕ) (read : Result (List Mailbox) ℕ) (boxes : List Mailbox) → in_field name read ≡ Ok boxes → read ≡ Ok boxes
field_boxes name (Ok found) boxes e = let same : found ≡ boxes = cc e in ap Ok same
field_boxes name (Err at) boxes e = cc e

boxes_are : (name text : List ℕ) (boxes : List Mailbox) → recipients_of name text ≡ Ok boxes → HaveLines boxes × HaveAddresses boxes
unfolding recipients_of
boxes_are name text boxes e = elim (cases_Bool (is_blank text)) [
  | inl b ↦
      let none : recipients_of name text ≡ Ok [] = rw b refl in
      let same : [] ≡ boxes = cc (e, none) in
      subst (λ bs. HaveLines bs × HaveAddresses bs) same (refl, tt)
  | inr b ↦
      let found : in_field name (boxes_of text) ≡ Ok boxes = rw b at e in
      let read : boxes_of text ≡ Ok boxes = field_boxes name (boxes_of text) boxes found in
      (subst (λ r. IfOk r HaveLines) read (boxes_lines text), subst (λ r. IfOk r HaveAddresses) read (boxes_found text))
]

pub recipients_read : (draft : Draft) (identity : Identity) (moment : ℤ) (bytes : List ℕ) → IsSent draft (parties_of draft identity) moment bytes → addresses_of draft ≡ Ok (addresses_read (codes "To") bytes ++ addresses_read (codes "Cc") bytes)
unfolding addresses_of
recipients_read draft identity moment bytes sent =
    let parties : Parties = sent.parties in
    let clock = sent.built.clock in
    let e : parties_of draft identity ≡ Ok parties = sent.parties_are in
    let w = written_boxes draft identity parties e in
    let b : (is_blank draft.to && is_blank draft.cc) ≡ false = addressed draft identity parties e in
    let first = boxes_are (codes "to") draft.to w.to w.first_boxes in
    let second = boxes_are (codes "cc") draft.cc w.cc w.second_boxes in
    let boxes : HasBoxes parties w.to w.cc = record { to_field = w.to_field; copied_field = w.cc_field; to_lines = first.0; copied_lines = second.0; to_addresses = first.1; copied_addresses = second.1 } in
    let h : HavePartyLines parties = subst (λ r. IfOk r HavePartyLines) e (parties_lines draft identity) in
    let known : addresses_of draft ≡ Ok (addresses (w.to ++ w.cc)) = rw b w.sent_to in
    known ∙ ap Ok (map-append (λ (box : Mailbox). box.address) w.to w.cc)
    ∙ ap (λ found. Ok (found ++ addresses w.cc)) (sym (ap (addresses_read (codes "To")) sent.built.bytes_are ∙ to_read draft parties clock w.to w.cc h boxes))
    ∙ ap (λ found. Ok (addresses_read (codes "To") bytes ++ found)) (sym (ap (addresses_read (codes "Cc")) sent.built.bytes_are ∙ copied_read draft parties clock w.to w.cc h boxes))

-- ---- faults

not_sent : (draft : Draft) (identity : Identity) (first second : Result (List Mailbox) DraftFault) (sender : Result (List ℕ) DraftFault) (fault : DraftFault) → addresses_in first second ≡ Err fault → sent_with draft identity first second sender ≡ Err fault
not_sent draft identity (Ok to) (Ok copied) sender fault e = cc e
not_sent draft identity (Ok to) (Err other) sender fault e = cc e
not_sent draft identity (Err other) second sender fault e = cc e

pub shared_fault : (draft : Draft) (identity : Identity) (fault : DraftFault) → addresses_of draft ≡ Err fault → parties_of draft identity ≡ Err fault
unfolding parties_of sent_parties_of addresses_of
shared_fault draft identity fault e = elim (cases_Bool (is_blank draft.to && is_blank draft.cc)) [
  | inl b ↦
      let nobody : addresses_of draft ≡ Err faults.NoRecipient = rw b refl in
      let same : parties_of draft identity ≡ Err faults.NoRecipient = rw b refl in
      cc (e, nobody, same)
  | inr b ↦
      let found : addresses_in (recipients_of (codes "to") draft.to) (recipients_of (codes "cc") draft.cc) ≡ Err fault = rw b at e in
      rw b (not_sent draft identity (recipients_of (codes "to") draft.to) (recipients_of (codes "cc") draft.cc) (sender_of identity.address) fault found)
]

-- ---- addresses

in_both : (first second : Result (List Mailbox) DraftFault) (found : List (List ℕ)) → IfOk first HaveAddresses → IfOk second HaveAddresses → addresses_in first second ≡ Ok found → All (λ address. is_address address ≡ true) found
in_both (Ok to) (Ok copied) found a b e =
    let same : addresses to ++ addresses copied ≡ found = cc e in
    subst (λ f. All (λ address. is_address address ≡ true) f) same (All-append (λ address. is_address address ≡ true) (addresses to) (addresses copied) (addresses_are to a) (addresses_are copied b))
in_both (Ok to) (Err fault) found a b e = cc e
in_both (Err fault) second found a b e = cc e

found_addresses : (name text : List ℕ) (read : Result (List Mailbox) DraftFault) → recipients_of name text ≡ read → IfOk read HaveAddresses
found_addresses name text (Ok boxes) e = (boxes_are name text boxes e).1
found_addresses name text (Err fault) e = tt

have_addresses : (name text : List ℕ) → IfOk (recipients_of name text) HaveAddresses
have_addresses name text = found_addresses name text (recipients_of name text) refl

pub recipients_are : (draft : Draft) (found : List (List ℕ)) → addresses_of draft ≡ Ok found → All (λ address. is_address address ≡ true) found
unfolding addresses_of
recipients_are draft found e = elim (cases_Bool (is_blank draft.to && is_blank draft.cc)) [
  | inl b ↦
      let nobody : addresses_of draft ≡ Err faults.NoRecipient = rw b refl in
      cc (e, nobody)
  | inr b ↦
      let read : addresses_in (recipients_of (codes "to") draft.to) (recipients_of (codes "cc") draft.cc) ≡ Ok found = rw b at e in
      in_both (recipients_of (codes "to") draft.to) (recipients_of (codes "cc") draft.cc) found (have_addresses (codes "to") draft.to) (have_addresses (codes "cc") draft.cc) read
]

checked : (address from : List ℕ) (boxes : Result (List Mailbox) DraftFault) → one_address address boxes ≡ Ok from → (is_address address ≡ true) × (address ≡ from)
checked address from (Ok boxes) e = elim (cases_Bool (is_address address)) [
  | inl b ↦
      let kept : one_address address (Ok boxes) ≡ Ok address = rw b refl in
      (b, cc (e, kept))
  | inr b ↦
      let refused : one_address address (Ok boxes) ≡ Err (faults.NotAddress (codes "identity") 0) = rw b refl in
      cc (e, refused)
]
checked address from (Err fault) e = cc e

pub sender_is : (draft : Draft) (identity : Identity) (parties : Parties) → parties_of draft identity ≡ Ok parties → is_address identity.address ≡ true
unfolding sender_of
sender_is draft identity parties e =
    let w = written_boxes draft identity parties e in
    (checked identity.address w.from (in_field (codes "identity") (boxes_of identity.address)) w.sender_address).0

-- the domain of a message's identifier is that of its sender
pub domain_is : (draft : Draft) (identity : Identity) (parties : Parties) → parties_of draft identity ≡ Ok parties → parties.domain ≡ domain_of identity.address
unfolding sender_of
domain_is draft identity parties e =
    let w = written_boxes draft identity parties e in
    w.own_domain ∙ ap domain_of (sym (checked identity.address w.from (in_field (codes "identity") (boxes_of identity.address)) w.sender_address).1)
