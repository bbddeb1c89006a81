-- Which drafts are built, with what sender and recipients.
use Rattle.std.specs.Prelude.{◌≡◌, ℤ, ℕ, suc, ◌==◌, nat_lt, Bool, ◌&&◌, if◌then◌else◌, List, [], ◌∷◌, length, drop, codes, Option, Some, None, Result, Ok, Err}
use Rattle.std.specs.List.{list_all, position_or_len}
use Rattle.std.specs.Global.{Vec}
use Rattle.account_pictures.specs.declared.records.Identity.{Identity}
use Rattle.jiff_core.specs.declared.civil.datetime.DateTime.{DateTime}
use Rattle.mail_addresses.specs.declared.Mailbox.{Mailbox}
use Rattle.mail_addresses.specs.Boxes.{boxes_of, is_address}
use Rattle.site_asks.specs.declared.Draft.{Draft}
use Rattle.compose_drafts.specs.declared.DraftFault.{DraftFault}
use Rattle.compose_drafts.specs.declared.DraftFault.TheVariants as faults
use Rattle.compose_drafts.specs.declared.parties.Parties.{Parties}
use Rattle.compose_drafts.specs.Message.{message}
use Rattle.compose_drafts.specs.Moments.{Shows}
use Rattle.mail_addresses.specs.Runs.{is_space}
use Rattle.compose_drafts.specs.Texts.{box_text, boxes_text, written}

infixl 10 ◌>>=◌
abbrev pub ◌>>=◌ : {A B : Type 0} → Result A DraftFault → (A → Result B DraftFault) → Result B DraftFault
(Ok x) >>= f = f x
(Err fault) >>= f = Err fault

-- a fault is that of the definition, unless memory ran out
abbrev pub FailsAs : {Y : Type 0} → DraftFault → Result Y DraftFault → Type 0
FailsAs faults.NoRecipient read = read ≡ Err faults.NoRecipient
FailsAs (faults.NotAddress field at) read = read ≡ Err (faults.NotAddress field at)
FailsAs (faults.Long bytes) read = read ≡ Err (faults.Long bytes)
FailsAs faults.Memory read = Unit {0}

-- a function's result, seen by `view`, is the definition's
abbrev pub ReadsAs : {X Y : Type 0} → (X → Y) → Result X DraftFault → Result Y DraftFault → Type 0
ReadsAs view (Ok x) read = read ≡ Ok (view x)
ReadsAs view (Err fault) read = FailsAs fault read

-- the fault of a place in a field, unless there was no memory for it
abbrev pub IsNotAddress : List ℕ → ℕ → DraftFault → Type 0
IsNotAddress name place (faults.NotAddress field at) = (field ≡ name) × (at ≡ place)
IsNotAddress name place faults.Memory = Unit {0}
IsNotAddress name place fault = ⊥

-- ---- a field of recipients

abbrev pub is_blank : List ℕ → Bool
is_blank text = list_all is_space text

-- a place in a field as its fault
abbrev pub in_field : List ℕ → Result (List Mailbox) ℕ → Result (List Mailbox) DraftFault
in_field name (Ok boxes) = Ok boxes
in_field name (Err at) = Err (faults.NotAddress name at)

-- the boxes of a field; a blank field has none
unfoldable pub recipients_of : List ℕ → List ℕ → Result (List Mailbox) DraftFault
recipients_of name text = if is_blank text then Ok [] else in_field name (boxes_of text)

abbrev pub boxes_or_none : List Mailbox → Option (List ℕ)
boxes_or_none [] = None
boxes_or_none (box ∷ boxes) = Some (boxes_text (box ∷ boxes))

-- ---- the sender

abbrev pub domain_of : List ℕ → List ℕ
domain_of address = drop (suc (position_or_len (λ c. c == 64) address)) address

-- the address of an identity is one `local@domain`; a list of other boxes is refused at its front
abbrev pub one_address : List ℕ → Result (List Mailbox) DraftFault → Result (List ℕ) DraftFault
one_address address (Ok boxes) = if is_address address then Ok address else Err (faults.NotAddress (codes "identity") 0)
one_address address (Err fault) = Err fault

unfoldable pub sender_of : List ℕ → Result (List ℕ) DraftFault
sender_of address = one_address address (in_field (codes "identity") (boxes_of address))

abbrev pub from_text : Identity → List ℕ
from_text identity = box_text identity.name identity.address

-- ---- the length of the text

abbrev pub limit : ℕ
limit = 524288

abbrev pub within_limit : List ℕ → Parties → Result Parties DraftFault
within_limit text parties = if nat_lt limit (length text) then Err (faults.Long (length text)) else Ok parties

-- ---- a message that is sent

-- the parties of a message that is sent, or its first fault
unfoldable pub sent_parties_of : Draft → Identity → Result Parties DraftFault
sent_parties_of draft identity = do
  to ← recipients_of (codes "to") draft.to
  cc ← recipients_of (codes "cc") draft.cc
  address ← sender_of identity.address
  within_limit draft.text (record { from = Some (from_text identity); to = boxes_or_none to; cc = boxes_or_none cc; domain = domain_of address })

unfoldable pub parties_of : Draft → Identity → Result Parties DraftFault
parties_of draft identity = if is_blank draft.to && is_blank draft.cc then Err faults.NoRecipient else sent_parties_of draft identity

-- ---- a draft that is saved

abbrev pub text_or_none : List ℕ → Option (List ℕ)
text_or_none text = if is_blank text then None else Some (written text)

abbrev pub saved_from : Identity → Option (List ℕ)
saved_from identity = if is_address identity.address then Some (from_text identity) else None

abbrev pub saved_domain : Identity → List ℕ
saved_domain identity = if is_address identity.address then domain_of identity.address else codes "webmail"

-- the parties of a saved draft: recipients are one text, whatever it is, and no address is needed
unfoldable pub saved_parties_of : Draft → Identity → Result Parties DraftFault
saved_parties_of draft identity = within_limit draft.text (record { from = saved_from identity; to = text_or_none draft.to; cc = text_or_none draft.cc; domain = saved_domain identity })

-- ---- what is returned

-- bytes are the message of a draft at a moment
pub record IsMessage (draft : Draft) (parties : Parties) (moment : ℤ) (bytes : List ℕ) : Type 0 where
  pub clock : DateTime
  pub shows : Shows moment clock
  pub bytes_are : bytes ≡ message draft parties clock

pub record IsSent (draft : Draft) (read : Result Parties DraftFault) (moment : ℤ) (bytes : List ℕ) : Type 0 where
  pub parties : Parties
  pub parties_are : read ≡ Ok parties
  pub built : IsMessage draft parties moment bytes

-- what a builder returns: the message, or the first fault, or it ran out of memory
abbrev pub Builds : Draft → Result Parties DraftFault → ℤ → Result (Vec ℕ) DraftFault → Type 0
Builds draft read moment (Ok bytes) = IsSent draft read moment bytes.items
Builds draft read moment (Err fault) = FailsAs fault read
