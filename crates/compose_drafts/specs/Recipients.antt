-- The recipients of a draft's message, as a mail server takes them (RFC 5321 §4.1.1.3).
use Rattle.std.specs.Prelude.{◌&&◌, if◌then◌else◌, ℕ, List, ◌++◌, map, codes, Result, Ok, Err}
use Rattle.mail_addresses.specs.declared.Mailbox.{Mailbox}
use Rattle.site_asks.specs.declared.Draft.{Draft}
use Rattle.compose_drafts.specs.declared.DraftFault.{DraftFault}
use Rattle.compose_drafts.specs.declared.DraftFault.TheVariants as faults
use Rattle.compose_drafts.specs.Drafts.{◌>>=◌, is_blank, recipients_of}

abbrev pub addresses : List Mailbox → List (List ℕ)
addresses boxes = map (λ box. box.address) boxes

-- the addresses in two fields, in order
abbrev pub addresses_in : Result (List Mailbox) DraftFault → Result (List Mailbox) DraftFault → Result (List (List ℕ)) DraftFault
addresses_in first second = do
  to ← first
  cc ← second
  Ok (addresses to ++ addresses cc)

-- the address of each box of `to`, and then of each box of `cc`, or the first fault
unfoldable pub addresses_of : Draft → Result (List (List ℕ)) DraftFault
addresses_of draft =
    if is_blank draft.to && is_blank draft.cc then Err faults.NoRecipient
    else addresses_in (recipients_of (codes "to") draft.to) (recipients_of (codes "cc") draft.cc)
