-- The recipients of a message in its header and in its envelope (RFC 5321, RFC 5322).
use Rattle.std.specs.Prelude.{◌≡◌, ℕ, ℤ, true, List, [], ◌++◌, codes, Result, Ok, Err}
use Rattle.std.specs.List.{All}
use Rattle.account_pictures.specs.declared.records.Identity.{Identity}
use Rattle.header_words.specs.Fields.{header_of}
use Rattle.mail_addresses.specs.Boxes.{boxes_of, is_address}
use Rattle.mail_addresses.specs.declared.Mailbox.{Mailbox}
use Rattle.mime_content.specs.Content.{field_value}
use Rattle.site_asks.specs.declared.Draft.{Draft}
use Rattle.compose_drafts.specs.declared.DraftFault.{DraftFault}
use Rattle.compose_drafts.specs.declared.parties.Parties.{Parties}
use Rattle.compose_drafts.specs.Drafts.{IsSent, boxes_or_none, parties_of}
use Rattle.compose_drafts.specs.Recipients.{addresses, addresses_of}

-- the boxes of the fields To and Cc: the message is sent to their addresses, and to no others
pub record HasRecipients (draft : Draft) (parties : Parties) : Type 0 where
  pub to : List Mailbox
  pub cc : List Mailbox
  pub to_field : parties.to ≡ boxes_or_none to
  pub cc_field : parties.cc ≡ boxes_or_none cc
  pub sent_to : addresses_of draft ≡ Ok (addresses (to ++ cc))

-- the recipients of each message that is built are the boxes of its header
abbrev pub RecipientsAreWritten : Type 0
RecipientsAreWritten = (draft : Draft) (identity : Identity) (parties : Parties) → parties_of draft identity ≡ Ok parties → HasRecipients draft parties

-- a draft without recipients has no message, whoever sends it, for the same reason
abbrev pub FaultsAreShared : Type 0
FaultsAreShared = (draft : Draft) (identity : Identity) (fault : DraftFault) → addresses_of draft ≡ Err fault → parties_of draft identity ≡ Err fault

-- ---- the header as it is read

-- the addresses of boxes, if they read
abbrev pub read_addresses : Result (List Mailbox) ℕ → List (List ℕ)
read_addresses (Ok boxes) = addresses boxes
read_addresses (Err at) = []

-- the addresses that a reader finds in the first field of a name
abbrev pub addresses_read : List ℕ → List ℕ → List (List ℕ)
addresses_read name bytes = read_addresses (boxes_of (field_value name (header_of bytes).fields))

-- a message is sent to the addresses that readers find in its To and Cc, in order
abbrev pub RecipientsAreRead : Type 0
RecipientsAreRead = (draft : Draft) (identity : Identity) (moment : ℤ) (bytes : List ℕ) → IsSent draft (parties_of draft identity) moment bytes → addresses_of draft ≡ Ok (addresses_read (codes "To") bytes ++ addresses_read (codes "Cc") bytes)

-- ---- addresses

-- recipients are addresses, each one `local@domain`
abbrev pub RecipientsAreAddresses : Type 0
RecipientsAreAddresses = (draft : Draft) (found : List (List ℕ)) → addresses_of draft ≡ Ok found → All (λ address. is_address address ≡ true) found

-- a message is sent by an address
abbrev pub SendersAreAddresses : Type 0
SendersAreAddresses = (draft : Draft) (identity : Identity) (parties : Parties) → parties_of draft identity ≡ Ok parties → is_address identity.address ≡ true
