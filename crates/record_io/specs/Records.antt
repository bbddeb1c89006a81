-- The records of accounts: for each name its identities by number, and its send states by form. The list is in order of the names, and each name's lists are in order of the numbers.
use Rattle.std.specs.Prelude.{ℕ, not, ◌==◌, if◌then◌else◌, List, [], ◌∷◌, Option, Some, None, bytes_eq}
use Rattle.std.specs.List.{filter}
use Rattle.std.specs.Map.{lookup}
use Rattle.std.specs.BTreeMap.{insert_entry, is_at}
use Rattle.std.specs.Ordering.{nat_cmp, match_ordering}
use Rattle.std.specs.Cmp.Lexicographic.{slice_cmp}
use Rattle.account_pictures.specs.declared.records.Identity.{Identity}
use Rattle.account_pictures.specs.declared.records.SendState.{SendState}
use Rattle.account_pictures.specs.declared.records.Records.{Records}

-- the records of a name under which nothing is kept
abbrev pub no_records : List ℕ → Records
no_records account = record { account = account; identities = []; sends = [] }

-- the records of a name
unfoldable pub records_of : List ℕ → List Records → Records
records_of account [] = no_records account
records_of account (one ∷ others) = if bytes_eq account one.account then one else records_of account others

abbrev pub identities_of : List ℕ → List Records → List (ℕ × Identity)
identities_of account records = (records_of account records).identities

abbrev pub identity_of : List ℕ → ℕ → List Records → Option Identity
identity_of account number records = lookup (is_at (nat_cmp number)) (identities_of account records)

abbrev pub sends_of : List ℕ → List Records → List (ℕ × SendState)
sends_of account records = (records_of account records).sends

-- a form that was never sent has no state
abbrev pub state_of : List ℕ → ℕ → List Records → Option SendState
state_of account form records = lookup (is_at (nat_cmp form)) (sends_of account records)

-- ---- changes

-- with a name's records in their place, in order of the names
unfoldable pub with_records : Records → List Records → List Records
with_records new [] = new ∷ []
with_records new (one ∷ others) = match_ordering (slice_cmp nat_cmp new.account one.account) (new ∷ one ∷ others) (new ∷ others) (one ∷ with_records new others)

-- an identity takes the place of the one with its number
abbrev pub with_identity : ℕ → Identity → Records → Records
with_identity number identity one = record one { identities = insert_entry nat_cmp one.identities number identity }

abbrev pub with_state : ℕ → SendState → Records → Records
with_state form state one = record one { sends = insert_entry nat_cmp one.sends form state }

abbrev pub without_state : ℕ → Records → Records
without_state form one = record one { sends = filter (λ send. not (form == send.0)) one.sends }

-- the form of a name has no state any more
unfoldable pub without_send : List ℕ → ℕ → List Records → List Records
without_send account form [] = []
without_send account form (one ∷ others) = if bytes_eq account one.account then without_state form one ∷ others else one ∷ without_send account form others

-- what one call does to the records of all names
pub data Change : Type 0 where
  -- account, number, identity
  PutIdentity : List ℕ → ℕ → Identity → Change
  -- account, form, the state that it has from now on
  SetSend : List ℕ → ℕ → Option SendState → Change

abbrev pub account_of : Change → List ℕ
account_of (PutIdentity account number identity) = account
account_of (SetSend account form state) = account

unfoldable pub after_change : List Records → Change → List Records
after_change records (PutIdentity account number identity) = with_records (with_identity number identity (records_of account records)) records
after_change records (SetSend account form (Some state)) = with_records (with_state form state (records_of account records)) records
after_change records (SetSend account form None) = without_send account form records
