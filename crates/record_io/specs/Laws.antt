-- What was put in is read back, and everything else stays.
use Rattle.std.specs.Prelude.{◌≡◌, ◌≢◌, ℕ, List, Option, Some}
use Rattle.account_pictures.specs.declared.records.Identity.{Identity}
use Rattle.account_pictures.specs.declared.records.SendState.{SendState}
use Rattle.account_pictures.specs.declared.records.Records.{Records}
use Rattle.record_io.specs.Records.{Change, PutIdentity, SetSend, account_of, after_change, identities_of, identity_of, records_of, sends_of, state_of}

-- a state that was set, and one that was removed
abbrev pub SendsReadBack : Type 0
SendsReadBack = (records : List Records) (account : List ℕ) (form : ℕ) (state : Option SendState) → state_of account form (after_change records (SetSend account form state)) ≡ state

abbrev pub OtherFormsStay : Type 0
OtherFormsStay = (records : List Records) (account : List ℕ) (form other : ℕ) (state : Option SendState) → other ≢ form → state_of account other (after_change records (SetSend account form state)) ≡ state_of account other records

abbrev pub IdentitiesReadBack : Type 0
IdentitiesReadBack = (records : List Records) (account : List ℕ) (number : ℕ) (identity : Identity) → identity_of account number (after_change records (PutIdentity account number identity)) ≡ Some identity

abbrev pub OtherNumbersStay : Type 0
OtherNumbersStay = (records : List Records) (account : List ℕ) (number other : ℕ) (identity : Identity) → other ≢ number → identity_of account other (after_change records (PutIdentity account number identity)) ≡ identity_of account other records

-- an identity changes no state, and a state no identity
abbrev pub SendsStay : Type 0
SendsStay = (records : List Records) (account : List ℕ) (number : ℕ) (identity : Identity) → sends_of account (after_change records (PutIdentity account number identity)) ≡ sends_of account records

abbrev pub IdentitiesStay : Type 0
IdentitiesStay = (records : List Records) (account : List ℕ) (form : ℕ) (state : Option SendState) → identities_of account (after_change records (SetSend account form state)) ≡ identities_of account records

abbrev pub OtherAccountsStay : Type 0
OtherAccountsStay = (records : List Records) (change : Change) (other : List ℕ) → other ≢ account_of change → records_of other (after_change records change) ≡ records_of other records

pub record RecordsReadBack : Type 0 where
  pub sends : SendsReadBack
  pub other_forms : OtherFormsStay
  pub identities : IdentitiesReadBack
  pub other_numbers : OtherNumbersStay
  pub sends_stay : SendsStay
  pub identities_stay : IdentitiesStay
  pub other_accounts : OtherAccountsStay
