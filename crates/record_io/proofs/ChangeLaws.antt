-- What is read after a change.
use Rattle.std.proofs.Common.{◌≡◌, ◌≢◌, ℕ, inl, inr, Bool, true, false, cond, not, List, [], ◌∷◌, refl, sym, ap, ◌∙◌, arith}
use Rattle.std.specs.Prelude.{Option, Some, None, ◌==◌, bytes_eq}
use Rattle.std.specs.List.{filter}
use Rattle.std.specs.Ordering.{nat_cmp, is_eq}
use Rattle.std.specs.Cmp.Lexicographic.{slice_cmp}
use Rattle.std.specs.Map.{lookup}
use Rattle.std.specs.BTreeMap.{insert_entry, is_at}
use Rattle.std.proofs.lemmas.Bool.{cases_Bool, eqb-true, eq-eqb, le-ltb, false_from_ne_true}
use Rattle.std.proofs.lemmas.Map.Lookups.{exact_bytes}
use Rattle.std.proofs.lemmas.Map.Text.{is_eq-slice_cmp}
use Rattle.std.proofs.lemmas.Slice.Eq.{bytes_eq-Decides}
use Rattle.account_pictures.specs.declared.records.SendState.{SendState}
use Rattle.account_pictures.specs.declared.records.Records.{Records}
use Rattle.record_io.specs.Records.{PutIdentity, SetSend, after_change, identities_of, records_of, sends_of, with_records, with_identity, with_state, without_state, without_send}
use Rattle.record_io.specs.Laws.{SendsReadBack, OtherFormsStay, IdentitiesReadBack, OtherNumbersStay, SendsStay, IdentitiesStay, OtherAccountsStay, RecordsReadBack}
use Rattle.record_io.proofs.RecordLemmas.{cases_ordering, same_number}

-- ---- numbers

number_here : (number key : ℕ) → number ≡ key → is_at (nat_cmp number) key ≡ true
number_here number key same = rw (le-ltb number key (omega (same, arith)), eq-eqb number key same) refl

number_apart : (number key : ℕ) → number ≢ key → is_at (nat_cmp number) key ≡ false
number_apart number key apart = false_from_ne_true _ (λ here. apart (same_number number key here))

-- what was put in is found
found_put : {X : Type 0} (number : ℕ) (value : X) (entries : List (ℕ × X)) → lookup (is_at (nat_cmp number)) (insert_entry nat_cmp entries number value) ≡ Some value
found_put number value [] = rw (number_here number number refl) refl
found_put number value (e ∷ entries) = elim (cases_ordering (nat_cmp number e.0)) [
  | inl less ↦ rw (less, number_here number number refl) refl
  | inr (inl equal) ↦ rw (equal, number_here number e.0 (same_number number e.0 (ap is_eq equal))) refl
  | inr (inr greater) ↦ (
      let later : is_at (nat_cmp number) e.0 ≡ false = ap is_eq greater in
      rw (greater, later) (found_put number value entries)
      )
]

-- of another number what was there before
found_apart : {X : Type 0} (number other : ℕ) (value : X) (entries : List (ℕ × X)) → other ≢ number → lookup (is_at (nat_cmp other)) (insert_entry nat_cmp entries number value) ≡ lookup (is_at (nat_cmp other)) entries
found_apart number other value [] apart = rw (number_apart other number apart) refl
found_apart number other value (e ∷ entries) apart = elim (cases_ordering (nat_cmp number e.0)) [
  | inl less ↦ rw (less, number_apart other number apart) refl
  | inr (inl equal) ↦ (
      let same : number ≡ e.0 = same_number number e.0 (ap is_eq equal) in
      rw (equal, number_apart other e.0 (λ here. apart (here ∙ sym same))) refl
      )
  | inr (inr greater) ↦ rw greater (ap (λ (rest : Option _). cond (is_at (nat_cmp other) e.0) (Some e.1) rest) (found_apart number other value entries apart))
]

found_removed : (form : ℕ) (sends : List (ℕ × SendState)) → lookup (is_at (nat_cmp form)) (filter (λ send. not (form == send.0)) sends) ≡ None
found_removed form [] = refl
found_removed form (e ∷ sends) = elim (cases_Bool (form == e.0)) [
  | inl here ↦ rw here (found_removed form sends)
  | inr later ↦ (
      let apart : is_at (nat_cmp form) e.0 ≡ false = number_apart form e.0 (λ same. absurd (both (eq-eqb form e.0 same) later)) in
      rw (later, apart) (found_removed form sends)
      )
]
  where
    both : {b : Bool} → b ≡ true → b ≡ false → ⊥
    both p q = let bad : true ≡ false = sym p ∙ q in absurd cc

found_kept : (form other : ℕ) (sends : List (ℕ × SendState)) → other ≢ form → lookup (is_at (nat_cmp other)) (filter (λ send. not (form == send.0)) sends) ≡ lookup (is_at (nat_cmp other)) sends
found_kept form other [] apart = refl
found_kept form other (e ∷ sends) apart = elim (cases_Bool (form == e.0)) [
  | inl here ↦ (
      let same : form ≡ e.0 = eqb-true form e.0 here in
      rw (here, number_apart other e.0 (λ is. apart (is ∙ sym same))) (found_kept form other sends apart)
      )
  | inr later ↦ rw later (ap (λ (rest : Option SendState). cond (is_at (nat_cmp other) e.0) (Some e.1) rest) (found_kept form other sends apart))
]

-- ---- names

name_here : (account name : List ℕ) → account ≡ name → bytes_eq account name ≡ true
name_here account name same = (bytes_eq-Decides account name).1 same

name_apart : (account name : List ℕ) → account ≢ name → bytes_eq account name ≡ false
name_apart account name apart = false_from_ne_true _ (λ here. apart ((bytes_eq-Decides account name).0 here))

records_name : (account : List ℕ) (records : List Records) → (records_of account records).account ≡ account
unfolding records_of
records_name account [] = refl
records_name account (one ∷ others) = elim (cases_Bool (bytes_eq account one.account)) [
  | inl here ↦ rw here (sym ((bytes_eq-Decides account one.account).0 here))
  | inr later ↦ rw later (records_name account others)
]

-- the records that were put in their place
records_put : (account : List ℕ) (new : Records) (records : List Records) → new.account ≡ account → records_of account (with_records new records) ≡ new
unfolding records_of with_records
records_put account new [] same = rw (name_here account new.account (sym same)) refl
records_put account new (one ∷ others) same = elim (cases_ordering (slice_cmp nat_cmp new.account one.account)) [
  | inl less ↦ rw (less, name_here account new.account (sym same)) refl
  | inr (inl equal) ↦ rw (equal, name_here account new.account (sym same)) refl
  | inr (inr greater) ↦ (
      let other : bytes_eq account one.account ≡ false = rw (← same) (sym (is_eq-slice_cmp new.account one.account) ∙ ap is_eq greater) in
      rw (greater, other) (records_put account new others same)
      )
]

records_apart : (other : List ℕ) (new : Records) (records : List Records) → other ≢ new.account → records_of other (with_records new records) ≡ records_of other records
unfolding records_of with_records
records_apart other new [] apart = rw (name_apart other new.account apart) refl
records_apart other new (one ∷ others) apart = elim (cases_ordering (slice_cmp nat_cmp new.account one.account)) [
  | inl less ↦ rw (less, name_apart other new.account apart) refl
  | inr (inl equal) ↦ (
      let same : new.account ≡ one.account = exact_bytes new.account one.account equal in
      rw (equal, name_apart other new.account apart, name_apart other one.account (λ is. apart (is ∙ sym same))) refl
      )
  | inr (inr greater) ↦ rw greater (ap (λ (rest : Records). cond (bytes_eq other one.account) one rest) (records_apart other new others apart))
]

records_unset : (account : List ℕ) (form : ℕ) (records : List Records) → records_of account (without_send account form records) ≡ without_state form (records_of account records)
unfolding records_of without_send
records_unset account form [] = refl
records_unset account form (one ∷ others) = elim (cases_Bool (bytes_eq account one.account)) [
  | inl here ↦ rw (here, here) refl
  | inr later ↦ rw (later, later) (records_unset account form others)
]

records_unset_apart : (account other : List ℕ) (form : ℕ) (records : List Records) → other ≢ account → records_of other (without_send account form records) ≡ records_of other records
unfolding records_of without_send
records_unset_apart account other form [] apart = refl
records_unset_apart account other form (one ∷ others) apart = elim (cases_Bool (bytes_eq account one.account)) [
  | inl here ↦ (
      let same : account ≡ one.account = (bytes_eq-Decides account one.account).0 here in
      rw (here, name_apart other one.account (λ is. apart (is ∙ sym same))) refl
      )
  | inr later ↦ rw later (ap (λ (rest : Records). cond (bytes_eq other one.account) one rest) (records_unset_apart account other form others apart))
]

-- ---- the laws

pub put_records : (account : List ℕ) (number : ℕ) (identity : _) (records : List Records) → records_of account (after_change records (PutIdentity account number identity)) ≡ with_identity number identity (records_of account records)
unfolding after_change
put_records account number identity records = records_put account _ records (records_name account records)

pub set_records : (account : List ℕ) (form : ℕ) (state : SendState) (records : List Records) → records_of account (after_change records (SetSend account form (Some state))) ≡ with_state form state (records_of account records)
unfolding after_change
set_records account form state records = records_put account _ records (records_name account records)

pub unset_records : (account : List ℕ) (form : ℕ) (records : List Records) → records_of account (after_change records (SetSend account form None)) ≡ without_state form (records_of account records)
unfolding after_change
unset_records account form records = records_unset account form records

pub sends_read_back : SendsReadBack
sends_read_back records account form (Some state) = ap (λ (one : Records). lookup (is_at (nat_cmp form)) one.sends) (set_records account form state records) ∙ found_put form state (sends_of account records)
sends_read_back records account form None = ap (λ (one : Records). lookup (is_at (nat_cmp form)) one.sends) (unset_records account form records) ∙ found_removed form (sends_of account records)

pub other_forms_stay : OtherFormsStay
other_forms_stay records account form other (Some state) apart = ap (λ (one : Records). lookup (is_at (nat_cmp other)) one.sends) (set_records account form state records) ∙ found_apart form other state (sends_of account records) apart
other_forms_stay records account form other None apart = ap (λ (one : Records). lookup (is_at (nat_cmp other)) one.sends) (unset_records account form records) ∙ found_kept form other (sends_of account records) apart

pub identities_read_back : IdentitiesReadBack
identities_read_back records account number identity = ap (λ (one : Records). lookup (is_at (nat_cmp number)) one.identities) (put_records account number identity records) ∙ found_put number identity (identities_of account records)

pub other_numbers_stay : OtherNumbersStay
other_numbers_stay records account number other identity apart = ap (λ (one : Records). lookup (is_at (nat_cmp other)) one.identities) (put_records account number identity records) ∙ found_apart number other identity (identities_of account records) apart

pub sends_stay : SendsStay
sends_stay records account number identity = ap (λ (one : Records). one.sends) (put_records account number identity records)

pub identities_stay : IdentitiesStay
identities_stay records account form (Some state) = ap (λ (one : Records). one.identities) (set_records account form state records)
identities_stay records account form None = ap (λ (one : Records). one.identities) (unset_records account form records)

pub other_accounts_stay : OtherAccountsStay
unfolding after_change
other_accounts_stay records (PutIdentity account number identity) other apart = records_apart other _ records (λ same. apart (same ∙ records_name account records))
other_accounts_stay records (SetSend account form (Some state)) other apart = records_apart other _ records (λ same. apart (same ∙ records_name account records))
other_accounts_stay records (SetSend account form None) other apart = records_unset_apart account other form records apart

pub records_read_back : RecordsReadBack
records_read_back = record {
  sends = sends_read_back;
  other_forms = other_forms_stay;
  identities = identities_read_back;
  other_numbers = other_numbers_stay;
  sends_stay = sends_stay;
  identities_stay = identities_stay;
  other_accounts = other_accounts_stay;
}
