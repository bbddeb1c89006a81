-- The records of accounts as the entries of a map whose keys are names.
use Rattle.std.proofs.Common.{◌≡◌, ℕ, ◌⊎◌, inl, inr, Bool, true, false, not, List, [], ◌∷◌, refl, sym, ap, ◌∙◌, arith}
use Rattle.std.specs.Prelude.{Some, None, nat_lt, ◌==◌, map, bytes_eq, unwrap_or}
use Rattle.std.specs.Global.{Vec}
use Rattle.std.specs.List.{AllByRecursion, filter}
use Rattle.std.specs.List.Sorted.{IsStrictlySortedBy}
use Rattle.std.specs.declared.cmp.Ordering.{Ordering}
use Rattle.std.specs.declared.cmp.Ordering.TheVariants.{Less, Equal, Greater}
use Rattle.std.specs.Ordering.{nat_cmp, is_eq}
use Rattle.std.specs.Cmp.Lexicographic.{slice_cmp, nat_list_cmp_total}
use Rattle.std.specs.Map.{keys_of, lookup, set_value, remove_entry}
use Rattle.std.specs.BTreeMap.{insert_entry, is_at}
use Rattle.std.proofs.lemmas.Bool.{cases_Bool, eqb-true, eq-eqb, le-ltb}
use Rattle.std.proofs.lemmas.Map.Keys.{sorted_head, sorted_tail}
use Rattle.std.proofs.lemmas.Map.Lookups.{exact_bytes}
use Rattle.std.proofs.lemmas.Map.Text.{is_eq-slice_cmp}
use Rattle.account_pictures.specs.declared.records.Identity.{Identity}
use Rattle.account_pictures.specs.declared.records.SendState.{SendState}
use Rattle.account_pictures.specs.declared.records.Records.{Records}
use Rattle.record_io.specs.Maps.{AccountEntries, entry_records}
use Rattle.record_io.specs.Records.{PutIdentity, SetSend, after_change, no_records, records_of, with_records, with_identity, with_state, without_state, without_send}

-- the order of the keys, and where a name is
abbrev pub key_cmp : Vec ℕ → Vec ℕ → Ordering
key_cmp x y = slice_cmp nat_cmp x.items y.items

abbrev pub name_at : List ℕ → Vec ℕ → Bool
name_at account = is_at (λ k. slice_cmp nat_cmp account k.items)

abbrev pub named : List ℕ → AccountEntries → Records
named account kept = record { account = account; identities = kept.identities; sends = kept.sends }

pub cases_ordering : (r : Ordering) → (r ≡ Less) ⊎ ((r ≡ Equal) ⊎ (r ≡ Greater))
cases_ordering Less = inl refl
cases_ordering Equal = inr (inl refl)
cases_ordering Greater = inr (inr refl)

-- ---- reads

pub records_found : (account : List ℕ) (entries : List (Vec ℕ × AccountEntries)) (kept : AccountEntries) → lookup (name_at account) entries ≡ Some kept → records_of account (map entry_records entries) ≡ named account kept
unfolding records_of
records_found account [] kept found = absurd cc
records_found account (e ∷ entries) kept found = elim (cases_Bool (name_at account e.0)) [
  | inl here ↦ (
      let same : bytes_eq account e.0.items ≡ true = sym (is_eq-slice_cmp account e.0.items) ∙ here in
      let is : e.1 ≡ kept = ap (λ o. unwrap_or o e.1) (rw here at found) in
      let name : account ≡ e.0.items = exact_bytes account e.0.items (equal_from _ here) in
      rw same (ap (λ n. named n e.1) (sym name) ∙ ap (λ k. named account k) is)
      )
  | inr later ↦ (
      let other : bytes_eq account e.0.items ≡ false = sym (is_eq-slice_cmp account e.0.items) ∙ later in
      rw other (records_found account entries kept (rw later at found))
      )
]
  where
    equal_from : (r : Ordering) → is_eq r ≡ true → r ≡ Equal
    equal_from Less h = absurd cc
    equal_from Equal h = refl
    equal_from Greater h = absurd cc

pub records_absent : (account : List ℕ) (entries : List (Vec ℕ × AccountEntries)) → lookup (name_at account) entries ≡ None → records_of account (map entry_records entries) ≡ no_records account
unfolding records_of
records_absent account [] absent = refl
records_absent account (e ∷ entries) absent = elim (cases_Bool (name_at account e.0)) [
  | inl here ↦ (let bad = rw here at absent in absurd cc)
  | inr later ↦ (
      let other : bytes_eq account e.0.items ≡ false = sym (is_eq-slice_cmp account e.0.items) ∙ later in
      rw other (records_absent account entries (rw later at absent))
      )
]

-- ---- changes

-- an entry that is put in is records in their place
pub inserted : (entries : List (Vec ℕ × AccountEntries)) (key : Vec ℕ) (kept : AccountEntries) → map entry_records (insert_entry key_cmp entries key kept) ≡ with_records (named key.items kept) (map entry_records entries)
unfolding with_records
inserted [] key kept = refl
inserted (e ∷ entries) key kept = elim (cases_ordering (slice_cmp nat_cmp key.items e.0.items)) [
  | inl less ↦ rw less refl
  | inr (inl equal) ↦ rw equal (ap (λ n. named n kept ∷ map entry_records entries) (sym (exact_bytes key.items e.0.items equal)))
  | inr (inr greater) ↦ rw greater (ap (λ rest. entry_records e ∷ rest) (inserted entries key kept))
]

-- a name before all keys isn't among them
pub none_after : (account : List ℕ) (entries : List (Vec ℕ × AccountEntries)) → AllByRecursion (λ (k : Vec ℕ). slice_cmp nat_cmp account k.items ≡ Less) (keys_of entries) → lookup (name_at account) entries ≡ None
none_after account [] h = refl
none_after account (e ∷ entries) h = rw h.0 (none_after account entries h.1)

pub all_after : (account : List ℕ) (first : Vec ℕ) (keys : List (Vec ℕ)) → slice_cmp nat_cmp account first.items ≡ Less → AllByRecursion (λ y. key_cmp first y ≡ Less) keys → AllByRecursion (λ (k : Vec ℕ). slice_cmp nat_cmp account k.items ≡ Less) keys
all_after account first [] less h = tt
all_after account first (key ∷ keys) less h = (nat_list_cmp_total.trans account first.items key.items less h.0, all_after account first keys less h.1)

-- an entry that is written over is records in their place
pub written : (account : List ℕ) (entries : List (Vec ℕ × AccountEntries)) (old new : AccountEntries) → IsStrictlySortedBy key_cmp (keys_of entries) → lookup (name_at account) entries ≡ Some old
    → map entry_records (set_value (name_at account) entries new) ≡ with_records (named account new) (map entry_records entries)
unfolding with_records
written account [] old new sorted found = absurd cc
written account (e ∷ entries) old new sorted found = elim (cases_ordering (slice_cmp nat_cmp account e.0.items)) [
  | inl less ↦ (
      let none = none_after account entries (all_after account e.0 (keys_of entries) less (sorted_head key_cmp e.0 (keys_of entries) sorted)) in
      let bad : None ≡ Some old = sym none ∙ rw less at found in
      absurd cc
      )
  | inr (inl equal) ↦ rw equal (ap (λ n. named n new ∷ map entry_records entries) (sym (exact_bytes account e.0.items equal)))
  | inr (inr greater) ↦ rw greater (ap (λ rest. entry_records e ∷ rest) (written account entries old new (sorted_tail key_cmp e.0 (keys_of entries) sorted) (rw greater at found)))
]

-- an entry without a state of a form
pub unset : (account : List ℕ) (form : ℕ) (entries : List (Vec ℕ × AccountEntries)) (old : AccountEntries) → lookup (name_at account) entries ≡ Some old
    → map entry_records (set_value (name_at account) entries (record old { sends = filter (λ send. not (form == send.0)) old.sends })) ≡ without_send account form (map entry_records entries)
unfolding without_send
unset account form [] old found = absurd cc
unset account form (e ∷ entries) old found = elim (cases_Bool (name_at account e.0)) [
  | inl here ↦ (
      let same : bytes_eq account e.0.items ≡ true = sym (is_eq-slice_cmp account e.0.items) ∙ here in
      let is : e.1 ≡ old = ap (λ o. unwrap_or o e.1) (rw here at found) in
      rw (here, same) (ap (λ k. without_state form (named e.0.items k) ∷ map entry_records entries) (sym is))
      )
  | inr later ↦ (
      let other : bytes_eq account e.0.items ≡ false = sym (is_eq-slice_cmp account e.0.items) ∙ later in
      rw (later, other) (ap (λ rest. entry_records e ∷ rest) (unset account form entries old (rw later at found)))
      )
]

pub unset_absent : (account : List ℕ) (form : ℕ) (entries : List (Vec ℕ × AccountEntries)) → lookup (name_at account) entries ≡ None → map entry_records entries ≡ without_send account form (map entry_records entries)
unfolding without_send
unset_absent account form [] absent = refl
unset_absent account form (e ∷ entries) absent = elim (cases_Bool (name_at account e.0)) [
  | inl here ↦ (let bad = rw here at absent in absurd cc)
  | inr later ↦ (
      let other : bytes_eq account e.0.items ≡ false = sym (is_eq-slice_cmp account e.0.items) ∙ later in
      rw other (ap (λ rest. entry_records e ∷ rest) (unset_absent account form entries (rw later at absent)))
      )
]

-- ---- the same in the terms of changes

pub put_written : (account : List ℕ) (number : ℕ) (identity : Identity) (entries : List (Vec ℕ × AccountEntries)) (old : AccountEntries) → IsStrictlySortedBy key_cmp (keys_of entries) → Some old ≡ lookup (name_at account) entries
    → map entry_records (set_value (name_at account) entries (record old { identities = insert_entry nat_cmp old.identities number identity })) ≡ after_change (map entry_records entries) (PutIdentity account number identity)
unfolding after_change
put_written account number identity entries old sorted found =
    written account entries old _ sorted (sym found) ∙ ap (λ one. with_records (with_identity number identity one) (map entry_records entries)) (sym (records_found account entries old (sym found)))

pub put_inserted : (account : List ℕ) (number : ℕ) (identity : Identity) (records : List Records) → records_of account records ≡ no_records account
    → with_records (named account (record { identities = insert_entry nat_cmp [] number identity; sends = [] })) records ≡ after_change records (PutIdentity account number identity)
unfolding after_change
put_inserted account number identity records none = ap (λ one. with_records (with_identity number identity one) records) (sym none)

pub set_written : (account : List ℕ) (form : ℕ) (state : SendState) (entries : List (Vec ℕ × AccountEntries)) (old : AccountEntries) → IsStrictlySortedBy key_cmp (keys_of entries) → Some old ≡ lookup (name_at account) entries
    → map entry_records (set_value (name_at account) entries (record old { sends = insert_entry nat_cmp old.sends form state })) ≡ after_change (map entry_records entries) (SetSend account form (Some state))
unfolding after_change
set_written account form state entries old sorted found =
    written account entries old _ sorted (sym found) ∙ ap (λ one. with_records (with_state form state one) (map entry_records entries)) (sym (records_found account entries old (sym found)))

pub set_inserted : (account : List ℕ) (form : ℕ) (state : SendState) (records : List Records) → records_of account records ≡ no_records account
    → with_records (named account (record { identities = []; sends = insert_entry nat_cmp [] form state })) records ≡ after_change records (SetSend account form (Some state))
unfolding after_change
set_inserted account form state records none = ap (λ one. with_records (with_state form state one) records) (sym none)

-- ---- a state that is removed

pub same_number : (number key : ℕ) → is_at (nat_cmp number) key ≡ true → number ≡ key
same_number number key h = elim (cases_Bool (nat_lt number key)) [
  | inl less ↦ (let bad = rw less at h in absurd cc)
  | inr least ↦ elim (cases_Bool (number == key)) [
    | inl equal ↦ eqb-true number key equal
    | inr other ↦ (let bad = rw (least, other) at h in absurd cc)
  ]
]

pub other_number : (number key : ℕ) → is_at (nat_cmp number) key ≡ false → (number == key) ≡ false
other_number number key h = elim (cases_Bool (number == key)) [
  | inl equal ↦ (
      let same : number ≡ key = eqb-true number key equal in
      let least : nat_lt number key ≡ false = le-ltb number key (omega (same, arith)) in
      let bad = rw (least, equal) at h in
      absurd cc
      )
  | inr other ↦ other
]

-- the keys after a number are other numbers
pub none_equal : (form first : ℕ) (sends : List (ℕ × SendState)) → form ≡ first → AllByRecursion (λ y. nat_cmp first y ≡ Less) (keys_of sends) → filter (λ send. not (form == send.0)) sends ≡ sends
none_equal form first [] same h = refl
none_equal form first (e ∷ sends) same h =
    let apart : is_at (nat_cmp form) e.0 ≡ false = ap (λ n. is_at (nat_cmp n) e.0) same ∙ ap is_eq h.0 in
    rw (other_number form e.0 apart) (ap (λ rest. e ∷ rest) (none_equal form first sends same h.1))

pub removed : (form : ℕ) (sends : List (ℕ × SendState)) → IsStrictlySortedBy nat_cmp (keys_of sends) → remove_entry (is_at (nat_cmp form)) sends ≡ filter (λ send. not (form == send.0)) sends
removed form [] sorted = refl
removed form (e ∷ sends) sorted = elim (cases_Bool (is_at (nat_cmp form) e.0)) [
  | inl here ↦ (
      let same = same_number form e.0 here in
      rw (here, eq-eqb form e.0 same) (sym (none_equal form e.0 sends same (sorted_head nat_cmp e.0 (keys_of sends) sorted)))
      )
  | inr later ↦ rw (later, other_number form e.0 later) (ap (λ rest. e ∷ rest) (removed form sends (sorted_tail nat_cmp e.0 (keys_of sends) sorted)))
]
