-- Folders by their names and by their places.
use Rattle.std.proofs.Common.{◌≡◌, ℕ, zero, suc, ◌<◌, ◌≤◌, List, [], ◌∷◌, length, get_or, set, refl, ap, ◌∙◌, sym, arith, inl, inr, Option, Some, None}
use Rattle.std.specs.Prelude.{Result, Ok, Err}
use Rattle.std.specs.List.{prefix_len, remove}
use Rattle.std.specs.Str.{bytes_eq}
use Rattle.std.proofs.lemmas.Bool.{cases_Bool}
use Rattle.std.proofs.lemmas.List.{set-get_or}
use Rattle.mailbox_rows.specs.declared.row.Fields.{Fields}
use Rattle.mailbox_rows.specs.declared.fault.ViewFault.{ViewFault}
use Rattle.mailbox_rows.specs.declared.fault.ViewFault.TheVariants.{TooMany, Memory}
use Rattle.mailbox_rows.specs.Mailboxes.{MailboxState, new_mailbox}
use Rattle.mailbox_view.specs.Fetched.{AppliesFetch, with_fetch}
use Rattle.mailbox_view.specs.Fetches.{AppliesFetchAt, excess_in}
use Rattle.mailbox_view.specs.Selections.{is_other, found, others, with_nth, with_concerned, nth_box}

-- ---- by name

pub found_at : (name : List ℕ) (folders : List MailboxState) (n : ℕ) (d : MailboxState) → n ≡ prefix_len (is_other name) folders → n < length folders → found name folders ≡ get_or folders n d
found_at name [] n d place h = absurd (omega (h, arith))
found_at name (box ∷ folders) zero d place h = elim (cases_Bool (bytes_eq box.name name)) [
  | inl same ↦ rw same refl
  | inr other ↦ (let bad = rw other at place in absurd (omega (bad, arith)))
]
found_at name (box ∷ folders) (suc n) d place h = elim (cases_Bool (bytes_eq box.name name)) [
  | inl same ↦ (let bad = rw same at place in absurd (omega (bad, arith)))
  | inr other ↦ (let later = rw other at place in rw other (found_at name folders n d (omega (later, arith)) (omega (h, arith))))
]

pub others_at : (name : List ℕ) (folders : List MailboxState) (n : ℕ) → n ≡ prefix_len (is_other name) folders → n < length folders → others name folders ≡ remove folders n
others_at name [] n place h = absurd (omega (h, arith))
others_at name (box ∷ folders) zero place h = elim (cases_Bool (bytes_eq box.name name)) [
  | inl same ↦ rw same refl
  | inr other ↦ (let bad = rw other at place in absurd (omega (bad, arith)))
]
others_at name (box ∷ folders) (suc n) place h = elim (cases_Bool (bytes_eq box.name name)) [
  | inl same ↦ (let bad = rw same at place in absurd (omega (bad, arith)))
  | inr other ↦ (let later = rw other at place in rw other (ap (λ (rest : List MailboxState). box ∷ rest) (others_at name folders n (omega (later, arith)) (omega (h, arith)))))
]

pub found_new : (name : List ℕ) (folders : List MailboxState) → length folders ≤ prefix_len (is_other name) folders → found name folders ≡ new_mailbox name
found_new name [] h = refl
found_new name (box ∷ folders) h = elim (cases_Bool (bytes_eq box.name name)) [
  | inl same ↦ (let bad = rw same at h in absurd (omega (bad, arith)))
  | inr other ↦ (let later = rw other at h in rw other (found_new name folders (omega (later, arith))))
]

pub others_all : (name : List ℕ) (folders : List MailboxState) → length folders ≤ prefix_len (is_other name) folders → others name folders ≡ folders
others_all name [] h = refl
others_all name (box ∷ folders) h = elim (cases_Bool (bytes_eq box.name name)) [
  | inl same ↦ (let bad = rw same at h in absurd (omega (bad, arith)))
  | inr other ↦ (let later = rw other at h in rw other (ap (λ (rest : List MailboxState). box ∷ rest) (others_all name folders (omega (later, arith)))))
]

-- ---- by place

pub set_nth : (n : ℕ) (change : MailboxState → MailboxState) (folders : List MailboxState) (old new : MailboxState) → old ≡ get_or folders n old → new ≡ change old → set folders n new ≡ with_nth n change folders
set_nth n change [] old new is to = refl
set_nth zero change (box ∷ folders) old new is to = ap (λ (first : MailboxState). first ∷ folders) (to ∙ ap change is)
set_nth (suc n) change (box ∷ folders) old new is to = ap (λ (rest : List MailboxState). box ∷ rest) (set_nth n change folders old new is to)

pub set_at : (place : Option ℕ) (n : ℕ) (change : MailboxState → MailboxState) (folders : List MailboxState) (old new : MailboxState) → place ≡ Some n → old ≡ get_or folders n old → new ≡ change old → set folders n new ≡ with_concerned place change folders
set_at place n change folders old new there is to = set_nth n change folders old new is to ∙ ap (λ p. with_concerned p change folders) (sym there)

pub past_nth : (n : ℕ) (change : MailboxState → MailboxState) (folders : List MailboxState) → length folders ≤ n → folders ≡ with_nth n change folders
past_nth n change [] h = refl
past_nth zero change (box ∷ folders) h = absurd (omega (h, arith))
past_nth (suc n) change (box ∷ folders) h = ap (λ (rest : List MailboxState). box ∷ rest) (past_nth n change folders (omega (h, arith)))

pub past_at : (place : Option ℕ) (n : ℕ) (change : MailboxState → MailboxState) (folders : List MailboxState) → place ≡ Some n → length folders ≤ n → folders ≡ with_concerned place change folders
past_at place n change folders there h = past_nth n change folders h ∙ ap (λ p. with_concerned p change folders) (sym there)

pub nth_there : (n : ℕ) (folders : List MailboxState) (d : MailboxState) → n < length folders → nth_box n folders ≡ Some (get_or folders n d)
nth_there n [] d h = absurd (omega (h, arith))
nth_there zero (box ∷ folders) d h = refl
nth_there (suc n) (box ∷ folders) d h = nth_there n folders d (omega (h, arith))

pub nth_past : (n : ℕ) (folders : List MailboxState) → length folders ≤ n → nth_box n folders ≡ None
nth_past n [] h = refl
nth_past zero (box ∷ folders) h = absurd (omega (h, arith))
nth_past (suc n) (box ∷ folders) h = nth_past n folders (omega (h, arith))

-- ---- a FETCH

pub box_there : (n : ℕ) (folders : List MailboxState) (old : MailboxState) → n < length folders → old ≡ get_or folders n old → nth_box n folders ≡ Some old
box_there n folders old h is = nth_there n folders old h ∙ ap (λ (box : MailboxState). Some box) (sym is)

pub fetch_at : (n uid : ℕ) (fields : Fields) (folders : List MailboxState) (old new : MailboxState) (result : Result Unit ViewFault) → n < length folders → old ≡ get_or folders n old → AppliesFetch old uid fields result new → AppliesFetchAt folders (Some n) uid fields result (set folders n new)
fetch_at n uid fields folders old new (Ok u) h is applied =
    (ap (excess_in uid fields) (box_there n folders old h is) ∙ applied.0, set_nth n (with_fetch uid fields) folders old new is applied.1)
fetch_at n uid fields folders old new (Err (TooMany count bytes)) h is applied =
    (ap (excess_in uid fields) (box_there n folders old h is) ∙ applied.0, set_nth n (with_fetch uid fields) folders old new is applied.1)
fetch_at n uid fields folders old new (Err Memory) h is applied =
    ap (λ box. set folders n box) (applied ∙ is) ∙ set-get_or folders n old

pub fetch_past : (n uid : ℕ) (fields : Fields) (folders : List MailboxState) → length folders ≤ n → AppliesFetchAt folders (Some n) uid fields (Ok tt) folders
fetch_past n uid fields folders h = (ap (excess_in uid fields) (nth_past n folders h), past_nth n (with_fetch uid fields) folders h)
