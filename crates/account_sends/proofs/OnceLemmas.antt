-- A form that has a state keeps one, and is not submitted.
use Rattle.std.proofs.Common.{◌≡◌, ℕ, List, [], ◌∷◌, refl, sym, ap, ◌∙◌, subst, inl, inr, true, false}
use Rattle.std.specs.Prelude.{Option, Some, None, Result, Ok, Err, is_some, IsSome, bytes_eq}
use Rattle.std.proofs.lemmas.Bool.{cases_Bool}
use Rattle.std.proofs.lemmas.Slice.Eq.{bytes_eq-Decides}
use Rattle.std.specs.Map.{lookup}
use Rattle.std.specs.BTreeMap.{is_at}
use Rattle.std.specs.Ordering.{nat_cmp}
use Rattle.account_pictures.specs.declared.records.Records.{Records}
use Rattle.account_pictures.specs.declared.records.SendState.{SendState}
use Rattle.account_pictures.specs.declared.records.SendState.TheVariants as state
use Rattle.record_io.specs.declared.keeper.KeepFault.{KeepFault}
use Rattle.record_io.specs.Keepers.{IfTold}
use Rattle.record_io.specs.Records.{SetSend, after_change, state_of}
use Rattle.record_io.proofs.ChangeLaws.{other_accounts_stay, other_forms_stay, sends_read_back}
use Rattle.submission.specs.declared.fault.SubmitFault.TheVariants as posts
use Rattle.account_sends.specs.declared.letters.Letter.{Letter}
use Rattle.account_sends.specs.Outboxes.{OutboxState}
use Rattle.account_sends.specs.Sends.{Outcome, begun, noted, records_after, state_after, unbegun}
use Rattle.account_sends.specs.Once.{Event, FormsAreSentOnce, HasState, IsLeft, IsRun, IsSubmission, KeepsStates, may_be_taken, quiet, submits}

-- ---- one note

-- the state of another form, or of another account's
set_apart : (records : List Records) (account user : List ℕ) (form other : ℕ) (new : Option SendState) → (account ≡ user → form ≡ other → ⊥)
    → state_of user other (after_change records (SetSend account form new)) ≡ state_of user other records
set_apart records account user form other new apart = elim (cases_Bool (bytes_eq account user)) [
  | inl same ↦ (
      let is : account ≡ user = (bytes_eq-Decides account user).0 same in
      subst (λ (u : List ℕ). state_of u other (after_change records (SetSend account form new)) ≡ state_of u other records) is
      (other_forms_stay records account form other new (λ here. apart is (sym here)))
      )
  | inr differ ↦ ap (λ (one : Records). lookup (is_at (nat_cmp other)) one.sends)
      (other_accounts_stay records (SetSend account form new) user (λ is. absurd (let e : bytes_eq account user ≡ true = (bytes_eq-Decides account user).1 (sym is) in let bad : true ≡ false = sym e ∙ differ in cc)))
]

note_apart : (records : Option (List Records)) (account user : List ℕ) (form other : ℕ) (new : Option SendState) (how : Result (Unit {0}) KeepFault) → (account ≡ user → form ≡ other → ⊥)
    → HasState user other records → HasState user other (noted form new (Some account) how records)
note_apart None account user form other new how apart has = absurd has
note_apart (Some records) account user form other new (Err one) apart has = has
note_apart (Some records) account user form other new (Ok done) apart has = ap is_some (set_apart records account user form other new apart) ∙ has

note_some : (records : List Records) (account : List ℕ) (form : ℕ) (new : SendState) → HasState account form (noted form (Some new) (Some account) (Ok tt) (Some records))
note_some records account form new = ap is_some (sends_read_back records account form (Some new))

-- a later note that fails leaves the state before it
note_taken : (records : List Records) (account : List ℕ) (form : ℕ) (first last : SendState) (how : Result (Unit {0}) KeepFault)
    → HasState account form (noted form (Some last) (Some account) how (noted form (Some first) (Some account) (Ok tt) (Some records)))
note_taken records account form first last (Ok done) = note_some (after_change records (SetSend account form (Some first))) account form last
note_taken records account form first last (Err one) = note_some records account form first

-- ---- one submission

-- other forms keep their states
after_apart : (outcome : Outcome) (records : Option (List Records)) (account user : List ℕ) (form other : ℕ) → (account ≡ user → form ≡ other → ⊥)
    → HasState user other records → HasState user other (records_after form (Some account) outcome records)
after_apart (unbegun one) records account user form other apart has = has
after_apart (begun posted last) records account user form other apart has =
    note_apart (noted form (Some state.Started) (Some account) (Ok tt) records) account user form other (state_after posted) last apart
    (note_apart records account user form other (Some state.Started) (Ok tt) apart has)

-- a form whose message may have been taken has a state
after_taken : (outcome : Outcome) (records : List Records) (account : List ℕ) (form : ℕ) → may_be_taken outcome ≡ true → HasState account form (records_after form (Some account) outcome (Some records))
after_taken (unbegun one) records account form taken = absurd (cc)
after_taken (begun (Ok done) last) records account form taken = note_taken records account form state.Started state.Done last
after_taken (begun (Err posts.Doubt) last) records account form taken = note_taken records account form state.Started state.Doubt last
after_taken (begun (Err (posts.Refused code text)) last) records account form taken = absurd (cc)
after_taken (begun (Err (posts.Damaged at)) last) records account form taken = absurd (cc)
after_taken (begun (Err posts.Link) last) records account form taken = absurd (cc)
after_taken (begun (Err posts.Memory) last) records account form taken = absurd (cc)

-- ---- one event

-- a form without a state has none
no_state : (records : Option (List Records)) (adopted : Option (List ℕ)) (account : List ℕ) (form : ℕ) → adopted ≡ Some account → HasState account form records
    → IfTold records adopted (λ told one. state_of one form told ≡ None) → ⊥
no_state None adopted account form is has unsent = has
no_state (Some records) adopted account form is has unsent =
    let none : state_of account form records ≡ None = subst (λ (a : Option (List ℕ)). IfTold (Some records) a (λ told one. state_of one form told ≡ None)) is unsent in
    let bad : false ≡ true = sym (ap is_some none) ∙ has in cc

quiet_keeps : (old new : Option (List Records)) (user : List ℕ) (form : ℕ) → KeepsStates old new → HasState user form old → HasState user form new
quiet_keeps None new user form keeps has = absurd has
quiet_keeps (Some old) None user form keeps has = absurd keeps
quiet_keeps (Some old) (Some new) user form keeps has = ap is_some (keeps user form) ∙ has

-- what a form without a submission here keeps
submission_keeps : (user password : List ℕ) (letter : Letter) (outcome : Outcome) (old new : OutboxState) (other : List ℕ) (form : ℕ) → IsSubmission user password letter outcome old new
    → (user ≡ other → letter.envelope.form ≡ form → ⊥) → HasState other form old.records → HasState other form new.records
submission_keeps user password letter outcome old new other form is apart has =
    subst (λ (records : Option (List Records)). HasState other form records) (sym is.submission.records)
    (subst (λ (adopted : Option (List ℕ)). HasState other form (records_after letter.envelope.form adopted outcome old.records)) (sym is.adopted)
    (after_apart outcome old.records user other letter.envelope.form form apart has))

-- it isn't submitted if it has a state
submission_apart : (user password : List ℕ) (letter : Letter) (outcome : Outcome) (old new : OutboxState) (other : List ℕ) (form : ℕ) → IsSubmission user password letter outcome old new
    → HasState other form old.records → user ≡ other → letter.envelope.form ≡ form → ⊥
submission_apart user password letter outcome old new other form is has same here =
    no_state old.records old.adopted user letter.envelope.form is.adopted
    (subst (λ (u : List ℕ). HasState u letter.envelope.form old.records) (sym same) (subst (λ (f : ℕ). HasState other f old.records) (sym here) has)) is.unsent

-- ---- any events

pub record Stays (user : List ℕ) (form : ℕ) (events : List Event) (new : OutboxState) : Type 0 where
  pub left : IsLeft user form events
  pub has : HasState user form new.records

stays : (events : List Event) (old new : OutboxState) (user : List ℕ) (form : ℕ) → HasState user form old.records → IsRun old events new → Stays user form events new
stays [] old new user form has run = record { left = tt; has = subst (λ (s : OutboxState). HasState user form s.records) (sym run) has }
stays (quiet ∷ events) old new user form has (middle, one, rest) = let more = stays events middle new user form (quiet_keeps old.records middle.records user form one.states has) rest in record { left = more.left; has = more.has }
stays (submits other password letter outcome ∷ events) old new user form has (middle, one, rest) =
    let apart : (other ≡ user → letter.envelope.form ≡ form → ⊥) = submission_apart other password letter outcome old middle user form one has in
    let more = stays events middle new user form (submission_keeps other password letter outcome old middle user form one apart has) rest in
    record { left = (apart, more.left); has = more.has }

told_quiet : (old new : Option (List Records)) → KeepsStates old new → IsSome old → IsSome new
told_quiet None new keeps told = absurd (let e : false ≡ true = told in cc)
told_quiet (Some old) None keeps told = absurd keeps
told_quiet (Some old) (Some new) keeps told = refl

told_noted : (records : Option (List Records)) (form : ℕ) (new : Option SendState) (adopted : Option (List ℕ)) (how : Result (Unit {0}) KeepFault) → IsSome records → IsSome (noted form new adopted how records)
told_noted None form new adopted how told = absurd (let e : false ≡ true = told in cc)
told_noted (Some records) form new adopted (Ok done) told = refl
told_noted (Some records) form new adopted (Err one) told = refl

told_after_all : (outcome : Outcome) (records : Option (List Records)) (form : ℕ) (adopted : Option (List ℕ)) → IsSome records → IsSome (records_after form adopted outcome records)
told_after_all (unbegun one) records form adopted told = told
told_after_all (begun posted last) records form adopted told =
    told_noted (noted form (Some state.Started) adopted (Ok tt) records) form (state_after posted) adopted last (told_noted records form (Some state.Started) adopted (Ok tt) told)

-- after a submission whose message may have been taken
taken_state : (user password : List ℕ) (letter : Letter) (outcome : Outcome) (old new : OutboxState) → IsSome old.records → IsSubmission user password letter outcome old new → may_be_taken outcome ≡ true
    → HasState user letter.envelope.form new.records
taken_state user password letter outcome old new told is taken =
    subst (λ (records : Option (List Records)). HasState user letter.envelope.form records) (sym is.submission.records)
    (subst (λ (adopted : Option (List ℕ)). HasState user letter.envelope.form (records_after letter.envelope.form adopted outcome old.records)) (sym is.adopted) (by old.records told))
  where
    by : (records : Option (List Records)) → IsSome records → HasState user letter.envelope.form (records_after letter.envelope.form (Some user) outcome records)
    by None none = absurd (let e : false ≡ true = none in cc)
    by (Some records) some = after_taken outcome records user letter.envelope.form taken

pub sent_once : FormsAreSentOnce
sent_once [] old new told run = tt
sent_once (quiet ∷ events) old new told (middle, one, rest) = sent_once events middle new (told_quiet old.records middle.records one.states told) rest
sent_once (submits user password letter outcome ∷ events) old new told (middle, one, rest) = (
  λ taken. let more = stays events middle new user letter.envelope.form (taken_state user password letter outcome old middle told one taken) rest in (more.left, more.has),
  sent_once events middle new (subst (λ (records : Option (List Records)). IsSome records) (sym one.submission.records) (told_after_all outcome old.records letter.envelope.form old.adopted told)) rest,
)
