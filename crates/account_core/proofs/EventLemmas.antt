-- The sending of a form is one event of its account's outbox.
use Rattle.std.proofs.Common.{◌≡◌, ℕ, List, refl, sym, ap, ◌∙◌, subst}
use Rattle.std.specs.Prelude.{ℤ, IfSome, Option, Some, None, Result, Ok, Err}
use Rattle.account_pictures.specs.declared.records.Identity.{Identity}
use Rattle.account_pictures.specs.declared.records.Records.{Records}
use Rattle.account_pictures.specs.declared.records.SendState.{SendState}
use Rattle.account_pictures.specs.declared.records.SendState.TheVariants as state
use Rattle.site_asks.specs.declared.Draft.{Draft}
use Rattle.site_asks.specs.declared.asks.Ask.{Ask}
use Rattle.site_asks.specs.declared.asks.Ask.TheVariants as ask
use Rattle.record_io.specs.Keepers.{IfTold}
use Rattle.record_io.specs.Records.{state_of}
use Rattle.account_script.specs.declared.steps.Credentials.{Credentials}
use Rattle.account_turns.specs.declared.endings.Ending.{Ending}
use Rattle.account_turns.specs.declared.endings.Ending.TheVariants.{Done, Stopped, Failed}
use Rattle.account_mail.specs.Sides.{SideState}
use Rattle.account_sends.specs.declared.faults.SendFault.{SendFault}
use Rattle.account_sends.specs.declared.letters.Letter.{Letter}
use Rattle.account_sends.specs.Outboxes.{OutboxState}
use Rattle.account_sends.specs.Sends.{Prepares, Submission}
use Rattle.account_sends.specs.Once.{IsQuiet, KeepsStates, quiet, submits}
use Rattle.account_answers.specs.declared.answer.Answer.{Answer}
use Rattle.account_core.specs.Accounts.{IsOwned}
use Rattle.account_core.specs.Events.{DoesEvent}
use Rattle.account_core.specs.Sends.{AfterLookup, AfterTrial, LooksUp, SendTurn, SubmitTurn}

-- ---- nothing is submitted

keeps_states : (records : Option (List Records)) → KeepsStates records records
keeps_states None = tt
keeps_states (Some records) = λ account form. refl

-- only what the keeper has adopted and its count of faults changed
pub quiet_by : (before after : OutboxState) → after ≡ record before { adopted = after.adopted; keeper_faults = after.keeper_faults } → IsQuiet before after
quiet_by before after is = record {
  silent = ap (λ (o : OutboxState). o.talk) is;
  states = subst (λ (r : Option (List Records)). KeepsStates before.records r) (sym (ap (λ (o : OutboxState). o.records) is)) (keeps_states before.records);
}

quiet_does : (who : Credentials) (one : Ask) (before middle after : OutboxState) → middle ≡ record before { keeper_faults = middle.keeper_faults } → after ≡ middle → DoesEvent who one before after
quiet_does who one before middle after keeps same = record {
  event = quiet;
  of = tt;
  does = subst (λ (o : OutboxState). IsQuiet before o) (sym same) (record {
    silent = ap (λ (o : OutboxState). o.talk) keeps;
    states = subst (λ (r : Option (List Records)). KeepsStates before.records r) (sym (ap (λ (o : OutboxState). o.records) keeps)) (keeps_states before.records);
  });
}

-- ---- a letter is submitted

if_told : (records : Option (List Records)) (adopted : Option (List ℕ)) (P Q : List Records → List ℕ → Type 0) → IfTold records adopted P → ((told : List Records) (account : List ℕ) → P told account → Q told account) → IfTold records adopted Q
if_told None adopted P Q p k = tt
if_told (Some records) None P Q p k = tt
if_told (Some records) (Some account) P Q p k = k records account p

-- a letter is written only of a form without a state
unsent : (found : Option SendState) (draft : Draft) (identity : Identity) (moment : ℤ) (letter : Letter) → Prepares found draft identity moment (Ok (Some letter)) → found ≡ None
unsent None draft identity moment letter prepares = refl
unsent (Some state.Done) draft identity moment letter prepares = absurd (cc)
unsent (Some state.Started) draft identity moment letter prepares = absurd (cc)
unsent (Some state.Doubt) draft identity moment letter prepares = absurd (cc)

submits_letter : {E : Type 0} (who : Credentials) (domain : List ℕ) (own : List ℕ) (draft : Draft) (moment : ℤ) (letter : Letter) (old new : SideState) (before middle after : OutboxState) (result : Result Answer E)
    → before.adopted ≡ Some who.user → LooksUp who domain draft moment before middle (Ok (Some letter)) → SubmitTurn who (ask.SendDraft own draft) letter old new middle after result → DoesEvent who (ask.SendDraft own draft) before after
submits_letter who domain own draft moment letter old new before middle after result owned looks turn =
    let same : middle ≡ before = looks.keeps ∙ ap (λ (n : ℕ). record before { keeper_faults = n }) looks.cause in
    let form : letter.envelope.form ≡ draft.form = looks.letter.1.form in
    record {
      event = submits who.user who.password letter turn.sends.outcome;
      of = (refl, refl, form, (moment, looks.letter));
      does = record {
        adopted = owned;
        unsent = if_told before.records before.adopted _ (λ told account. state_of account letter.envelope.form told ≡ None) looks.told
            (λ told account prepares. ap (λ (f : ℕ). state_of account f told) form ∙ unsent (state_of account draft.form told) draft _ moment letter prepares);
        submission = subst (λ (o : OutboxState). Submission who.user who.password letter turn.sends.outcome o after) same turn.sends.submission;
      };
    }

by_trial : {E F : Type 0} (ending : Result Ending F) (who : Credentials) (domain : List ℕ) (own : List ℕ) (draft : Draft) (moment : ℤ) (letter : Letter) (old new : SideState) (before middle after : OutboxState) (result : Result Answer E)
    → before.adopted ≡ Some who.user → LooksUp who domain draft moment before middle (Ok (Some letter)) → AfterTrial ending who (ask.SendDraft own draft) letter old new middle after result → DoesEvent who (ask.SendDraft own draft) before after
by_trial (Ok Done) who domain own draft moment letter old new before middle after result owned looks next = submits_letter who domain own draft moment letter old new before middle after result owned looks next
by_trial (Ok (Stopped cause)) who domain own draft moment letter old new before middle after result owned looks next = quiet_does who (ask.SendDraft own draft) before middle after looks.keeps next.outbox
by_trial (Ok Failed) who domain own draft moment letter old new before middle after result owned looks next = quiet_does who (ask.SendDraft own draft) before middle after looks.keeps next.outbox
by_trial (Err e) who domain own draft moment letter old new before middle after result owned looks next = quiet_does who (ask.SendDraft own draft) before middle after looks.keeps next.outbox

by_found : {E : Type 0} (found : Result (Option Letter) SendFault) (who : Credentials) (domain : List ℕ) (own : List ℕ) (draft : Draft) (moment : ℤ) (old new : SideState) (before middle after : OutboxState) (result : Result Answer E)
    → before.adopted ≡ Some who.user → LooksUp who domain draft moment before middle found → AfterLookup found who (ask.SendDraft own draft) draft old new middle after result → DoesEvent who (ask.SendDraft own draft) before after
by_found (Ok None) who domain own draft moment old new before middle after result owned looks next = quiet_does who (ask.SendDraft own draft) before middle after looks.keeps next.outbox
by_found (Ok (Some letter)) who domain own draft moment old new before middle after result owned looks next = by_trial next.ending who domain own draft moment letter next.side new before middle after result owned looks next.next
by_found (Err fault) who domain own draft moment old new before middle after result owned looks next = quiet_does who (ask.SendDraft own draft) before middle after looks.keeps next.outbox

send_event : {E : Type 0} (who : Credentials) (domain : List ℕ) (own : List ℕ) (draft : Draft) (moment : ℤ) (old new : SideState) (before after : OutboxState) (result : Result Answer E)
    → before.adopted ≡ Some who.user → SendTurn who domain (ask.SendDraft own draft) draft moment old new before after result → DoesEvent who (ask.SendDraft own draft) before after
send_event who domain own draft moment old new before after result owned turn = by_found turn.found who domain own draft moment old new before turn.outbox after result owned turn.looks turn.next

-- an ask of the mail server alone
pub mail_event : (who : Credentials) (one : Ask) (before after : OutboxState) → after ≡ before → DoesEvent who one before after
mail_event who one before after same = quiet_does who one before before after refl same

pub served_event : {E : Type 0} (kept : Option Credentials) (domain : List ℕ) (one : Ask) (own : List ℕ) (draft : Draft) (moment : ℤ) (old new : SideState) (before after : OutboxState) (result : Result Answer E)
    → one ≡ ask.SendDraft own draft → IsOwned kept before.adopted → IfSome kept (λ who. SendTurn who domain one draft moment old new before after result) → IfSome kept (λ who. DoesEvent who one before after)
served_event None domain one own draft moment old new before after result is owned turn = tt
served_event (Some who) domain one own draft moment old new before after result is owned turn =
    subst (λ (a : Ask). DoesEvent who a before after) (sym is)
    (send_event who domain own draft moment old new before after result owned (subst (λ (a : Ask). SendTurn who domain a draft moment old new before after result) is turn))
