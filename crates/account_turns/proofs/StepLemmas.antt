-- What a step makes due.
use Rattle.std.proofs.Common.{◌≡◌, ℕ, List, [], ◌∷◌, ◌+◌, ◌<◌, ◌≤◌, length, drop, get_or, refl, ap, ◌∙◌, subst, Bool, true, false}
use Rattle.std.specs.Prelude.{not, ◌&&◌}
use Rattle.std.proofs.lemmas.List.{drop_more, drop_all}
use Rattle.mail_talk.specs.declared.phase.Phase.{Phase}
use Rattle.mail_talk.specs.declared.phase.Phase.TheVariants as phase
use Rattle.mail_talk.specs.States.{ToldState, is_idle}
use Rattle.mail_talk.specs.Units.{TalkState}
use Rattle.account_script.specs.declared.cause.Cause.{Cause}
use Rattle.account_script.specs.declared.steps.Act.{Act}
use Rattle.account_script.specs.declared.steps.Act.TheVariants as act
use Rattle.account_script.specs.declared.steps.Progress.{Progress}
use Rattle.account_script.specs.declared.steps.Step.{Step}
use Rattle.account_script.specs.declared.steps.Step.TheVariants as step
use Rattle.account_script.specs.Script.{act_with, progress_of}
use Rattle.account_turns.specs.declared.endings.Ending.{Ending}
use Rattle.account_turns.specs.declared.endings.Ending.TheVariants.{Done, Stopped, Failed}
use Rattle.account_turns.specs.Exchanges.{IsIdleAfter, IsUnheard, Spoken}
use Rattle.account_turns.specs.Causes.{keeps_up}
use Rattle.account_turns.specs.Steps.{IsFirst, IsReadyAfter, IsUpAfter, Matches, MayTake, is_unsteady}
use Rattle.account_turns.specs.Turns.{Errand, Turn, due, due_by, ready}

abbrev pub is_dial : Act → Bool
is_dial act.Dial = true
is_dial _ = false

-- a step that doesn't dial comes when a command may be said
pub steady : (unsteady : Bool) (one : Step) (e : Errand) (t : ToldState) (p : Progress) (a : Act) → MayTake unsteady one → act_with e.message one e.who e.ask t p ≡ a → is_dial a ≡ false → unsteady ≡ false
steady false one e t p a may is not_dial = refl
steady true step.Dial e t p a may is not_dial = absurd (let x : true ≡ false = ap is_dial is ∙ not_dial in cc)
steady true step.LogIn e t p a may is not_dial = absurd may
steady true step.AskCapabilities e t p a may is not_dial = absurd may
steady true step.Enable e t p a may is not_dial = absurd may
steady true step.List e t p a may is not_dial = absurd may
steady true step.Admit e t p a may is not_dial = absurd may
steady true step.Find e t p a may is not_dial = absurd may
steady true step.Need e t p a may is not_dial = absurd may
steady true step.Enter e t p a may is not_dial = absurd may
steady true step.FetchNew e t p a may is not_dial = absurd may
steady true step.FetchChanged e t p a may is not_dial = absurd may
steady true step.Check e t p a may is not_dial = absurd may
steady true step.CheckSize e t p a may is not_dial = absurd may
steady true step.FetchBody e t p a may is not_dial = absurd may
steady true step.NeedBody e t p a may is not_dial = absurd may
steady true step.Noop e t p a may is not_dial = absurd may
steady true step.Copy e t p a may is not_dial = absurd may

pub idle_phase : (q : Phase) → is_idle q ≡ true → q ≡ phase.Idle
idle_phase phase.NotDialled w = cc
idle_phase phase.Greeting w = cc
idle_phase phase.Idle w = refl
idle_phase phase.Request w = cc
idle_phase phase.Piece w = cc
idle_phase phase.Answer w = cc
idle_phase phase.Damaged w = cc

steady_by : (idle : Bool) → not idle ≡ false → idle ≡ true
steady_by true w = refl
steady_by false w = cc

-- when a command may be said, the next dial isn't fresh, and nothing is awaited
pub steady_parts : (fresh : Bool) (ear : TalkState) → is_unsteady fresh ear ≡ false → (fresh ≡ false) × (ear.told.phase ≡ phase.Idle)
steady_parts true ear w = cc
steady_parts false ear w = (refl, idle_phase ear.told.phase (steady_by (is_idle ear.told.phase) w))

pub steady_of : (fresh : Bool) (ear : TalkState) → fresh ≡ false → ear.told.phase ≡ phase.Idle → is_unsteady fresh ear ≡ false
steady_of fresh ear f idle = rw (f, idle) refl

-- what the first step makes due
pub step_due : (one : Step) (more : List Step) (e : Errand) (fresh : Bool) (p : Progress) (ear : TalkState) (t : Turn) (a : Act) → Matches e (one ∷ more) fresh p ear t → act_with e.message one e.who e.ask ear.told p ≡ a
    → due t ≡ due_by a fresh (progress_of one e.ask ear.told p) more ear.told.view.number (ready e fresh (progress_of one e.ask ear.told p) more ear.told)
unfolding ready
step_due one more e fresh p ear t a m is =
    m.next ∙ ap (λ (x : Act). due_by x fresh (progress_of one e.ask ear.told p) more ear.told.view.number (ready e fresh (progress_of one e.ask ear.told p) more ear.told)) is

-- a step that says nothing
pub skipped : (one : Step) (more : List Step) (e : Errand) (fresh : Bool) (p later : Progress) (ear : TalkState) (t : Turn) → Matches e (one ∷ more) fresh p ear t → act_with e.message one e.who e.ask ear.told p ≡ act.Skip → later ≡ progress_of one e.ask ear.told p → Spoken e Done more fresh later ear t
skipped one more e fresh p later ear t m is same = rw same (record { errand = m.errand; seen = m.seen; next = step_due one more e fresh p ear t act.Skip m is })

pub stopped : (one : Step) (more : List Step) (e : Errand) (fresh : Bool) (p later : Progress) (ear : TalkState) (t : Turn) (cause : Cause) → Matches e (one ∷ more) fresh p ear t → act_with e.message one e.who e.ask ear.told p ≡ act.Stop cause → later ≡ progress_of one e.ask ear.told p → Spoken e (Stopped cause) more fresh later ear t
stopped one more e fresh p later ear t cause m is same = rw same (record { errand = m.errand; seen = m.seen; next = step_due one more e fresh p ear t (act.Stop cause) m is })

-- ---- from one step to the next

-- the first of the steps that are left
pub at_step : (steps : List Step) (i : ℕ) (d : Step) (e : Errand) (fresh : Bool) (p : Progress) (ear : TalkState) (u : Turn) → i < length steps → Matches e (drop i steps) fresh p ear u → Matches e (get_or steps i d ∷ drop (i + 1) steps) fresh p ear u
at_step steps i d e fresh p ear u lt m = subst (λ (xs : List Step). Matches e xs fresh p ear u) (drop_more steps i d lt) m

pub first_at : (steps : List Step) (i : ℕ) (d : Step) (unsteady : Bool) → i < length steps → IsFirst unsteady (drop i steps) → MayTake unsteady (get_or steps i d)
first_at steps i d unsteady lt m = subst (λ (xs : List Step). IsFirst unsteady xs) (drop_more steps i d lt) m

pub first_steady : (unsteady : Bool) (steps : List Step) → unsteady ≡ false → IsFirst unsteady steps
first_steady true steps w = cc
first_steady false [] w = tt
first_steady false (one ∷ steps) w = tt

-- an ending with nothing awaited lets a command be said
pub ready_by : (ending : Ending) (fresh : Bool) (ear : TalkState) → fresh ≡ false → IsIdleAfter ending ear → IsReadyAfter ending (is_unsteady fresh ear)
ready_by Done fresh ear f idle = steady_of fresh ear f idle
ready_by (Stopped cause) fresh ear f idle = λ keeps. steady_of fresh ear f (idle keeps)
ready_by Failed fresh ear f idle = tt

kept_by : (up keeps : Bool) → (up && keeps) ≡ true → keeps ≡ true
kept_by true keeps w = w
kept_by false keeps w = cc

pub up_by : (ending : Ending) (up unsteady : Bool) → IsReadyAfter ending unsteady → IsUpAfter ending up unsteady
up_by Done up unsteady r = λ _. r
up_by (Stopped cause) up unsteady r = λ w. r (kept_by up (keeps_up cause) w)
up_by Failed up unsteady r = tt

done_on : (more : List Step) (e : Errand) (fresh : Bool) (p : Progress) (ear : TalkState) (u : Turn) → Spoken e Done more fresh p ear u → Matches e more fresh p ear u
done_on more e fresh p ear u h = record { errand = h.errand; seen = h.seen; next = h.next }

-- what goes on after a step, by how it ended
pub goes_on : (ending : Ending) (more : List Step) (e : Errand) (fresh : Bool) (p : Progress) (ear : TalkState) (u : Turn) → ending ≡ Done → Spoken e ending more fresh p ear u → Matches e more fresh p ear u
goes_on ending more e fresh p ear u is h = done_on more e fresh p ear u (subst (λ (x : Ending). Spoken e x more fresh p ear u) is h)

stop_on : (cause : Cause) (more : List Step) (e : Errand) (fresh : Bool) (p : Progress) (ear : TalkState) (u : Turn) → Spoken e (Stopped cause) more fresh p ear u → Spoken e (Stopped cause) [] fresh p ear u
stop_on cause more e fresh p ear u h = record { errand = h.errand; seen = h.seen; next = h.next }

pub stops_on : (ending : Ending) (cause : Cause) (more : List Step) (e : Errand) (fresh : Bool) (p : Progress) (ear : TalkState) (u : Turn) → ending ≡ Stopped cause → Spoken e ending more fresh p ear u → Spoken e (Stopped cause) [] fresh p ear u
stops_on ending cause more e fresh p ear u is h = stop_on cause more e fresh p ear u (subst (λ (x : Ending). Spoken e x more fresh p ear u) is h)

pub fails_on : (ending : Ending) (more : List Step) (e : Errand) (fresh : Bool) (p : Progress) (ear : TalkState) (u : Turn) → Spoken e ending more fresh p ear u → Spoken e Failed [] fresh p ear u
fails_on ending more e fresh p ear u h = record { errand = h.errand; seen = h.seen; next = tt }

done_as : (e : Errand) (fresh : Bool) (p : Progress) (ear : TalkState) (u : Turn) → Matches e [] fresh p ear u → Spoken e Done [] fresh p ear u
done_as e fresh p ear u m = record { errand = m.errand; seen = m.seen; next = m.next }

-- if no step is left, all is done
pub all_done : (steps : List Step) (i : ℕ) (e : Errand) (fresh : Bool) (p : Progress) (ear : TalkState) (u : Turn) → length steps ≤ i → Matches e (drop i steps) fresh p ear u → Spoken e Done [] fresh p ear u
all_done steps i e fresh p ear u le m = done_as e fresh p ear u (subst (λ (xs : List Step). Matches e xs fresh p ear u) (drop_all i steps le) m)

-- when a command may be said, the next dial isn't fresh
pub still_fresh : (fresh : Bool) (ear : TalkState) → is_unsteady fresh ear ≡ false → fresh ≡ true → ⊥
still_fresh true ear w f = cc
still_fresh false ear w f = cc

pub unheard_on : (first fresh : Bool) (before ear now : TalkState) → (fresh ≡ true → IsUnheard first before ear) → IsUnheard fresh ear now → IsUnheard first before now
unheard_on first fresh before ear now earlier (f, is) = ((earlier f).0, is ∙ (earlier f).1)
