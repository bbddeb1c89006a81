-- What a script's end makes of a turn.
use Rattle.std.proofs.Common.{◌≡◌, Bool, true, false, [], refl, ◌∙◌}
use Rattle.mail_talk.specs.Units.{TalkState}
use Rattle.account_script.specs.declared.steps.Progress.{Progress}
use Rattle.account_turns.specs.declared.endings.Ending.{Ending}
use Rattle.account_turns.specs.declared.endings.Ending.TheVariants.{Done, Stopped, Failed}
use Rattle.account_turns.specs.Exchanges.{Spoken}
use Rattle.account_turns.specs.Steps.{IsUpAfter}
use Rattle.account_turns.specs.Turns.{Errand, Turn, ready}
use Rattle.account_turns.specs.Turns.Due.{Ends}
use Rattle.account_mail.specs.Turned.{Ended, EndsAs}
use Rattle.account_mail.specs.Ups.{up_after}

no_steps : (e : Errand) (fresh : Bool) (p : Progress) (ear : TalkState) → ready e fresh p [] ear.told ≡ Ends p.up
unfolding ready
no_steps e fresh p ear = refl

ends_as : (ending : Ending) (e : Errand) (fresh : Bool) (p : Progress) (ear : TalkState) (u : Turn) → Spoken e ending [] fresh p ear u → EndsAs ending (up_after ending p.up) u
ends_as Done e fresh p ear u s = s.next ∙ no_steps e fresh p ear
ends_as (Stopped cause) e fresh p ear u s = s.next
ends_as Failed e fresh p ear u s = refl

pub ended : (ending : Ending) (e : Errand) (up fresh : Bool) (p : Progress) (ear : TalkState) (u : Turn) → up ≡ up_after ending p.up → Spoken e ending [] fresh p ear u → Ended ending up fresh ear u
ended ending e up fresh p ear u is s = rw is (record { ends = ends_as ending e fresh p ear u s; fresh_next = s.seen.same; told = s.seen.state })

pub steady_after : (ending : Ending) (up unsteady : Bool) → IsUpAfter ending up unsteady → up_after ending up ≡ true → unsteady ≡ false
steady_after Done up unsteady h w = h w
steady_after (Stopped cause) up unsteady h w = h w
steady_after Failed up unsteady h w = cc
