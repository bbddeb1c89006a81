use Rattle.std.proofs.Common.{sym, ap, ◌∙◌}
use Rattle.mail_talk.specs.States.{is_listening}
use Rattle.mail_talk.specs.Units.{TalkState}
use Rattle.mail_talk.proofs.UnitLemmas.{drained_closed}
use Rattle.mail_talk.proofs.listener.Listener.drain.Goals as goal

pub returns : goal.returns
returns c =
    sym (drained_closed c.loop-self.self (ap (λ (s : TalkState). is_listening s.told.phase) (sym c.self.view_is) ∙ ap is_listening (sym c.phase.ensures) ∙ sym c.is_listening.ensures ∙ c.loop-self-test.false))
    ∙ c.loop-self.invariant
