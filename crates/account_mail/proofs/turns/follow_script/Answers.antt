use Rattle.account_turns.specs.Turns.{Errand}
use Rattle.account_turns.proofs.TurnLemmas.{weaker}
use Rattle.account_mail.proofs.EndLemmas.{ended}
use Rattle.account_mail.proofs.turns.follow_script.Goals as goal

pub returns-clause-turn : goal.returns-clause-turn
returns-clause-turn g c =
    let e : Errand = record { who = c.args.who.now; ask = c.args.ask.now; message = c.args.message.now } in
    λ t m. weaker _ _ t _ _ (c.in_ok-ending.ensures.turn t m) (λ u s. ended c.in_ok-ending.ending e _ _ c.follow.new.progress _ u c.is_up_after.ensures s)
