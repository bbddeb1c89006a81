use Rattle.std.proofs.Common.{false, refl}
use Rattle.account_turns.specs.Turns.{down}
use Rattle.account_turns.proofs.TurnLemmas.{stays}
use Rattle.account_turns.proofs.PieceLemmas.{dialled_one, goes_through}
use Rattle.account_turns.proofs.exchange.dial.Goals as goal

pub returns-in-Ok-clause-turn : goal.returns-in-Ok-clause-turn
returns-in-Ok-clause-turn g c = λ t more seen d. goes_through _ _ _ t t.errand c.dialled.new.self more false down _ _ (dialled_one _ _ t more c.args.fresh.now c.args.listener.now c.dialled.new.self seen d c.in-Ok.ensures.dials c.dialled.ensures) c.hear_greeting.ensures.turn

pub returns-in-Err-clause-turn : goal.returns-in-Err-clause-turn
returns-in-Err-clause-turn g c = λ t more seen d. stays _ _ t _ c.in-Err.ensures.unchanged_on_err (record { errand = refl; seen = seen; next = tt })
