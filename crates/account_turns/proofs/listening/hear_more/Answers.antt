use Rattle.std.proofs.Common.{◌≤◌, ◌+◌, length, take, arith, ap, ◌∙◌}
use Rattle.std.proofs.lemmas.List.{length-take-le}
use Rattle.std.proofs.lemmas.Result.{err_from_is_err_and}
use Rattle.mail_talk.specs.Units.{TalkState, heard_count, heard_limit}
use Rattle.mail_talk.proofs.NumberLemmas.{heard_number}
use Rattle.account_turns.proofs.TurnLemmas.{weaker}
use Rattle.account_turns.proofs.PieceLemmas.{heard_one, heard_lost}
use Rattle.account_turns.proofs.listening.hear_more.Goals as goal

pub returns-in_err-hear-in-Ok-clause-turn : goal.returns-in_err-hear-in-Ok-clause-turn
returns-in_err-hear-in-Ok-clause-turn g c =
    let size = length-take-le c.in-Ok.count c.receive.new.room c.in-Ok.ensures.bound in
    let le : heard_count c.args.listener.now + length (take c.in-Ok.count c.receive.new.room) ≤ heard_limit = omega (arith, size, c.in-Ok.ensures.bound, c.requires.within, c.receive.auto.room) in
    λ t u h. weaker _ _ u _ _ (heard_lost _ _ t u c.args.listener.now _ h c.requires.open le c.in-Ok.ensures.hears) (λ w x. let p = err_from_is_err_and c.from_residual.result c.from_residual.ensures.1 in rw p.1 tt)

pub returns-in_ok-hear-in-Ok-clause-turn : goal.returns-in_ok-hear-in-Ok-clause-turn
returns-in_ok-hear-in-Ok-clause-turn g c =
    let size = length-take-le c.in-Ok.count c.receive.new.room c.in-Ok.ensures.bound in
    let le : heard_count c.args.listener.now + length (take c.in-Ok.count c.receive.new.room) ≤ heard_limit = omega (arith, size, c.in-Ok.ensures.bound, c.requires.within, c.receive.auto.room) in
    λ t u h. heard_one _ _ t u c.args.listener.now c.hear.new.self _ h c.requires.open le c.in-Ok.ensures.hears c.in_ok-hear-in-Ok.ensures.tells

pub returns-in_ok-hear-in-Ok-clause-same_number : goal.returns-in_ok-hear-in-Ok-clause-same_number
returns-in_ok-hear-in-Ok-clause-same_number g c = ap (λ (s : TalkState). s.told.view.number) c.in_ok-hear-in-Ok.ensures.tells ∙ heard_number _ c.args.listener.now
