use Rattle.std.proofs.Common.{rules, ◌∙◌}
use Rattle.std.proofs.lemmas.Result.{err_from_is_err_and}
use Rattle.account_turns.proofs.TurnLemmas.{and_then, weaker}
use Rattle.account_turns.proofs.listening.listen.Goals as goal

pub loop-room-preserved : goal.loop-room-preserved
loop-room-preserved g c = record {
  turn = λ t h. and_then _ _ _ t _ _ (c.loop-room.invariant.turn t h) (λ u x. c.in_ok-hear_more.ensures.turn t u x);
  number = c.in_ok-hear_more.ensures.same_number ∙ c.loop-room.invariant.number;
  kept = search rules;
}

pub returns-in_err-hear_more-clause-turn : goal.returns-in_err-hear_more-clause-turn
returns-in_err-hear_more-clause-turn g c = λ t h. and_then _ _ _ t _ _ (c.loop-room.invariant.turn t h) (λ u x. weaker _ _ u _ _ (c.in_err-hear_more.ensures.turn t u x) (λ w y. let p = err_from_is_err_and c.from_residual.result c.from_residual.ensures.1 in rw p.1 tt))

pub returns-then-not-branch-clause-turn : goal.returns-then-not-branch-clause-turn
returns-then-not-branch-clause-turn g c = λ t h. and_then _ _ _ t _ _ (c.loop-room.invariant.turn t h) (λ u x. c.in_ok-hear_more.ensures.turn t u x)
