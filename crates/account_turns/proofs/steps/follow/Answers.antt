use Rattle.std.proofs.Common.{◌<◌, ◌+◌, ◌∙◌, length, drop, arith, subst}
use Rattle.std.proofs.lemmas.Result.{err_from_is_err_and}
use Rattle.account_turns.specs.declared.endings.Ending.{Ending}
use Rattle.account_turns.specs.Exchanges.{IsCausedBy}
use Rattle.account_turns.specs.Steps.{IsReadyAfter, is_unsteady}
use Rattle.account_turns.specs.Turns.{Errand}
use Rattle.account_turns.proofs.TurnLemmas.{and_then, weaker}
use Rattle.account_turns.proofs.StepLemmas.{at_step, fails_on, first_steady, goes_on, still_fresh, stops_on, unheard_on}
use Rattle.account_turns.proofs.steps.follow.Goals as goal

pub loop-step-preserved : goal.loop-step-preserved
loop-step-preserved g c =
    let e : Errand = record { who = c.args.who.now; ask = c.args.ask.now; message = c.args.message.now } in
    let lt : c.loop-step.step-index < length c.args.steps.now = omega arith in
    let ready = subst (λ (x : Ending). IsReadyAfter x (is_unsteady c.take.new.fresh c.take.new.listener)) c.in-Done.is c.in_ok-take.ensures.steady in
    record {
      turn = λ t m. and_then _ _ _ t _ _ (c.loop-step.invariant.turn t m) (λ u n. weaker _ _ u _ _ (c.in_ok-take.ensures.turn u (drop (c.loop-step.step-index + 1) c.args.steps.now) (at_step c.args.steps.now c.loop-step.step-index _ e _ _ _ u lt n))
          (λ w h. goes_on c.in_ok-take.field-0 _ e _ _ _ w c.in-Done.is h));
      first = first_steady _ (drop (c.loop-step.step-index + 1) c.args.steps.now) ready;
      up = λ _. ready;
      unheard = λ f. absurd (still_fresh c.take.new.fresh c.take.new.listener ready f);
      kept = subst (λ (x : Ending). IsCausedBy x (g.L.Link.faults c.loop-step.link) (g.L.Link.faults c.take.new.link)) c.in-Done.is c.in_ok-take.ensures.fault ∙ c.loop-step.invariant.kept;
    }

pub returns-in_err-take-clause-turn : goal.returns-in_err-take-clause-turn
returns-in_err-take-clause-turn g c =
    let e : Errand = record { who = c.args.who.now; ask = c.args.ask.now; message = c.args.message.now } in
    let lt : c.loop-step.step-index < length c.args.steps.now = omega arith in
    λ t m. and_then _ _ _ t _ _ (c.loop-step.invariant.turn t m) (λ u n. weaker _ _ u _ _ (c.take.ensures.turn u (drop (c.loop-step.step-index + 1) c.args.steps.now) (at_step c.args.steps.now c.loop-step.step-index _ e _ _ _ u lt n))
    (λ w h. let p = err_from_is_err_and c.from_residual.result c.from_residual.ensures.1 in rw p.1 tt))

pub returns-in-Stopped-clause-turn : goal.returns-in-Stopped-clause-turn
returns-in-Stopped-clause-turn g c =
    let e : Errand = record { who = c.args.who.now; ask = c.args.ask.now; message = c.args.message.now } in
    let lt : c.loop-step.step-index < length c.args.steps.now = omega arith in
    λ t m. and_then _ _ _ t _ _ (c.loop-step.invariant.turn t m) (λ u n. weaker _ _ u _ _ (c.in_ok-take.ensures.turn u (drop (c.loop-step.step-index + 1) c.args.steps.now) (at_step c.args.steps.now c.loop-step.step-index _ e _ _ _ u lt n))
    (λ w h. stops_on c.in_ok-take.field-0 c.in-Stopped.cause _ e _ _ _ w c.in-Stopped.is h))

pub returns-in-Failed-clause-turn : goal.returns-in-Failed-clause-turn
returns-in-Failed-clause-turn g c =
    let e : Errand = record { who = c.args.who.now; ask = c.args.ask.now; message = c.args.message.now } in
    let lt : c.loop-step.step-index < length c.args.steps.now = omega arith in
    λ t m. and_then _ _ _ t _ _ (c.loop-step.invariant.turn t m) (λ u n. weaker _ _ u _ _ (c.in_ok-take.ensures.turn u (drop (c.loop-step.step-index + 1) c.args.steps.now) (at_step c.args.steps.now c.loop-step.step-index _ e _ _ _ u lt n))
    (λ w h. fails_on c.in_ok-take.field-0 _ e _ _ _ w h))

pub returns-in-Stopped-clause-unheard : goal.returns-in-Stopped-clause-unheard
returns-in-Stopped-clause-unheard g c = λ f. unheard_on _ _ _ _ _ c.loop-step.invariant.unheard (c.in_ok-take.ensures.unheard f)

pub returns-in-Failed-clause-unheard : goal.returns-in-Failed-clause-unheard
returns-in-Failed-clause-unheard g c = λ f. unheard_on _ _ _ _ _ c.loop-step.invariant.unheard (c.in_ok-take.ensures.unheard f)
