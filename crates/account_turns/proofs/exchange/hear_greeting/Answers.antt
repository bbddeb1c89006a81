use Rattle.std.proofs.Common.{rules, sym, subst}
use Rattle.std.proofs.lemmas.Result.{err_from_is_err_and, IfOk-weaker}
use Rattle.account_turns.specs.declared.endings.Ending.{Ending}
use Rattle.account_turns.specs.Exchanges.{IsIdleAfter, Spoken}
use Rattle.account_turns.proofs.EndingLemmas.{idle_end}
use Rattle.account_turns.proofs.TurnLemmas.{weaker}
use Rattle.account_turns.proofs.PieceLemmas.{greeted_end}
use Rattle.account_turns.proofs.exchange.hear_greeting.Goals as goal

pub returns-in_err-listen-clause-turn : goal.returns-in_err-listen-clause-turn
returns-in_err-listen-clause-turn g c = λ t h l m. weaker _ _ t _ _ (c.in_err-listen.ensures.turn t h) (λ u x. let p = err_from_is_err_and c.from_residual.result c.from_residual.ensures.1 in rw p.1 tt)

pub returns-then-branch-clause-turn : goal.returns-then-branch-clause-turn
returns-then-branch-clause-turn g c = λ t h l m. weaker _ _ t _ _ (c.in_ok-listen.ensures.turn t h) (λ u x. IfOk-weaker c.how_ended.result _ _ (λ e is. subst (λ (y : Ending). Spoken t.errand y t.steps t.fresh t.progress c.listen.new.listener u) (sym is) (greeted_end t u c.listen.new.listener l m x (c.in_ok-listen.ensures.closed (search rules)))) c.how_ended.ensures)

pub returns-then-branch-clause-idle : goal.returns-then-branch-clause-idle
returns-then-branch-clause-idle g c = IfOk-weaker c.how_ended.result _ _ (λ e is. subst (λ (y : Ending). IsIdleAfter y c.listen.new.listener) (sym is) (idle_end _ c.listen.new.listener)) c.how_ended.ensures

pub returns-else-branch-clause-turn : goal.returns-else-branch-clause-turn
returns-else-branch-clause-turn g c = λ t h l m. weaker _ _ t _ _ (c.in_ok-listen.ensures.turn t h) (λ u x. record { errand = x.errand; seen = record { state = λ _. x.state; same = x.fresh }; next = tt })
