use Rattle.std.proofs.Common.{Bool, [], false, sym, subst}
use Rattle.site_asks.specs.declared.asks.Ask.TheVariants as ask
use Rattle.account_script.specs.declared.steps.Credentials.{Credentials}
use Rattle.account_script.specs.Asks.{login_steps}
use Rattle.account_turns.specs.Steps.{Matches}
use Rattle.account_turns.proofs.TurnLemmas.{weaker}
use Rattle.account_mail.specs.Turned.{login_errand}
use Rattle.account_mail.proofs.LoginLemmas.{kept_user, login_ended}
use Rattle.account_mail.proofs.turns.log_in.Goals as goal

pub returns-clause-turn : goal.returns-clause-turn
returns-clause-turn g c =
    λ t m. weaker _ _ t _ _ (c.in_ok-ending.ensures.turn t
    (subst (λ (w : Credentials). Matches (record { who = w; ask = ask.LoginPage; message = [] }) login_steps c.forgets-was_fresh.result (record { up = false; mark = 0 }) c.args.listener.now t) (sym c.in_ok-who.ensures)
    (subst (λ (f : Bool). Matches (login_errand c.args.user.now c.args.password.now) login_steps f (record { up = false; mark = 0 }) c.args.listener.now t) (sym c.forgets-was_fresh.ensures) m)))
    (λ u h. login_ended c.in_ok-ending.ending c.args.kept.now _ c.in_ok-who.who c.args.user.now c.args.password.now c.args.fresh.now c.forgets-was_fresh.result c.follow_ask.new.fresh _ _ c.args.listener.now _ u c.in_ok-who.ensures c.forgets-was_fresh.ensures c.is_fresh_next.ensures c.keep_user.ensures c.in_ok-ending.ensures.unheard h)

pub returns-clause-user : goal.returns-clause-user
returns-clause-user g c = kept_user c.in_ok-ending.ending _ c.args.kept.now c.in_ok-who.who c.args.user.now c.args.password.now c.forgets-was_fresh.result c.follow_ask.new.fresh c.in_ok-who.ensures c.keep_user.ensures
