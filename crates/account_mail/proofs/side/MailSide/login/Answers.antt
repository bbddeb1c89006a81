use Rattle.account_turns.specs.Turns.{Turn}
use Rattle.account_turns.proofs.TurnLemmas.{weaker}
use Rattle.account_mail.specs.Turned.{login_errand, login_fresh, opening}
use Rattle.std.proofs.Common.{false}
use Rattle.account_mail.proofs.OpenLemmas.{before}
use Rattle.account_mail.proofs.LoginLemmas.{logged_as, login_kept, matches_login}
use Rattle.account_mail.proofs.side.MailSide.login.Goals as goal

pub invariant_of-self : goal.invariant_of-self
invariant_of-self g c =
    let b = before (g.L.Link.talk c.self.inside.link) c.self.inside.fresh c.self.inside.listener c.self.invariant.1 in
    let t : Turn = opening (login_errand c.args.user.now c.args.password.now) false (login_fresh c.args.user.now c.self.inside.who c.self.inside.fresh) b.pieces in (
      c.in-Ok.ensures.steady,
      login_kept c.args.user.now c.args.password.now (login_fresh c.args.user.now c.self.inside.who c.self.inside.fresh) c.self.inside.fresh _ c.self.inside.listener _ b.pieces _ _ b.same b.told
          (weaker _ _ t _ _ (c.in-Ok.ensures.turn t (matches_login c.args.user.now c.args.password.now c.self.inside.who c.self.inside.fresh c.self.inside.listener b.pieces b.told)) (λ u h. (h.fresh_next, h.told, h.unheard))),
    )

pub returns-in-Ok-clause-logged_in : goal.returns-in-Ok-clause-logged_in
returns-in-Ok-clause-logged_in g c =
    let b = before (g.L.Link.talk c.self.inside.link) c.self.inside.fresh c.self.inside.listener c.self.invariant.1 in
    let t : Turn = opening (login_errand c.args.user.now c.args.password.now) false (login_fresh c.args.user.now c.self.inside.who c.self.inside.fresh) b.pieces in
    logged_as c.args.self.now _ _ _ (login_errand c.args.user.now c.args.password.now) c.self.view_is
    (record { pieces = b.pieces; same = b.same; goes = c.in-Ok.ensures.turn t (matches_login c.args.user.now c.args.password.now c.self.inside.who c.self.inside.fresh c.self.inside.listener b.pieces b.told) })

pub returns-in-Err-clause-logged_in : goal.returns-in-Err-clause-logged_in
returns-in-Err-clause-logged_in g c =
    let b = before (g.L.Link.talk c.self.inside.link) c.self.inside.fresh c.self.inside.listener c.self.invariant.1 in
    let t : Turn = opening (login_errand c.args.user.now c.args.password.now) false (login_fresh c.args.user.now c.self.inside.who c.self.inside.fresh) b.pieces in
    logged_as c.args.self.now _ _ _ (login_errand c.args.user.now c.args.password.now) c.self.view_is
    (record { pieces = b.pieces; same = b.same; goes = weaker _ _ t _ _ (c.in-Err.ensures.turn t (matches_login c.args.user.now c.args.password.now c.self.inside.who c.self.inside.fresh c.self.inside.listener b.pieces b.told)) (λ u h. tt) })
