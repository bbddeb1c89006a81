use Rattle.std.proofs.Common.{[]}
use Rattle.account_turns.specs.Turns.{Errand}
use Rattle.account_turns.proofs.TurnLemmas.{weaker}
use Rattle.account_mail.specs.Turned.{opening}
use Rattle.account_mail.proofs.OpenLemmas.{before, kept_after, matches_opening, turned_as}
use Rattle.account_mail.proofs.side.MailSide.carry_out.Goals as goal

pub invariant_of-self : goal.invariant_of-self
invariant_of-self g c =
    let e : Errand = record { who = c.in-Some.who; ask = c.args.ask.now; message = [] } in
    let b = before (g.L.Link.talk c.self.inside.link) c.self.inside.fresh c.self.inside.listener c.self.invariant.1 in (
      c.in-Ok.ensures.steady,
      kept_after e c.self.inside.up c.self.inside.fresh _ _ b.pieces _ _ b.same
          (weaker _ _ _ _ _ (c.in-Ok.ensures.turn (opening e c.self.inside.up c.self.inside.fresh b.pieces) (matches_opening e c.self.inside.up c.self.inside.fresh c.self.inside.listener b.pieces c.self.invariant.0 b.told)) (λ u h. h.told)),
    )

pub returns-in-Ok-clause-turned : goal.returns-in-Ok-clause-turned
returns-in-Ok-clause-turned g c =
    let e : Errand = record { who = c.in-Some.who; ask = c.args.ask.now; message = [] } in
    let b = before (g.L.Link.talk c.self.inside.link) c.self.inside.fresh c.self.inside.listener c.self.invariant.1 in
    turned_as c.args.self.now _ _ _ c.in-Some.who c.args.ask.now c.self.view_is c.in-Some.is
    (record { pieces = b.pieces; same = b.same; goes = c.in-Ok.ensures.turn (opening e c.self.inside.up c.self.inside.fresh b.pieces) (matches_opening e c.self.inside.up c.self.inside.fresh c.self.inside.listener b.pieces c.self.invariant.0 b.told) })

pub returns-in-Err-clause-turned : goal.returns-in-Err-clause-turned
returns-in-Err-clause-turned g c =
    let e : Errand = record { who = c.in-Some.who; ask = c.args.ask.now; message = [] } in
    let b = before (g.L.Link.talk c.self.inside.link) c.self.inside.fresh c.self.inside.listener c.self.invariant.1 in
    turned_as c.args.self.now _ _ _ c.in-Some.who c.args.ask.now c.self.view_is c.in-Some.is
    (record { pieces = b.pieces; same = b.same; goes = weaker _ _ _ _ _ (c.in-Err.ensures.turn (opening e c.self.inside.up c.self.inside.fresh b.pieces) (matches_opening e c.self.inside.up c.self.inside.fresh c.self.inside.listener b.pieces c.self.invariant.0 b.told)) (λ u h. tt) })
