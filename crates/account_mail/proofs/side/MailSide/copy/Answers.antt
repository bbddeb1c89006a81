use Rattle.account_script.specs.Asks.{copy_steps, script_with}
use Rattle.account_turns.specs.Turns.{Errand}
use Rattle.account_turns.proofs.TurnLemmas.{weaker}
use Rattle.account_mail.specs.Turned.{opening_with}
use Rattle.account_mail.proofs.OpenLemmas.{before, kept_with, matches_with, turned_with}
use Rattle.account_mail.proofs.side.MailSide.copy.Goals as goal

pub invariant_of-self : goal.invariant_of-self
invariant_of-self g c =
    let e : Errand = record { who = c.in-Some.who; ask = c.args.ask.now; message = c.args.message.now } in
    let b = before (g.L.Link.talk c.self.inside.link) c.self.inside.fresh c.self.inside.listener c.self.invariant.1 in (
      c.in-Ok.ensures.steady,
      kept_with (script_with copy_steps c.self.inside.up) e c.self.inside.up c.self.inside.fresh _ _ b.pieces _ _ b.same
          (weaker _ _ _ _ _ (c.in-Ok.ensures.turn (opening_with (script_with copy_steps c.self.inside.up) e c.self.inside.up c.self.inside.fresh b.pieces) (matches_with copy_steps e c.self.inside.up c.self.inside.fresh c.self.inside.listener b.pieces c.self.invariant.0 b.told)) (λ u h. h.told)),
    )

pub returns-in-Ok-clause-turned : goal.returns-in-Ok-clause-turned
returns-in-Ok-clause-turned g c =
    let e : Errand = record { who = c.in-Some.who; ask = c.args.ask.now; message = c.args.message.now } in
    let b = before (g.L.Link.talk c.self.inside.link) c.self.inside.fresh c.self.inside.listener c.self.invariant.1 in
    turned_with copy_steps c.args.self.now _ _ _ c.in-Some.who c.args.ask.now c.args.message.now c.self.view_is c.in-Some.is
    (record { pieces = b.pieces; same = b.same; goes = c.in-Ok.ensures.turn (opening_with (script_with copy_steps c.self.inside.up) e c.self.inside.up c.self.inside.fresh b.pieces) (matches_with copy_steps e c.self.inside.up c.self.inside.fresh c.self.inside.listener b.pieces c.self.invariant.0 b.told) })

pub returns-in-Err-clause-turned : goal.returns-in-Err-clause-turned
returns-in-Err-clause-turned g c =
    let e : Errand = record { who = c.in-Some.who; ask = c.args.ask.now; message = c.args.message.now } in
    let b = before (g.L.Link.talk c.self.inside.link) c.self.inside.fresh c.self.inside.listener c.self.invariant.1 in
    turned_with copy_steps c.args.self.now _ _ _ c.in-Some.who c.args.ask.now c.args.message.now c.self.view_is c.in-Some.is
    (record { pieces = b.pieces; same = b.same; goes = weaker _ _ _ _ _ (c.in-Err.ensures.turn (opening_with (script_with copy_steps c.self.inside.up) e c.self.inside.up c.self.inside.fresh b.pieces) (matches_with copy_steps e c.self.inside.up c.self.inside.fresh c.self.inside.listener b.pieces c.self.invariant.0 b.told)) (λ u h. tt) })
