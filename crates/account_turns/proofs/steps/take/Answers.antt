use Rattle.std.proofs.Common.{◌+◌, refl, sym, ap, ◌∙◌}
use Rattle.std.proofs.lemmas.Result.{IfOk-weaker}
use Rattle.imap_commands.specs.Commands.{command_pieces}
use Rattle.account_script.specs.declared.steps.Progress.{Progress}
use Rattle.account_script.specs.Script.{act_with, progress_of}
use Rattle.mail_talk.specs.States.{ToldState}
use Rattle.account_turns.specs.Causes.{last_of}
use Rattle.account_turns.specs.Turns.{Errand, down}
use Rattle.account_turns.specs.Turns.Due.{Says}
use Rattle.account_turns.proofs.TurnLemmas.{rests, weaker}
use Rattle.account_turns.proofs.PieceLemmas.{spoken_same}
use Rattle.account_turns.proofs.StepLemmas.{ready_by, skipped, steady, steady_parts, step_due, still_fresh, stopped}
use Rattle.account_turns.proofs.steps.take.Goals as goal

pub returns-in-Skip-clause-turn : goal.returns-in-Skip-clause-turn
returns-in-Skip-clause-turn g c =
    let e : Errand = record { who = c.args.who.now; ask = c.args.ask.now; message = c.args.message.now } in
    let act = ap (λ (t : ToldState). act_with e.message c.args.step e.who e.ask t c.args.progress.now) (sym c.told.ensures) ∙ sym c.in_ok-act.ensures.equals ∙ c.in-Skip.is in
    let later = c.progress_at.ensures ∙ ap (λ (t : ToldState). progress_of c.args.step e.ask t c.args.progress.now) c.told-2.ensures in
    λ t more m. rests _ t _ (skipped c.args.step more e c.args.fresh.now c.args.progress.now c.progress_at.result c.args.listener.now t m act later)

pub returns-in-Dial-clause-turn : goal.returns-in-Dial-clause-turn
returns-in-Dial-clause-turn g c =
    let e : Errand = record { who = c.args.who.now; ask = c.args.ask.now; message = c.args.message.now } in
    let act = ap (λ (t : ToldState). act_with e.message c.args.step e.who e.ask t c.args.progress.now) (sym c.told.ensures) ∙ sym c.in_ok-act.ensures.equals ∙ c.in-Dial.is in
    λ t more m. weaker _ _ t _ _ (c.dial.ensures.turn t more m.seen (step_due c.args.step more e c.args.fresh.now c.args.progress.now c.args.listener.now t _ m act)) (λ u h. spoken_same _ t.errand e more more _ _ down down _ u m.errand refl refl refl h)

pub returns-in-Say-clause-turn : goal.returns-in-Say-clause-turn
returns-in-Say-clause-turn g c =
    let e : Errand = record { who = c.args.who.now; ask = c.args.ask.now; message = c.args.message.now } in
    let act = ap (λ (t : ToldState). act_with e.message c.args.step e.who e.ask t c.args.progress.now) (sym c.told.ensures) ∙ sym c.in_ok-act.ensures.equals ∙ c.in-Say.is in
    let later = c.progress_at.ensures ∙ ap (λ (t : ToldState). progress_of c.args.step e.ask t c.args.progress.now) c.told-2.ensures in
    let both = steady_parts c.args.fresh.now c.args.listener.now (steady _ c.args.step e c.args.listener.now.told c.args.progress.now _ c.requires.may act refl) in
    λ t more m. weaker _ _ t _ _ (c.exchange.ensures.turn t more c.progress_at.result (m.seen.state both.0)
    (step_due c.args.step more e c.args.fresh.now c.args.progress.now c.args.listener.now t _ m act ∙ ap (λ (p : Progress). Says (last_of c.in-Say.command) (command_pieces (c.args.listener.now.told.view.number + 1) c.in-Say.command) more p) (sym later)))
    (λ u h. spoken_same _ t.errand e more more t.fresh c.args.fresh.now _ _ _ u m.errand refl m.seen.same refl h)

pub returns-in-Say-clause-steady : goal.returns-in-Say-clause-steady
returns-in-Say-clause-steady g c =
    let e : Errand = record { who = c.args.who.now; ask = c.args.ask.now; message = c.args.message.now } in
    let act = ap (λ (t : ToldState). act_with e.message c.args.step e.who e.ask t c.args.progress.now) (sym c.told.ensures) ∙ sym c.in_ok-act.ensures.equals ∙ c.in-Say.is in
    let both = steady_parts c.args.fresh.now c.args.listener.now (steady _ c.args.step e c.args.listener.now.told c.args.progress.now _ c.requires.may act refl) in
    IfOk-weaker c.exchange.result _ _ (λ ending idle. ready_by ending c.args.fresh.now _ both.0 idle) c.exchange.ensures.idle

pub returns-in-Stop-clause-turn : goal.returns-in-Stop-clause-turn
returns-in-Stop-clause-turn g c =
    let e : Errand = record { who = c.args.who.now; ask = c.args.ask.now; message = c.args.message.now } in
    let act = ap (λ (t : ToldState). act_with e.message c.args.step e.who e.ask t c.args.progress.now) (sym c.told.ensures) ∙ sym c.in_ok-act.ensures.equals ∙ c.in-Stop.is in
    let later = c.progress_at.ensures ∙ ap (λ (t : ToldState). progress_of c.args.step e.ask t c.args.progress.now) c.told-2.ensures in
    λ t more m. rests _ t _ (stopped c.args.step more e c.args.fresh.now c.args.progress.now c.progress_at.result c.args.listener.now t c.in-Stop.cause m act later)

pub returns-in-Say-clause-unheard : goal.returns-in-Say-clause-unheard
returns-in-Say-clause-unheard g c =
    let e : Errand = record { who = c.args.who.now; ask = c.args.ask.now; message = c.args.message.now } in
    let act = ap (λ (t : ToldState). act_with e.message c.args.step e.who e.ask t c.args.progress.now) (sym c.told.ensures) ∙ sym c.in_ok-act.ensures.equals ∙ c.in-Say.is in
    IfOk-weaker c.exchange.result _ _ (λ ending idle f. absurd (still_fresh c.args.fresh.now c.args.listener.now (steady _ c.args.step e c.args.listener.now.told c.args.progress.now _ c.requires.may act refl) f)) c.exchange.ensures.idle

pub exchange-requires-clause-idle : goal.exchange-requires-clause-idle
exchange-requires-clause-idle g c =
    let e : Errand = record { who = c.args.who.now; ask = c.args.ask.now; message = c.args.message.now } in
    let act = ap (λ (t : ToldState). act_with e.message c.args.step e.who e.ask t c.args.progress.now) (sym c.told.ensures) ∙ sym c.in_ok-act.ensures.equals ∙ c.in-Say.is in
    (steady_parts c.args.fresh.now c.args.listener.now (steady _ c.args.step e c.args.listener.now.told c.args.progress.now _ c.requires.may act refl)).1
