use Rattle.std.proofs.Common.{◌≡◌, ℕ, ap, length, lit<, arith, true, false}
use Rattle.std.proofs.lemmas.List.{length-take-le}
use Rattle.std.proofs.lemmas.Iterator.Consumers.{YieldsList-at, YieldsList-turn, YieldsList-end}
use Rattle.std.proofs.lemmas.Iterator.Splits.{YieldsList-from_str_split}
use Rattle.mail_values.proofs.Spellings.{piece_at, some_is_none, same_some, pieces_more, one_further, all_read}
use Rattle.mail_values.proofs.sections.Section.parse.Goals as goal

pub returns-in_err-number-clause-complete : goal.returns-in_err-number-clause-complete
returns-in_err-number-clause-complete c = λ numbers section e.
    let turn = YieldsList-turn (YieldsList-at c.into_iter-piece-iterator.ensures.into_iter_gives (YieldsList-from_str_split 46 c.args.text.now (lit< tt) c.split-piece-items.ensures.text c.split-piece-items.ensures.has_more c.split-piece-items.ensures.pattern)) c.loop-piece.yielded _ c.loop-piece.yielded_by _ _ c.in-Some.piece c.in-Some.is c.next.ensures.steps in
    let piece = piece_at numbers c.args.text.now c.in-Some.piece.now (length c.loop-piece.yielded) section e turn.0 turn.1 in
    absurd (some_is_none c.parse_number.result _ (c.parse_number.ensures.complete _ piece.number piece.spelled) c.in_err-number.was)

pub returns-in_err-with_number-clause-complete : goal.returns-in_err-with_number-clause-complete
returns-in_err-with_number-clause-complete c = λ numbers section e.
    let turn = YieldsList-turn (YieldsList-at c.into_iter-piece-iterator.ensures.into_iter_gives (YieldsList-from_str_split 46 c.args.text.now (lit< tt) c.split-piece-items.ensures.text c.split-piece-items.ensures.has_more c.split-piece-items.ensures.pattern)) c.loop-piece.yielded _ c.loop-piece.yielded_by _ _ c.in-Some.piece c.in-Some.is c.next.ensures.steps in
    let piece = piece_at numbers c.args.text.now c.in-Some.piece.now (length c.loop-piece.yielded) section e turn.0 turn.1 in
    let size = ap length (c.loop-piece.invariant.found numbers section e) in
    let within = piece.within in
    let few = section.few in
    let none : false ≡ true = c.in_err-with_number.ensures.room (omega (arith, length-take-le {A = ℕ})) in
    absurd (cc)

pub loop-piece-preserved : goal.loop-piece-preserved
loop-piece-preserved c = record {
  can = tt;
  finite = tt;
  spelled = pieces_more (λ x. x.now) _ _ c.loop-piece.yielded c.in_ok-number.number c.in-Some.piece c.in_ok-with_number.ensures.appends c.loop-piece.invariant.spelled c.in_ok-number.ensures.sound;
  found = λ numbers section e.
      let turn = YieldsList-turn (YieldsList-at c.into_iter-piece-iterator.ensures.into_iter_gives (YieldsList-from_str_split 46 c.args.text.now (lit< tt) c.split-piece-items.ensures.text c.split-piece-items.ensures.has_more c.split-piece-items.ensures.pattern)) c.loop-piece.yielded _ c.loop-piece.yielded_by _ _ c.in-Some.piece c.in-Some.is c.next.ensures.steps in
      let piece = piece_at numbers c.args.text.now c.in-Some.piece.now (length c.loop-piece.yielded) section e turn.0 turn.1 in
      one_further _ _ numbers c.loop-piece.yielded c.in_ok-number.number c.in-Some.piece c.in_ok-with_number.ensures.appends (c.loop-piece.invariant.found numbers section e) (same_some c.parse_number.result _ _ c.in_ok-number.was (c.parse_number.ensures.complete _ piece.number piece.spelled)) piece.within;
}

pub returns-clause-complete : goal.returns-clause-complete
returns-clause-complete c = λ numbers section e.
    let end = YieldsList-end (YieldsList-at c.into_iter-piece-iterator.ensures.into_iter_gives (YieldsList-from_str_split 46 c.args.text.now (lit< tt) c.split-piece-items.ensures.text c.split-piece-items.ensures.has_more c.split-piece-items.ensures.pattern)) c.loop-piece.yielded _ c.loop-piece.yielded_by _ _ c.in-None.is c.next.ensures.steps in
    all_read c.loop-piece.section numbers c.args.text.now (length c.loop-piece.yielded) section e (c.loop-piece.invariant.found numbers section e) end.1
