use Rattle.std.proofs.Common.{◌≡◌, ◌+◌, take, drop, get_or, false, arith, sym, ap, ◌∙◌, rules}
use Rattle.std.proofs.lemmas.List.{take_rest, length-drop}
use Rattle.style_wash.specs.Declarations.{is_piece_end, pieces}
use Rattle.style_wash.specs.Seen.{nesting_seen}
use Rattle.style_wash.specs.Values.{Nesting}
use Rattle.style_wash.proofs.Pieces.{front_onto, plain_front, piece_goes_on, last_piece, first_piece}
use Rattle.style_wash.proofs.declarations.split_piece.Goals as goal
use Rattle.style_wash.proofs.declarations.split_piece.Goals.{then-loop-end-test+else-not-is_piece_end, else-loop-end-test}

pub loop-end-init : goal.loop-end-init
loop-end-init c = record { cut = plain_front c.args.text.now c.plain_len-end.result c.plain_len-end.ensures.within c.plain_len-end.ensures.plain; within = c.plain_len-end.ensures.within }

pub loop-end-preserved : goal.loop-end-preserved
loop-end-preserved c =
    let text = c.args.text.now in
    let end = c.loop-end.end in
    let place = nesting_seen c.loop-end.place in
    let within : is_piece_end place (get_or text end 0) ≡ false = search rules in
    record {
      cut = ap (λ (p : Nesting). front_onto (take (end + 1) text) (pieces p (drop (end + 1) text))) c.nesting_after-place.ensures
          ∙ sym (piece_goes_on place text end (omega arith) within) ∙ c.loop-end.invariant.cut;
      within = omega arith;
    }

pub returns-then-end-text : goal.returns-then-end-text
returns-then-end-text c = last_piece (nesting_seen c.loop-end.place) c.args.text.now c.loop-end.end c.if-end-text.true c.loop-end.invariant.cut

pub returns : goal.returns
returns c =
    let text = c.args.text.now in
    let end = c.loop-end.end in
    rw (take_rest text (end + 1)) (elim c.loop-end-test.branch [
      | then-loop-end-test+else-not-is_piece_end w ↦
          (first_piece (nesting_seen c.loop-end.place) text end (omega arith) (search rules) c.loop-end.invariant.cut, omega (arith, length-drop (end + 1) text))
      | else-loop-end-test w ↦ absurd (omega arith)
    ])
