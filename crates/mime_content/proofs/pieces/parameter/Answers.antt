use Rattle.std.proofs.Common.{◌+◌, arith, ap, sym, ◌∙◌}
use Rattle.std.specs.Option.{option_or}
use Rattle.mime_content.proofs.PieceLemmas.{parameter_starts, parameter_read, first_value, pieces_after}
use Rattle.mime_content.proofs.pieces.parameter.Goals as goal

pub loop-at-init : goal.loop-at-init
loop-at-init c = record { within = omega arith; left = parameter_starts c.args.name.now c.args.value.now c.piece_size-at.result c.piece_size-at.ensures.size }

pub returns-in-Some : goal.returns-in-Some
returns-in-Some c =
    let next = first_value c.args.name.now (pieces_after (c.loop-at.at + (c.piece_size-size.result + 1)) c.args.value.now) in
    ap (λ o. option_or o next) (sym c.in-Some.is)
    ∙ parameter_read c.args.name.now c.args.value.now c.loop-at.at c.piece_size-size.result c.in_ok-found.field-0 _ c.loop-at-test.true c.piece_size-size.ensures.size c.in_ok-found.ensures c.loop-at.invariant.left

pub loop-at-preserved : goal.loop-at-preserved
loop-at-preserved c =
    let next = first_value c.args.name.now (pieces_after (c.loop-at.at + (c.piece_size-size.result + 1)) c.args.value.now) in
    record {
      within = omega arith;
      left = ap (λ o. option_or o next) (sym c.in_default.is)
          ∙ parameter_read c.args.name.now c.args.value.now c.loop-at.at c.piece_size-size.result c.in_ok-found.field-0 _ c.loop-at-test.true c.piece_size-size.ensures.size c.in_ok-found.ensures c.loop-at.invariant.left;
    }
