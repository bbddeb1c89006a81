use Rattle.std.proofs.Common.{◌<◌, ◌∙◌, length, arith}
use Rattle.page_writer.proofs.Appending.{piece_appended, some_appended, concat_step, on_err}
use Rattle.page_writer.proofs.sending.write_segments.Goals as goal

pub loop-segment-preserved : goal.loop-segment-preserved
loop-segment-preserved g c =
    let held = c.loop-segment.invariant in
    let call = c.in_ok-write_segment.ensures in
    let inside : c.loop-segment.segment-index < length c.args.segments.now = omega arith in
    record {
      written = piece_appended _ _ _ _ _ _ _ (concat_step c.args.segments.now c.loop-segment.segment-index c.segment-item.result inside c.segment-item.is) held.written call.whole;
      kept = call.cause.kept ∙ held.kept;
      room = call.room;
    }

pub returns-in_err-write_segment-clause-prefix : goal.returns-in_err-write_segment-clause-prefix
returns-in_err-write_segment-clause-prefix g c =
    let inside : c.loop-segment.segment-index < length c.args.segments.now = omega arith in
    on_err _ _ (some_appended _ _ _ _ _ _ _ (concat_step c.args.segments.now c.loop-segment.segment-index c.segment-item.result inside c.segment-item.is) c.loop-segment.invariant.written c.in_err-write_segment.ensures.prefix)
