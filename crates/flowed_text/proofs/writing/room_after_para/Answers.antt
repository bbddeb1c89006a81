use Rattle.flowed_text.specs.Flow.{flow_para}
use Rattle.flowed_text.proofs.Room.{measured-full, measured-last, measured-more, measured-start}
use Rattle.flowed_text.proofs.Written.{after_cut, after_space}
use Rattle.flowed_text.proofs.writing.room_after_para.Goals as goal

pub split_at-requires : goal.split_at-requires
split_at-requires c = after_space c.loop-end.rest.now c.in-Some.end c.loop-end.invariant.text c.in-Some.ensures.within c.in-Some.ensures.space

pub loop-end-init : goal.loop-end-init
loop-end-init c = record {
  text = c.as_str-rest.utf8;
  measured = measured-start c.args.para.now.depth c.args.room c.args.para.now.text c.as_str-rest.result.now c.as_str-rest.ensures;
}

pub loop-end-preserved : goal.loop-end-preserved
loop-end-preserved c = record {
  text = after_cut c.loop-end.rest.now c.split_at.result.1.now c.in-Some.end c.loop-end.invariant.text c.in-Some.ensures.within c.in-Some.ensures.space c.split_at.ensures.back;
  measured = measured-more c.args.para.now.depth c.args.room c.loop-end.left c.in_ok-left.left c.split_at.result.0.now c.loop-end.rest.now c.split_at.result.1.now (flow_para c.args.para.now) c.in-Some.end
      c.loop-end.invariant.measured c.in-Some.ensures.equals c.in-Some.ensures.space.0 c.in-Some.ensures.within c.split_at.ensures.front c.split_at.ensures.back c.split_at.ensures.back_len c.in_ok-left.ensures;
}

pub returns-in_err-left : goal.returns-in_err-left
returns-in_err-left c =
    rw c.from_residual.ensures (measured-full c.args.para.now.depth c.args.room c.loop-end.left c.split_at.result.0.now c.loop-end.rest.now c.split_at.result.1.now (flow_para c.args.para.now) c.in-Some.end
    c.loop-end.invariant.measured c.in-Some.ensures.equals c.in-Some.ensures.space.0 c.in-Some.ensures.within c.split_at.ensures.front c.split_at.ensures.back c.in_err-left.ensures)

pub returns : goal.returns
returns c =
    measured-last c.args.para.now.depth c.args.room c.loop-end.left c.loop-end.rest.now (flow_para c.args.para.now) c.room_after_line-2.result c.loop-end.invariant.measured c.in_default.ensures.equals c.room_after_line-2.ensures
