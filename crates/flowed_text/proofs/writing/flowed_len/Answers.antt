use Rattle.flowed_text.proofs.Room.{empty_fits, flow_fits, flow_full}
use Rattle.flowed_text.proofs.writing.flowed_len.Goals as goal

pub loop-para-init : goal.loop-para-init
loop-para-init c = empty_fits 67108864

pub returns-in_err-left : goal.returns-in_err-left
returns-in_err-left c = rw c.from_residual.ensures (flow_full c.args.paras.now c.loop-para.para-index c.para-item.result 67108864 c.loop-para.left c.loop-para-test.true c.para-item.is c.loop-para.invariant c.in_err-left.ensures)

pub loop-para-preserved : goal.loop-para-preserved
loop-para-preserved c = flow_fits c.args.paras.now c.loop-para.para-index c.para-item.result 67108864 c.loop-para.left c.in_ok-left.left c.loop-para-test.true c.para-item.is c.loop-para.invariant c.in_ok-left.ensures
