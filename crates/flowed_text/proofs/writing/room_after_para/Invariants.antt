use denote.Shadow.{shadow}
use denote.Text.{Utf8}
use Rattle.std.proofs.Common.{length}
use Rattle.flowed_text.specs.Flow.{flow_para}
use Rattle.flowed_text.proofs.Room.{Measured}
use Rattle.flowed_text.proofs.writing.room_after_para.Given as goal

abbrev pub invariant-loop-end : goal.invariant-loop-end
invariant-loop-end l = record {
  text : shadow (Utf8 l.rest);
  measured : Measured l.para.depth l.room l.left l.rest (flow_para l.para);
}

abbrev pub decreases-loop-end : goal.decreases-loop-end
decreases-loop-end l = length l.rest
