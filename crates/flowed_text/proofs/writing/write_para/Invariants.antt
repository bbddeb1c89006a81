use denote.Shadow.{shadow}
use denote.Text.{Utf8}
use Rattle.std.proofs.Common.{length}
use Rattle.std.specs.Prelude.{string_bytes}
use Rattle.flowed_text.specs.Flow.{flow_para}
use Rattle.flowed_text.proofs.Written.{Written}
use Rattle.flowed_text.proofs.writing.write_para.Given as goal

abbrev pub invariant-loop-end : goal.invariant-loop-end
invariant-loop-end l = record {
  text : shadow (Utf8 l.rest);
  written : Written l.para.depth (string_bytes l.fn.out) (string_bytes l.out) l.rest (flow_para l.para);
}

abbrev pub decreases-loop-end : goal.decreases-loop-end
decreases-loop-end l = length l.rest
