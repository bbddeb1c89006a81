use Rattle.std.proofs.Common.{◌≡◌, take}
use Rattle.std.specs.List.{All}
use Rattle.std.specs.Prelude.{string_bytes}
use Rattle.flowed_text.specs.Flow.{flow}
use Rattle.flowed_text.proofs.RoundTrip.{IsShallow}
use Rattle.flowed_text.proofs.writing.write_flowed.Given as goal

abbrev pub invariant-loop-para : goal.invariant-loop-para
invariant-loop-para l = record {
  text : string_bytes l.text ≡ flow (take l.para-index l.paras);
  shallow : All IsShallow (take l.para-index l.paras);
}
