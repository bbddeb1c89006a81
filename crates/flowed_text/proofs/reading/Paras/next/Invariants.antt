use denote.Shadow.{shadow}
use denote.Text.{Utf8}
use Rattle.std.proofs.Common.{◌≡◌, length}
use Rattle.std.specs.Prelude.{map}
use Rattle.flowed_text.specs.Lines.{lines}
use Rattle.flowed_text.specs.Paragraphs.{paras_of, read_line}
use Rattle.flowed_text.specs.Reading.{EndsInSpaceIfFlowing, continue_open_para}
use Rattle.flowed_text.proofs.reading.Paras.next.Given as goal

abbrev pub invariant-loop-line : goal.invariant-loop-line
invariant-loop-line l = record {
  text : shadow (Utf8 l.rest);
  sound : EndsInSpaceIfFlowing l.begun;
  paras : continue_open_para l.self-inside.del_sp l.begun (map read_line (lines l.rest)) ≡ paras_of l.self-inside.rest.now l.self-inside.del_sp;
}

abbrev pub decreases-loop-line : goal.decreases-loop-line
decreases-loop-line l = length l.rest
