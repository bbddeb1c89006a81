use denote.Shadow.{shadow}
use denote.Text.{Utf8}
use Rattle.std.proofs.Common.{◌≡◌, ◌++◌, length}
use Rattle.std.specs.Prelude.{string_bytes}
use Rattle.flowed_text.specs.Lines.{lines}
use Rattle.draft_sources.specs.Lines.{text_of}
use Rattle.draft_sources.proofs.lines.push_lines.Given as goal

abbrev pub invariant-loop-line : goal.invariant-loop-line
invariant-loop-line l = record {
  text : string_bytes l.out ++ text_of l.quoting (lines l.rest) ≡ string_bytes l.fn.out ++ text_of l.quoting (lines l.text);
  utf8 : shadow (Utf8 l.rest);
}

abbrev pub decreases-loop-line : goal.decreases-loop-line
decreases-loop-line l = length l.rest
