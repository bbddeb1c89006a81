use denote.Shadow.{shadow}
use denote.Text.{Utf8}
use Rattle.std.proofs.Common.{◌≡◌, ◌+◌, ◌≤◌, drop, length}
use Rattle.std.specs.Prelude.{min}
use Rattle.flowed_text.specs.Paragraphs.{mark_count}
use Rattle.flowed_text.proofs.reading.read_line.Given as goal

abbrev pub invariant-loop-after : goal.invariant-loop-after
invariant-loop-after l = record {
  text : shadow (Utf8 l.rest);
  depth : min (l.depth + mark_count l.rest) 4294967295 ≡ min (mark_count l.line) 4294967295;
  small : l.depth ≤ 4294967295;
  rest : drop (mark_count l.rest) l.rest ≡ drop (mark_count l.line) l.line;
}

abbrev pub decreases-loop-after : goal.decreases-loop-after
decreases-loop-after l = length l.rest
