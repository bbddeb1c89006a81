use denote.Shadow.{shadow}
use denote.Text.{Utf8}
use Rattle.std.proofs.Common.{◌≡◌, ◌++◌, List, ℕ, length}
use Rattle.std.specs.Prelude.{string_bytes}
use Rattle.mail_pages.specs.Text.{with_line_feeds}
use Rattle.page_frames.specs.Elements.{text}
use Rattle.mail_pages.proofs.text.add_lines.Given as goal

abbrev pub invariant-loop-line : goal.invariant-loop-line
invariant-loop-line l = record {
  utf8 : shadow (Utf8 l.rest);
  written : (more : List ℕ) → l.out.written ++ (text (string_bytes l.gathered) ++ text (with_line_feeds l.rest ++ more)) ≡ l.initial.out.written ++ (text (string_bytes l.initial.gathered) ++ text (with_line_feeds l.text ++ more));
  opened : l.out.opened ≡ l.initial.out.opened;
}

abbrev pub decreases-loop-line : goal.decreases-loop-line
decreases-loop-line l = length l.rest
