use denote.Shadow.{shadow}
use denote.Text.{Utf8}
use Rattle.std.proofs.Common.{◌≡◌, ◌++◌, length, map}
use Rattle.flowed_text.specs.Lines.{lines}
use Rattle.compose_drafts.specs.Paragraphs.{paragraph_of}
use Rattle.compose_drafts.proofs.bodies.paragraphs_of.Given as goal

abbrev pub invariant-loop-line : goal.invariant-loop-line
invariant-loop-line l = record {
  text : shadow (Utf8 l.rest);
  paras : l.paras.items ++ map paragraph_of (lines l.rest) ≡ map paragraph_of (lines l.text);
}

abbrev pub decreases-loop-line : goal.decreases-loop-line
decreases-loop-line l = length l.rest
