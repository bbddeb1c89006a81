use Rattle.std.proofs.Common.{◌≡◌, ◌++◌, List, [], ℕ}
use Rattle.std.specs.Prelude.{string_bytes}
use Rattle.std.specs.Str.Chunks.{utf8_chunks_rest}
use Rattle.std.specs.Str.Lossy.{utf8_lossy}
use Rattle.mail_pages.specs.Text.{with_line_feeds}
use Rattle.page_frames.specs.Elements.{text}
use Rattle.mail_pages.proofs.text.write_lossily.Given as goal

abbrev pub invariant-loop-chunk : goal.invariant-loop-chunk
invariant-loop-chunk l = record {
  written : (more : List ℕ) → l.out.written ++ (text (string_bytes l.gathered) ++ text (with_line_feeds (utf8_lossy (utf8_chunks_rest l.chunk-iterator)) ++ more)) ≡ l.initial.out.written ++ (text [] ++ text (with_line_feeds (utf8_lossy l.bytes) ++ more));
  opened : l.out.opened ≡ l.initial.out.opened;
}
