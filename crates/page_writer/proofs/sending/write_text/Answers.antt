use Rattle.std.proofs.Common.{◌∙◌, ap}
use Rattle.page_writer.specs.Bytes.{spell_bytes}
use Rattle.page_writer.proofs.Bytes.{spell_bytes-append}
use Rattle.page_writer.proofs.Appending.{piece_appended, all_appended, some_appended, spell_nothing, on_err}
use Rattle.page_writer.proofs.sending.write_text.Goals as goal

pub loop-chunk-preserved : goal.loop-chunk-preserved
loop-chunk-preserved g c =
    let held = c.loop-chunk.invariant in
    let steps = c.in-Some.ensures.steps in
    let call = c.in_ok-write_chunk.ensures in
    record {
      size = steps.0 ∙ held.size;
      written = piece_appended _ _ _ _ _ _ _ (ap spell_bytes steps.1.0 ∙ spell_bytes-append _ _) held.written call.whole;
      kept = call.cause.kept ∙ held.kept;
      room = call.room_after;
    }

pub returns-in_err-write_chunk-clause-prefix : goal.returns-in_err-write_chunk-clause-prefix
returns-in_err-write_chunk-clause-prefix g c =
    on_err _ _ (some_appended _ _ _ _ _ _ _ (ap spell_bytes c.in-Some.ensures.steps.1.0 ∙ spell_bytes-append _ _) c.loop-chunk.invariant.written c.in_err-write_chunk.ensures.prefix)

pub returns-clause-whole : goal.returns-clause-whole
returns-clause-whole g c = all_appended _ _ _ _ (spell_nothing _ c.in-None.ensures.steps.1.0) c.loop-chunk.invariant.written
