use Rattle.std.proofs.Common.{◌∙◌}
use Rattle.page_writer.proofs.Bytes.{Extends-trans, chunk_step, chunks_done}
use Rattle.page_writer.proofs.spelling.push_chunks.Goals as goal

pub loop-chunk-preserved : goal.loop-chunk-preserved
loop-chunk-preserved c =
    let steps = c.in-Some.ensures.steps in
    let held = c.loop-chunk.invariant in (
      steps.0 ∙ held.0,
      chunk_step _ c.in-Some.chunk.now _ _ _ _ steps.1.0 c.in_ok-push_chunk.ensures.ok held.1,
      Extends-trans _ _ _ held.2 c.in_ok-push_chunk.ensures.extends,
    )

pub returns-clause-ok : goal.returns-clause-ok
returns-clause-ok c = chunks_done _ _ _ c.args.text.now c.utf8.text c.in-None.ensures.steps.1.0 c.loop-chunk.invariant.1
