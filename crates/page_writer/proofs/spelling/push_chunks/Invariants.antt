use Rattle.std.proofs.Common.{◌≡◌, ◌++◌}
use Rattle.std.specs.Slice.Iter.{chunks_rest, chunks_size}
use Rattle.page_writer.specs.Bytes.{spell_bytes, Extends}
use Rattle.page_writer.proofs.spelling.push_chunks.Given as goal

abbrev pub invariant-loop-chunk : goal.invariant-loop-chunk
invariant-loop-chunk l =
    (chunks_size l.chunk-iterator ≡ 64)
    × (l.out.items ++ spell_bytes (chunks_rest l.chunk-iterator) ≡ l.fn.out.items ++ spell_bytes l.fn.text)
    × Extends l.fn.out.items l.out.items
