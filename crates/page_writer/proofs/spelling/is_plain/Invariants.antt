use Rattle.std.proofs.Common.{◌≡◌, take, true}
use Rattle.page_writer.specs.Bytes.{spell_bytes}
use Rattle.page_writer.proofs.spelling.is_plain.Given as goal

abbrev pub invariant-loop-byte : goal.invariant-loop-byte
invariant-loop-byte l = l.all ≡ true → spell_bytes (take l.byte-index l.bytes) ≡ take l.byte-index l.bytes
