use Rattle.std.proofs.Common.{◌≡◌, ◌++◌, ◌≤◌, ◌+◌, ◌*◌, take, vec_len, vec_capacity}
use Rattle.page_writer.specs.Bytes.{spell_bytes}
use Rattle.page_writer.proofs.spelling.push_each.Given as goal

abbrev pub invariant-loop-byte : goal.invariant-loop-byte
invariant-loop-byte l = record {
  spelled : l.out.items ≡ l.fn.out.items ++ spell_bytes (take l.byte-index l.bytes);
  capacity : vec_capacity l.fn.out ≤ vec_capacity l.out;
  size : vec_len l.out ≤ vec_len l.fn.out + 6 * l.byte-index;
}
