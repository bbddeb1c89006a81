use Rattle.std.proofs.Common.{◌≡◌, ◌≤◌, take}
use Rattle.http_heads.specs.Heads.{line_feeds}
use Rattle.http_heads.proofs.heads.count_line_feeds.Given as goal

abbrev pub invariant-loop-byte : goal.invariant-loop-byte
invariant-loop-byte l = record {
  count : l.count ≡ line_feeds (take l.byte-index l.bytes);
  bound : l.count ≤ l.byte-index;
}
