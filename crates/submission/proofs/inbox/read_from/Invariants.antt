use Rattle.std.proofs.Common.{◌≡◌, ◌-◌, ◌≤◌, ◌+◌, [], length, drop, true}
use Rattle.submission.specs.Replies.{hear, is_awaited, reply_limit}
use Rattle.submission.proofs.inbox.read_from.Given as goal

abbrev pub invariant-loop-reply : goal.invariant-loop-reply
invariant-loop-reply l = record {
  reads : hear (record { reading = l.fn.reply; rest = [] }) (drop l.from l.bytes) ≡ hear (record { reading = l.reply; rest = [] }) (drop l.at l.bytes);
  goes_on : l.from ≤ l.at;
  bound : l.at ≤ length l.bytes;
  grows : is_awaited l.reply.verdict ≡ true → l.from + l.reply.size ≡ l.at + l.fn.reply.size;
  short : l.fn.reply.size ≤ reply_limit → l.reply.size ≤ reply_limit;
}

abbrev pub decreases-loop-reply : goal.decreases-loop-reply
decreases-loop-reply l = length l.bytes - l.at
