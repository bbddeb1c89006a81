use Rattle.std.proofs.Common.{◌≡◌, ◌≤◌, ◌<◌, ◌-◌, length, take, get_or}
use Rattle.std.specs.List.{suffix_len}
use Rattle.mail_addresses.specs.Runs.{is_space}
use Rattle.mail_addresses.proofs.runs.trimmed_len.Given as goal

abbrev pub invariant-loop-len : goal.invariant-loop-len
invariant-loop-len l = record {
  within : l.len ≤ length l.bytes;
  edge : l.len < length l.bytes → get_or l.bytes l.len 0 ≡ 32;
  same : l.len - suffix_len is_space (take l.len l.bytes) ≡ length l.bytes - suffix_len is_space l.bytes;
}

abbrev pub decreases-loop-len : goal.decreases-loop-len
decreases-loop-len l = l.len
