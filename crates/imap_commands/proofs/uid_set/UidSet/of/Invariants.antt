use Rattle.std.proofs.Common.{◌≡◌, ℕ, ◌≤◌, ◌<◌, length, take, get_or}
use Rattle.imap_commands.specs.declared.uid_set.UidRange.{UidRange}
use Rattle.imap_commands.specs.UidSets.{contains_uid, AreApart, BeginBy}
use Rattle.imap_commands.proofs.uid_set.UidSet.of.Given as goal

abbrev pub invariant-loop-range : goal.invariant-loop-range
invariant-loop-range l = record {
  apart : AreApart l.merged.items;
  latest : (k : ℕ) (d : UidRange) → l.range-index ≤ k → k < length l.range-items → BeginBy (get_or l.range-items k d).first l.merged.items;
  members : (uid : ℕ) → contains_uid uid l.merged.items ≡ contains_uid uid (take l.range-index l.range-items);
}
