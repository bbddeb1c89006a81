use Rattle.std.proofs.Common.{◌≡◌, ◌≤◌, ◌+◌, ◌-◌, length, drop}
use Rattle.header_words.specs.BaseSubject.{blob_len, blobs_len}
use Rattle.header_words.proofs.subjects.blobs_len.Given as goal

abbrev pub invariant-loop-next : goal.invariant-loop-next
invariant-loop-next l = record {
  within : l.len + l.next ≤ length l.text;
  next : l.next ≡ blob_len (drop l.len l.text);
  counted : blobs_len l.text ≡ l.len + blobs_len (drop l.len l.text);
}

abbrev pub decreases-loop-next : goal.decreases-loop-next
decreases-loop-next l = length l.text - l.len
