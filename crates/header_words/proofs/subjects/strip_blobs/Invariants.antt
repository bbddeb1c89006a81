use Rattle.std.proofs.Common.{◌≡◌, Bool, length}
use Rattle.header_words.specs.BaseSubject.{leader_len, without_front_from}
use Rattle.header_words.proofs.subjects.strip_blobs.Given as goal

abbrev pub invariant-loop-more : goal.invariant-loop-more
invariant-loop-more l = record {
  no_leader : leader_len l.rest ≡ 0;
  same : (reply : Bool) → without_front_from 0 reply l.rest ≡ without_front_from 0 reply l.text;
}

abbrev pub decreases-loop-more : goal.decreases-loop-more
decreases-loop-more l = length l.rest
