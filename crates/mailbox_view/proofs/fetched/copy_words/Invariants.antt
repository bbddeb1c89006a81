use Rattle.std.proofs.Common.{◌≡◌, ◌++◌, length}
use Rattle.imap_values.specs.Slices.{slices_of}
use Rattle.mailbox_view.proofs.fetched.copy_words.Given as goal

abbrev pub invariant-loop-rest : goal.invariant-loop-rest
invariant-loop-rest l = record {
  copied : l.words ++ slices_of l.rest ≡ l.slices;
}

abbrev pub decreases-loop-rest : goal.decreases-loop-rest
decreases-loop-rest l = length l.rest
