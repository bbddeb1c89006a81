use Rattle.std.proofs.Common.{◌≡◌, length}
use Rattle.std.specs.List.{list_any}
use Rattle.imap_values.specs.Slices.{slices_of}
use Rattle.imap_values.specs.Words.{eq_ignore_case}
use Rattle.mailbox_view.proofs.abilities.has_word.Given as goal

abbrev pub invariant-loop-rest : goal.invariant-loop-rest
invariant-loop-rest l = list_any (eq_ignore_case l.word) (slices_of l.rest) ≡ list_any (eq_ignore_case l.word) l.words

abbrev pub decreases-loop-rest : goal.decreases-loop-rest
decreases-loop-rest l = length l.rest
