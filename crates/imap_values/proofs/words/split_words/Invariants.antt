use Rattle.std.proofs.Common.{◌≡◌, ◌≤◌, ◌-◌, ◌++◌, [], take, drop}
use Rattle.imap_values.specs.Slices.{slices_of}
use Rattle.imap_values.specs.Words.{words_from}
use Rattle.imap_values.proofs.words.split_words.Given as goal

abbrev pub invariant-loop-i : goal.invariant-loop-i
invariant-loop-i l = (l.from ≤ l.i) × (slices_of l.words.items ++ words_from (take (l.i - l.from) (drop l.from l.text)) (drop l.i l.text) ≡ words_from [] l.text)
