use Rattle.std.proofs.Common.{◌≡◌, ◌+◌, drop, false}
use Rattle.imap_grammar.specs.Items.{name_len}
use Rattle.imap_grammar.proofs.fetch.name_len.Given as goal

abbrev pub invariant-loop-i : goal.invariant-loop-i
invariant-loop-i l = l.i + name_len l.bracketed (drop l.i l.bytes) ≡ name_len false l.bytes
