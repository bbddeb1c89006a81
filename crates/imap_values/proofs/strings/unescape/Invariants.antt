use Rattle.std.proofs.Common.{◌≡◌, ◌++◌, drop}
use Rattle.imap_values.specs.Strings.{unescape}
use Rattle.imap_values.proofs.QuotedLemmas.{unescape_on}
use Rattle.imap_values.proofs.strings.unescape.Given as goal

abbrev pub invariant-loop-byte : goal.invariant-loop-byte
invariant-loop-byte l = l.out.items ++ unescape_on l.held (drop l.byte-index l.text) ≡ unescape l.text
