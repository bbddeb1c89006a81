use Rattle.std.proofs.Common.{◌≡◌, ◌-◌, ◌++◌, length, chars}
use Rattle.html_syntax.specs.Held.{meanings}
use Rattle.html_tokens.specs.Scanned.{tokens_left}
use Rattle.html_syntax.specs.Tokenizer.{tokens}
use Rattle.html_tokens.proofs.whole.read_tokens.Given as goal

-- what is read and what is left are the tokens of the text
abbrev pub invariant-loop-span : goal.invariant-loop-span
invariant-loop-span l = (l.scanner.text ≡ l.text) × (meanings l.list.items ++ tokens_left l.scanner ≡ tokens (chars l.text))

abbrev pub decreases-loop-span : goal.decreases-loop-span
decreases-loop-span l = length l.text - l.scanner.at
