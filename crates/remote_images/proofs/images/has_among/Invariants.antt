use Rattle.std.proofs.Common.{◌≡◌, ◌-◌, length, chars}
use Rattle.html_tokens.specs.Scanned.{tokens_left}
use Rattle.html_syntax.specs.Tokenizer.{tokens}
use Rattle.remote_images.specs.Remote.{has_remote_images}
use Rattle.remote_images.proofs.images.has_among.Given as goal

abbrev pub invariant-loop-span : goal.invariant-loop-span
invariant-loop-span l =
    (l.scanner.text ≡ l.html)
    × (has_remote_images l.references (tokens_left l.scanner) ≡ has_remote_images l.references (tokens (chars l.html)))

abbrev pub decreases-loop-span : goal.decreases-loop-span
decreases-loop-span l = length l.html - l.scanner.at
