use Rattle.std.proofs.Common.{◌≡◌, ◌-◌, length, chars}
use Rattle.html_tokens.specs.Scanned.{tokens_left}
use Rattle.html_syntax.specs.Tokenizer.{tokens}
use Rattle.page_writer.specs.Writer.{with_all_tokens}
use Rattle.wash_attributes.specs.Addresses.{given_of}
use Rattle.html_wash.specs.Wash.{wash}
use Rattle.html_wash.proofs.Taking.{IsWashing}
use Rattle.html_wash.proofs.message.wash_with.Given as goal

abbrev pub invariant-loop-span : goal.invariant-loop-span
invariant-loop-span l =
    (l.scanner.text ≡ l.html)
    × IsWashing (given_of l.references l.place l.images) l.images l.washer (tokens_left l.scanner) l.fn.out.opened l.out (with_all_tokens l.fn.out (wash (given_of l.references l.place l.images) (tokens (chars l.html))))

abbrev pub decreases-loop-span : goal.decreases-loop-span
decreases-loop-span l = length l.html - l.scanner.at
