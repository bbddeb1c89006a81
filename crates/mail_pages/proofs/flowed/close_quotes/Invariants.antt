use Rattle.std.proofs.Common.{◌≡◌, drop}
use Rattle.page_frames.specs.Elements.{with_tokens}
use Rattle.mail_pages.specs.Flowed.{closed_quotes}
use Rattle.mail_pages.proofs.flowed.close_quotes.Given as goal

abbrev pub invariant-loop : goal.invariant-loop
invariant-loop l = l.out ≡ with_tokens l.initial.out (closed_quotes l.counter) (drop l.counter l.initial.out.opened)
