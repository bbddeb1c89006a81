use Rattle.std.proofs.Common.{◌≡◌, ◌++◌, replicate}
use Rattle.page_frames.specs.Elements.{with_tokens}
use Rattle.mail_pages.specs.Flowed.{opened_quotes, quote}
use Rattle.mail_pages.proofs.flowed.open_quotes.Given as goal

abbrev pub invariant-loop : goal.invariant-loop
invariant-loop l = l.out ≡ with_tokens l.initial.out (opened_quotes l.counter) (replicate l.counter quote ++ l.initial.out.opened)
