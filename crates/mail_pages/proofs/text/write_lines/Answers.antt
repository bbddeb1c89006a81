use Rattle.std.proofs.Common.{◌≡◌, sym, subst, List, ℕ}
use Rattle.mail_pages.proofs.LineFeeds.{line_feeds-clean}
use Rattle.page_frames.specs.Elements.{with_tokens, text}
use Rattle.std.specs.Prelude.{OnOk}
use Rattle.mail_pages.proofs.text.write_lines.Goals as goal

pub returns-else-has_return : goal.returns-else-has_return
returns-else-has_return c = subst (λ (t : List ℕ). OnOk c.chars.result (c.chars.new.self ≡ with_tokens c.args.out.now (text t) c.args.out.now.opened)) (sym (line_feeds-clean c.args.text.now (c.has_return.ensures c.if-has_return.false))) c.chars.ensures.ok
