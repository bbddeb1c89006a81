use Rattle.std.proofs.Common.{◌≡◌, subst, List, ℕ}
use Rattle.std.specs.Prelude.{OnOk}
use Rattle.mail_pages.specs.Text.{with_line_feeds}
use Rattle.page_frames.specs.Elements.{with_tokens, text}
use Rattle.mail_pages.proofs.LineFeeds.{lossy-valid}
use Rattle.mail_pages.proofs.text.write_utf8.Goals as goal

pub returns-in-Ok : goal.returns-in-Ok
returns-in-Ok c = subst (λ (t : List ℕ). OnOk c.write_lines.result (c.write_lines.new.out ≡ with_tokens c.args.out.now (text (with_line_feeds t)) c.args.out.now.opened)) (lossy-valid c.args.bytes.now c.in-Ok.text.now c.in-Ok.ensures.cases.0 c.in-Ok.ensures.cases.1) c.write_lines.ensures
