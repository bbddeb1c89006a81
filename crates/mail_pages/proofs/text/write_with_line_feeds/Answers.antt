use Rattle.std.specs.Prelude.{string_bytes}
use Rattle.mail_pages.specs.Text.{with_line_feeds}
use Rattle.mail_pages.proofs.Gathering.{gathers-all}
use Rattle.mail_pages.proofs.text.write_with_line_feeds.Goals as goal

pub returns : goal.returns
returns c = gathers-all c.chars.result c.args.out.now c.add_lines.new.out c.chars.new.self (string_bytes c.new-gathered.result) (string_bytes c.add_lines.new.gathered) c.deref.result.now (with_line_feeds c.args.text.now)
    c.new-gathered.ensures.bytes c.in_ok-add_lines.ensures c.deref.ensures c.chars.ensures.ok
