use Rattle.std.proofs.Common.{ap, ◌∙◌, arith}
use Rattle.imap_framing.specs.Units.{octets_left}
use Rattle.imap_framing.specs.declared.line.Ending.TheVariants as endings
use Rattle.imap_framing.proofs.ScanLemmas.{feed_leads, feed_goes_on, feed_begins, feed_opens}
use Rattle.imap_framing.proofs.scan.scan_line_feed.Goals as goal

pub returns-in-NotEnded : goal.returns-in-NotEnded
returns-in-NotEnded c = feed_goes_on c.args.unit.now c.args.line_feed c.args.from c.args.first c.requires.in_bounds c.requires.line_feed c.requires.phase (feed_leads c.args.unit.now c.args.line_feed c.args.from c.args.first endings.NotEnded c.requires.in_bounds c.requires.line_feed c.requires.phase c.in-NotEnded.ensures)

pub returns-in-Ends : goal.returns-in-Ends
returns-in-Ends c = feed_leads c.args.unit.now c.args.line_feed c.args.from c.args.first endings.Ends c.requires.in_bounds c.requires.line_feed c.requires.phase c.in-Ends.ensures

pub returns-in-TooLong : goal.returns-in-TooLong
returns-in-TooLong c = feed_leads c.args.unit.now c.args.line_feed c.args.from c.args.first endings.TooLong c.requires.in_bounds c.requires.line_feed c.requires.phase c.in-TooLong.ensures

pub returns-in-Literal-eq0 : goal.returns-in-Literal-eq0
returns-in-Literal-eq0 c = feed_begins c.args.unit.now c.args.line_feed c.requires.in_bounds (feed_leads c.args.unit.now c.args.line_feed c.args.from c.args.first (endings.Literal c.in-Literal-eq0.field-0) c.requires.in_bounds c.requires.line_feed c.requires.phase c.in-Literal-eq0.ensures ∙ ap octets_left c.in-Literal-eq0.field-0-test)

pub returns-in-Literal : goal.returns-in-Literal
returns-in-Literal c = feed_opens c.args.unit.now c.args.line_feed c.in-Literal.left (omega arith) (feed_leads c.args.unit.now c.args.line_feed c.args.from c.args.first (endings.Literal c.in-Literal.left) c.requires.in_bounds c.requires.line_feed c.requires.phase c.in-Literal.ensures)
