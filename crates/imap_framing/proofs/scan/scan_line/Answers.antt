use Rattle.std.proofs.Common.{arith}
use Rattle.imap_framing.proofs.ScanLemmas.{line_stays, feed_there}
use Rattle.imap_framing.proofs.scan.scan_line.Goals as goal

pub scan_line_feed-requires-clause-line_feed : goal.scan_line_feed-requires-clause-line_feed
scan_line_feed-requires-clause-line_feed c = feed_there c.args.unit.now c.args.at c.find_byte.result c.find_byte.ensures.equals (omega arith)

pub scan_line_feed-requires-clause-phase : goal.scan_line_feed-requires-clause-phase
scan_line_feed-requires-clause-phase c = line_stays c.args.unit.now c.args.at c.find_byte.result c.args.from c.args.first c.find_byte.ensures.equals c.requires.phase

pub returns-then-line_feed-unit-clause-found : goal.returns-then-line_feed-unit-clause-found
returns-then-line_feed-unit-clause-found c = line_stays c.args.unit.now c.args.at c.find_byte.result c.args.from c.args.first c.find_byte.ensures.equals c.requires.phase
