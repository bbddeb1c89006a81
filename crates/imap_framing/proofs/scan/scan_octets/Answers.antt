use Rattle.imap_framing.proofs.ScanLemmas.{literal_ends, literal_stays}
use Rattle.imap_framing.proofs.scan.scan_octets.Goals as goal

pub returns-then-left-room-clause-found : goal.returns-then-left-room-clause-found
returns-then-left-room-clause-found c = literal_ends c.args.unit.now c.args.at c.args.left c.if-left-room.true c.requires.in_bounds c.requires.phase

pub returns-else-left-room-clause-found : goal.returns-else-left-room-clause-found
returns-else-left-room-clause-found c = literal_stays c.args.unit.now c.args.at c.args.left c.if-left-room.false c.requires.in_bounds c.requires.phase
