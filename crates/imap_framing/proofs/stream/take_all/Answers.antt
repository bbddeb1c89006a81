use Rattle.imap_framing.specs.Units.{IsUnit}
use Rattle.imap_framing.specs.Cuts.{GivesUnit}
use Rattle.imap_framing.specs.Streams.{bytes_of_vecs}
use Rattle.imap_framing.proofs.StreamLemmas.{took_more, gives_less, gives_of, bytes_of_vecs-push}
use Rattle.imap_framing.proofs.stream.take_all.Goals as goal

given : (c : goal.In_ok-push) → GivesUnit c.loop-units.reader c.advance.new.self
given c = gives_of c.loop-units.reader c.advance.new.self c.advance.result c.in_ok-advance.field-0 c.in_ok-advance.was c.if-branch.true c.advance.ensures

pub loop-units-smaller : goal.loop-units-smaller
loop-units-smaller c = gives_less c.loop-units.reader c.advance.new.self (given c)

pub loop-units-preserved : goal.loop-units-preserved
loop-units-preserved c =
    let given_unit = given c in
    let t = took_more IsUnit c.args.reader.now c.loop-units.reader c.advance.new.self (bytes_of_vecs c.args.units.now.items) (bytes_of_vecs c.loop-units.units.items) c.loop-units.invariant given_unit given_unit.unit in
    rw (c.in_ok-push.ensures.items, bytes_of_vecs-push, c.in_ok-from_slice.ensures.items, c.unit.ensures) t
