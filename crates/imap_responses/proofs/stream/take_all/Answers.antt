use Rattle.imap_framing.specs.Streams.{bytes_of_vecs}
use Rattle.imap_framing.proofs.StreamLemmas.{took_more, gives_less, bytes_of_vecs-push}
use Rattle.imap_responses.specs.ReaderStates.{IsResponse, GivesResponse}
use Rattle.imap_responses.proofs.StreamLemmas.{answers_of, is_response}
use Rattle.imap_responses.proofs.stream.take_all.Goals as goal

given : (c : goal.In_ok-push) → GivesResponse c.loop-units.reader c.advance.new.self
given c = answers_of c.loop-units.reader c.advance.new.self c.advance.result c.in_ok-advance.field-0 c.in_ok-advance.was c.if-branch.true c.advance.ensures

pub loop-units-smaller : goal.loop-units-smaller
loop-units-smaller c = gives_less c.loop-units.reader.cut c.advance.new.self.cut (given c).unit

pub loop-units-preserved : goal.loop-units-preserved
loop-units-preserved c =
    let answer = given c in
    let t = took_more IsResponse c.args.reader.now.cut c.loop-units.reader.cut c.advance.new.self.cut (bytes_of_vecs c.args.units.now.items) (bytes_of_vecs c.loop-units.units.items) c.loop-units.invariant.taken answer.unit (is_response c.loop-units.reader c.advance.new.self answer) in
    record { sound = answer.still_sound; taken = rw (c.in_ok-push.ensures.items, bytes_of_vecs-push, c.in_ok-from_slice.ensures.items, c.unit.ensures) t }
