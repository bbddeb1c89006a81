use Rattle.std.proofs.Common.{◌≡◌, take, ap}
use Rattle.std.specs.List.{concat}
use Rattle.std.proofs.lemmas.Result.{err_from_is_err_and}
use Rattle.imap_framing.specs.Cuts.{with_bytes}
use Rattle.imap_framing.specs.Streams.{bytes_of_vecs}
use Rattle.imap_framing.proofs.StreamLemmas.{Goes, goes_on, joined_more}
use Rattle.imap_responses.specs.ReaderStates.{ReaderState, IsResponse}
use Rattle.imap_responses.proofs.StreamLemmas.{stream_fails}
use Rattle.imap_responses.proofs.stream.response_units.Goals as goal

pub returns-in_err-take_all : goal.returns-in_err-take_all
returns-in_err-take_all c =
    let p = err_from_is_err_and c.from_residual-in_err-take_all.result c.from_residual-in_err-take_all.ensures.1 in
    let inv = c.loop-piece.invariant in
    let was : c.feed.new.self.cut ≡ with_bytes c.loop-piece.reader.cut c.piece-item.result.items = rw (← c.deref.ensures.value) (ap (λ (r : ReaderState). r.cut) c.in_ok-feed.ensures.1) in
    rw (p.1, p.2) (stream_fails c.args.pieces.now c.loop-piece.piece-index c.piece-item.result c.loop-piece.reader c.feed.new.self c.take_all.new.reader (bytes_of_vecs c.loop-piece.units.items) (bytes_of_vecs c.take_all.new.units.items) c.in_err-take_all.field-0.0
    c.loop-piece-test.true c.piece-item.is inv.splits inv.at was c.in_err-take_all.ensures)

pub loop-piece-preserved : goal.loop-piece-preserved
loop-piece-preserved c =
    let inv = c.loop-piece.invariant in
    let was : c.feed.new.self.cut ≡ with_bytes c.loop-piece.reader.cut c.piece-item.result.items = rw (← c.deref.ensures.value) (ap (λ (r : ReaderState). r.cut) c.in_ok-feed.ensures.1) in
    let taken = c.in_ok-take_all.ensures in
    let g : Goes IsResponse _ _ _ = goes_on IsResponse (concat (bytes_of_vecs (take c.loop-piece.piece-index c.args.pieces.now))) c.piece-item.result.items c.loop-piece.reader.cut c.feed.new.self.cut c.take_all.new.reader.cut (bytes_of_vecs c.loop-piece.units.items) (bytes_of_vecs c.take_all.new.units.items) inv.splits inv.at was taken.0 in
    record { sound = taken.1; splits = rw (joined_more c.args.pieces.now c.loop-piece.piece-index c.piece-item.result c.loop-piece-test.true c.piece-item.is) g.splits; open_rest = taken.2; at = g.at }
