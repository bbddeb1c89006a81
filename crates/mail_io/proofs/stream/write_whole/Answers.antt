use Rattle.std.proofs.Common.{ℕ, arith, ◌∙◌, length-drop}
use Rattle.std.proofs.lemmas.List.{take_rest, length-take}
use Rattle.mail_io.proofs.Pieces.{taken_further}
use Rattle.mail_io.proofs.stream.write_whole.Goals as goal

pub loop-at-preserved : goal.loop-at-preserved
loop-at-preserved g c =
    let before = c.loop-at.invariant in
    let call = c.in_ok-at.ensures in
    record {
      within = omega (arith, before.within, call.bound, length-take {A = ℕ}, length-drop {A = ℕ});
      taken = taken_further _ _ _ c.args.bytes.now c.loop-at.at c.in_ok-at.field-0 before.within before.taken (rw take_rest at call.appends);
      kept = call.cause.kept ∙ before.kept;
    }
