use Rattle.std.proofs.Common.{◌<◌, length, sym, arith}
use Rattle.std.proofs.lemmas.List.{append-nil}
use Rattle.page_writer.specs.Bytes.{spell_bytes}
use Rattle.page_writer.proofs.Bytes.{each_step}
use Rattle.page_writer.proofs.spelling.push_each.Goals as goal

pub loop-byte-init : goal.loop-byte-init
unfolding spell_bytes
loop-byte-init c = record { spelled = sym (append-nil c.args.out.now.items); capacity = omega arith; size = omega arith }

pub loop-byte-preserved : goal.loop-byte-preserved
loop-byte-preserved c =
    let held = c.loop-byte.invariant in
    let call = c.in_ok-push_byte.ensures in
    record {
      spelled = each_step c.args.bytes.now c.loop-byte.byte-index c.args.out.now.items c.loop-byte.out.items c.push_byte.new.out.items (omega arith) held.spelled call.ok;
      capacity = omega (arith, held.capacity, call.capacity);
      size = omega (arith, held.size, call.at_most_six);
    }

pub returns-in_err-push_byte-clause-capacity : goal.returns-in_err-push_byte-clause-capacity
returns-in_err-push_byte-clause-capacity c = omega (arith, c.loop-byte.invariant.capacity, c.in_err-push_byte.ensures.capacity)

pub returns-in_err-push_byte-clause-fits : goal.returns-in_err-push_byte-clause-fits
returns-in_err-push_byte-clause-fits c = λ room.
    let held = c.loop-byte.invariant in
    let inside : c.loop-byte.byte-index < length c.args.bytes.now = omega arith in
    let never = c.in_err-push_byte.ensures.fits (omega (arith, room, inside, held.size, held.capacity)) in
    absurd cc

pub returns-clause-capacity : goal.returns-clause-capacity
returns-clause-capacity c = c.loop-byte.invariant.capacity
