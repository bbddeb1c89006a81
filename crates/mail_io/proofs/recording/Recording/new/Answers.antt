use Rattle.std.proofs.Common.{rules, ◌<◌, arith}
use Rattle.std.specs.Prelude.{vec_capacity}
use Rattle.mail_io.proofs.RecordingLemmas.{is_empty_recording, shown_empty}
use Rattle.mail_io.proofs.recording.Recording.new.Goals as goal

pub invariant_of-result : goal.invariant_of-result
invariant_of-result c =
    let none = c.in_ok-with_capacity.ensures.items in
    let bytes = c.in_ok-with_capacity-2.ensures.items in
    let room : c.args.entries < vec_capacity c.in_ok-with_capacity.field-0 = omega (arith, c.in-Some.ensures, c.in_ok-with_capacity.ensures.capacity) in
    rw (none, bytes) (is_empty_recording c.args.bytes c.args.entries, search rules, room)

pub returns : goal.returns
returns c = rw (c.in_ok-with_capacity.ensures.items, c.in_ok-with_capacity-2.ensures.items) (shown_empty c.args.bytes c.args.entries)
