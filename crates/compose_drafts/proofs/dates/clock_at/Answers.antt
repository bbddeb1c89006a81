use Rattle.compose_drafts.proofs.MomentLemmas.{nanos_are, writable_is}
use Rattle.compose_drafts.proofs.dates.clock_at.Goals as goal

pub returns-then-is_writable : goal.returns-then-is_writable
returns-then-is_writable c =
    let writable = writable_is c.args.moment c.ranges.moment (c.is_writable.ensures.0 c.if-is_writable.true) in
    record { inside = λ _. nanos_are c.args.moment _ c.ranges.moment c.from_nanosecond_in_range.ensures; outside = λ other. absurd (other writable) }
