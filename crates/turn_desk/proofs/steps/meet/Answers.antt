use Rattle.std.proofs.Common.{rules}
use Rattle.turn_desk.proofs.Agreement.{meet_agrees}
use Rattle.turn_desk.proofs.steps.meet.Goals as goal

pub join_seat-requires : goal.join_seat-requires
join_seat-requires g c = (
  search rules,
  search rules,
  search rules,
  search rules,
  λ s agree here apart there. meet_agrees c.args.seat.now.id c.args.other.id c.args.seat.now.me.0 c.args.other.me.0 s.views agree here apart there c.requires.other_beside,
)
