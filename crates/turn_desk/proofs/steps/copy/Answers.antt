use Rattle.std.proofs.Common.{rules}
use Rattle.turn_desk.proofs.Agreement.{copy_agrees}
use Rattle.turn_desk.proofs.steps.copy.Goals as goal

pub split_seat-requires : goal.split_seat-requires
split_seat-requires g c = (search rules, search rules, λ s agree here. copy_agrees c.args.seat.now.id c.args.seat.now.me.0 s.views agree here)
