use Rattle.std.proofs.Common.{rules, refl}
use Rattle.atomic_table.specs.Table.{keeps}
use Rattle.turn_desk.proofs.Agreement.{tell_agrees}
use Rattle.turn_desk.proofs.steps.tell.Goals as goal

pub load-requires : goal.load-requires
load-requires g c =
    let id = c.args.seat.now.id in
    let v = c.args.seat.now.me.0 in
    (search rules, search rules, λ s agree slots here small. (v, keeps, tt, tell_agrees id v s.views agree here, (refl, (agree.behind id v here).met)))
