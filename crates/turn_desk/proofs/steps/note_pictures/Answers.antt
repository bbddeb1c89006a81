use Rattle.std.proofs.Common.{rules, refl}
use Rattle.atomic_table.specs.Table.{keeps}
use Rattle.turn_desk.specs.Views.{add_turn}
use Rattle.turn_desk.proofs.Agreement.{note_agrees}
use Rattle.turn_desk.proofs.steps.note_pictures.Goals as goal

pub load-requires : goal.load-requires
load-requires g c =
    let id = c.args.home.now.id in
    let v = c.args.home.now.me.0 in
    let opened = g.G.Noted.opened in
    let closed = g.G.Noted.closed in
    (search rules, search rules, λ s agree slots here small. (add_turn v opened closed, keeps, tt, note_agrees id v opened closed s.views agree here c.requires.is_home c.requires.is_unspent c.requires.lengthens, refl))
