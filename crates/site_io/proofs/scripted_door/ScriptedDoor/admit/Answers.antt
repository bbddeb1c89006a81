use Rattle.std.proofs.Common.{All, ap, arith, subst, sym, length}
use Rattle.std.proofs.lemmas.List.Elements.{All-drop}
use Rattle.site_io.specs.Told.{IsNewCaller}
use Rattle.site_io.proofs.scripted_door.ScriptedDoor.admit.Goals as goal

pub invariant_of-self-2 : goal.invariant_of-self-2
invariant_of-self-2 g c =
    let one = ap length c.in_ok-caller.ensures.items in
    (omega (arith, one, c.self.invariant.0), subst (λ xs. All (λ caller. IsNewCaller (g.C.Caller.faults caller) (g.C.Caller.heard caller) (g.C.Caller.sent caller)) xs) (sym c.pop_front.ensures.rest) (All-drop (λ caller. IsNewCaller (g.C.Caller.faults caller) (g.C.Caller.heard caller) (g.C.Caller.sent caller)) 1 c.self.inside.waiting.items c.self.invariant.1))
