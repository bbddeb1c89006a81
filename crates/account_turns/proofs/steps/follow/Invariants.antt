use Rattle.std.proofs.Common.{◌≡◌, true, false, drop}
use Rattle.account_turns.specs.Exchanges.{IsUnheard}
use Rattle.account_turns.specs.Steps.{IsFirst, Matches, is_unsteady}
use Rattle.account_turns.specs.Turns.{Continues, Turn}
use Rattle.account_turns.proofs.steps.follow.Given as goal

abbrev pub invariant-loop-step : goal.invariant-loop-step
invariant-loop-step g l = record {
  turn : (t : Turn) → Matches (record { who = l.who; ask = l.ask; message = l.message }) l.steps l.fn.fresh l.fn.progress l.fn.listener t
      → Continues (g.L.Link.talk l.fn.link) (g.L.Link.talk l.link) t (λ u. Matches (record { who = l.who; ask = l.ask; message = l.message }) (drop l.step-index l.steps) l.fresh l.progress l.listener u);
  first : IsFirst (is_unsteady l.fresh l.listener) (drop l.step-index l.steps);
  up : l.progress.up ≡ true → is_unsteady l.fresh l.listener ≡ false;
  unheard : l.fresh ≡ true → IsUnheard l.fn.fresh l.fn.listener l.listener;
  kept : g.L.Link.faults l.link ≡ g.L.Link.faults l.fn.link;
}
