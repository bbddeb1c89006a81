use Rattle.std.proofs.Common.{◌≡◌, ◌-◌, ◌≤◌, List, [], length, take, drop}
use Rattle.std.specs.Prelude.{◌==◌}
use Rattle.imap_commands.specs.Written.{bytes_of_vecs}
use Rattle.account_script.specs.declared.steps.Progress.{Progress}
use Rattle.account_script.specs.declared.steps.Step.{Step}
use Rattle.account_turns.specs.Causes.{last_of}
use Rattle.account_turns.specs.Exchanges.{Speaks}
use Rattle.account_turns.specs.Turns.{Continues, Turn}
use Rattle.account_turns.proofs.SpeakLemmas.{IsTurnOf}
use Rattle.account_turns.proofs.exchange.speak.Given as goal

abbrev pub invariant-loop-i : goal.invariant-loop-i
invariant-loop-i g l = record {
  turn : (t : Turn) (more : List Step) (p : Progress) → Speaks t.errand [] (bytes_of_vecs l.pieces) (last_of l.command) more t.fresh p l.fn.listener t
      → Continues (g.L.Link.talk l.fn.link) (g.L.Link.talk l.link) t (λ u. Speaks t.errand (take l.i (bytes_of_vecs l.pieces)) (drop l.i (bytes_of_vecs l.pieces)) (last_of l.command) more t.fresh p l.listener u);
  awaits : IsTurnOf (l.i == 0) l.number l.listener;
  kept : g.L.Link.faults l.link ≡ g.L.Link.faults l.fn.link;
  within : l.i ≤ length l.pieces;
}

abbrev pub decreases-loop-i : goal.decreases-loop-i
decreases-loop-i g l = length l.pieces - l.i
