use Rattle.std.proofs.Common.{◌≡◌, ◌-◌, suc, cond}
use Rattle.mail_talk.specs.Units.{heard_count, heard_limit}
use Rattle.account_turns.specs.Causes.{is_open}
use Rattle.account_turns.specs.Exchanges.{Hearing}
use Rattle.account_turns.specs.Turns.{Continues, Turn}
use Rattle.account_turns.proofs.listening.listen.Given as goal

abbrev pub invariant-loop-room : goal.invariant-loop-room
invariant-loop-room g l = record {
  turn : (t : Turn) → Hearing t l.fn.listener t → Continues (g.L.Link.talk l.fn.link) (g.L.Link.talk l.link) t (λ u. Hearing t l.listener u);
  number : l.listener.told.view.number ≡ l.fn.listener.told.view.number;
  kept : g.L.Link.faults l.link ≡ g.L.Link.faults l.fn.link;
}

abbrev pub decreases-loop-room : goal.decreases-loop-room
decreases-loop-room g l = cond (is_open l.listener) (suc (heard_limit - heard_count l.listener)) 0
