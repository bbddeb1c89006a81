-- The events of calls, one after another.
use Rattle.std.proofs.Common.{List, [], ◌∷◌}
use Rattle.account_sends.specs.Outboxes.{OutboxState}
use Rattle.account_sends.specs.Once.{Event, IsRun, quiet}
use Rattle.account_sends.proofs.OnceLemmas.{sent_once}
use Rattle.account_core.specs.Events.{AreEventsOf, Call, CallsSendOnce, DoCalls, asks, logs_in}

record Runs (old : OutboxState) (calls : List Call) (new : OutboxState) : Type 0 where
  pub events : List Event
  pub are : AreEventsOf calls events
  pub run : IsRun old events new

runs : (calls : List Call) (old new : OutboxState) → DoCalls old calls new → Runs old calls new
runs [] old new same = record { events = []; are = tt; run = same }
runs (logs_in ∷ calls) old new (middle, one, rest) = let more = runs calls middle new rest in record { events = quiet ∷ more.events; are = more.are; run = (middle, one, more.run) }
runs (asks who ask ∷ calls) old new (middle, one, rest) = let more = runs calls middle new rest in record { events = one.event ∷ more.events; are = (one.of, more.are); run = (middle, one.does, more.run) }

pub calls_send_once : CallsSendOnce
calls_send_once calls old new told calls_done = let all = runs calls old new calls_done in record { events = all.events; are = all.are; run = all.run; once = sent_once all.events old new told all.run }
