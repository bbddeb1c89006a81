use Rattle.std.proofs.Common.{◌≡◌, ◌≤◌, ◌-◌, [], length}
use Rattle.std.specs.Io.KnownBytes.{Keeps}
use Rattle.httparse.specs.Grammar.{HasNoRequest}
use Rattle.http_heads.specs.Places.{place_of}
use Rattle.http_front.specs.Receiving.{Hears}
use Rattle.http_front.proofs.receiving.receive_head.Given as goal

abbrev pub invariant-parts : goal.invariant-parts
invariant-parts g l = record {
  hears : Hears (g.C.Caller.heard l.initial.caller) (g.C.Caller.heard l.caller) [] l.bytes.items;
  within : length l.bytes.items ≤ 16384;
  scanned : l.place ≡ place_of l.bytes.items;
  unfinished : HasNoRequest l.bytes.items;
  keeps_sent : Keeps (g.C.Caller.sent l.initial.caller) (g.C.Caller.sent l.caller);
  kept : g.C.Caller.faults l.caller ≡ g.C.Caller.faults l.initial.caller;
}

abbrev pub decreases-parts : goal.decreases-parts
decreases-parts g l = 16384 - length l.bytes.items
