use Rattle.std.proofs.Common.{◌≡◌, ◌++◌}
use Rattle.record_io.proofs.account_maps.list_identities.Given as goal

abbrev pub invariant-loop-number : goal.invariant-loop-number
invariant-loop-number l = l.list.items ++ l.number-iterator ≡ l.map.entries
