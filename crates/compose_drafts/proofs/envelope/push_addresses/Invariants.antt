use Rattle.std.proofs.Common.{◌≡◌, ◌++◌, take}
use Rattle.compose_drafts.specs.Recipients.{addresses}
use Rattle.compose_drafts.proofs.envelope.push_addresses.Given as goal

abbrev pub invariant-loop-one : goal.invariant-loop-one
invariant-loop-one l = l.found.items ≡ l.initial.found.items ++ addresses (take l.one-index l.boxes)
