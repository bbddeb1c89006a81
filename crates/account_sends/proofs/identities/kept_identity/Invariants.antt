use Rattle.std.proofs.Common.{◌≡◌, drop}
use Rattle.std.specs.Map.{lookup}
use Rattle.account_sends.specs.Sends.{has_number}
use Rattle.account_sends.proofs.identities.kept_identity.Given as goal

abbrev pub invariant-loop-one : goal.invariant-loop-one
invariant-loop-one l = lookup (has_number l.number) l.kept ≡ lookup (has_number l.number) (drop l.one-index l.kept)
