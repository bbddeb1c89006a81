use Rattle.std.proofs.Common.{◌≡◌, length}
use Rattle.http_routes.specs.Fields.{has_name}
use Rattle.http_routes.specs.Routes.{texts_seen}
use Rattle.http_routes.proofs.fields.has_name.Given as goal

abbrev pub invariant-loop-rest : goal.invariant-loop-rest
invariant-loop-rest l = has_name (texts_seen l.rest) l.name ≡ has_name (texts_seen l.names) l.name

abbrev pub decreases-loop-rest : goal.decreases-loop-rest
decreases-loop-rest l = length l.rest
