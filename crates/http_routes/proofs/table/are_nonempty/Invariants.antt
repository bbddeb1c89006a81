use Rattle.std.proofs.Common.{◌≡◌, length}
use Rattle.std.specs.List.{list_all}
use Rattle.http_routes.specs.Routes.{is_nonempty, texts_seen}
use Rattle.http_routes.proofs.table.are_nonempty.Given as goal

abbrev pub invariant-loop-rest : goal.invariant-loop-rest
invariant-loop-rest l = list_all is_nonempty (texts_seen l.rest) ≡ list_all is_nonempty (texts_seen l.words)

abbrev pub decreases-loop-rest : goal.decreases-loop-rest
decreases-loop-rest l = length l.rest
