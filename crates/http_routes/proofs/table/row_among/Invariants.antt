use Rattle.std.proofs.Common.{◌≡◌, length, map}
use Rattle.std.specs.Prelude.{find}
use Rattle.http_routes.specs.Routes.{fits, row_seen, texts_seen}
use Rattle.http_routes.proofs.table.row_among.Given as goal

abbrev pub invariant-loop-rest : goal.invariant-loop-rest
invariant-loop-rest l = find (fits l.method (texts_seen l.words)) (map row_seen l.rest) ≡ find (fits l.method (texts_seen l.words)) (map row_seen l.rows)

abbrev pub decreases-loop-rest : goal.decreases-loop-rest
decreases-loop-rest l = length l.rest
