use Rattle.std.proofs.Common.{◌≡◌, length}
use Rattle.http_heads.specs.Heads.{fields_seen}
use Rattle.http_front.specs.Answering.{first_cookies}
use Rattle.http_front.proofs.requests.first_cookie.Given as goal

abbrev pub invariant-loop-rest : goal.invariant-loop-rest
invariant-loop-rest l = first_cookies (fields_seen l.rest) ≡ first_cookies (fields_seen l.fields)

abbrev pub decreases-loop-rest : goal.decreases-loop-rest
decreases-loop-rest l = length l.rest
