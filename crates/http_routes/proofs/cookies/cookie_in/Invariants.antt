use Rattle.std.proofs.Common.{◌≡◌}
use Rattle.std.specs.Option.{option_copied}
use Rattle.http_routes.specs.Cookies.{first_cookie, pieces_after, pieces_of, rest_len}
use Rattle.http_routes.proofs.cookies.cookie_in.Given as goal

abbrev pub invariant-pieces : goal.invariant-pieces
invariant-pieces l = first_cookie (pieces_after (option_copied l.rest)) ≡ first_cookie (pieces_of l.value)

abbrev pub decreases-pieces : goal.decreases-pieces
decreases-pieces l = rest_len (option_copied l.rest)
