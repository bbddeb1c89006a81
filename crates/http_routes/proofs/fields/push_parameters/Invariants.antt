use Rattle.std.proofs.Common.{◌≡◌, ◌++◌, length, map}
use Rattle.std.specs.List.{zip}
use Rattle.http_routes.specs.Fields.{parameter}
use Rattle.http_routes.specs.Routes.{texts_seen}
use Rattle.http_routes.proofs.fields.push_parameters.Given as goal

abbrev pub invariant-parameters : goal.invariant-parameters
invariant-parameters l =
    l.fields.items ++ map parameter (zip (texts_seen l.names_left) (texts_seen l.words_left)) ≡ l.fn.fields.items ++ map parameter (zip (texts_seen l.names) (texts_seen l.words))

abbrev pub decreases-parameters : goal.decreases-parameters
decreases-parameters l = length l.names_left
