use Rattle.std.proofs.Common.{◌++◌, map}
use Rattle.std.specs.Prelude.{filter}
use Rattle.form_urlencoded.specs.Parse.{raw_pairs_left}
use Rattle.http_routes.specs.Fields.{KeepsLook, field_of, fields_of, is_named}
use Rattle.http_routes.specs.Routes.{texts_seen}
use Rattle.http_routes.proofs.fields.push_form.Given as goal

abbrev pub invariant-pairs : goal.invariant-pairs
invariant-pairs l =
    KeepsLook (l.fields.items ++ filter (is_named (texts_seen l.names)) (map field_of (raw_pairs_left l.pairs))) (l.fn.fields.items ++ filter (is_named (texts_seen l.names)) (fields_of l.form))
