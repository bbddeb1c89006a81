use Rattle.std.proofs.Common.{ap, subst, map, ◌++◌, List}
use Rattle.std.specs.Prelude.{filter}
use Rattle.http_routes.specs.Fields.{KeepsLook, field_of, fields_of, is_named}
use Rattle.http_routes.specs.Routes.{texts_seen}
use Rattle.http_routes.specs.declared.fields.Field.{Field}
use Rattle.http_routes.proofs.Looks.{kept_more}
use Rattle.http_routes.proofs.fields.push_form.Goals as goal

pub pairs-preserved : goal.pairs-preserved
pairs-preserved c =
    let names = texts_seen c.args.names.now in
    kept_more names c.push_named.new.fields.items c.pairs.fields.items _ _ (field_of (c.in-Some.name.now, c.in-Some.value.now)) c.in_ok-push_named.ensures
    (subst (λ (left : List Field). KeepsLook (c.pairs.fields.items ++ filter (is_named names) left) (c.args.fields.now.items ++ filter (is_named names) (fields_of c.args.form.now))) (ap (map field_of) c.in-Some.ensures.steps) c.pairs.invariant)
