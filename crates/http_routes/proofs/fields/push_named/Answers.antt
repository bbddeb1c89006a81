use Rattle.http_routes.specs.Fields.{field_of}
use Rattle.http_routes.proofs.Looks.{is_twice_found, twice_is, twice_kept}
use Rattle.http_routes.proofs.fields.push_named.Goals as goal

pub returns-then-is_twice : goal.returns-then-is_twice
returns-then-is_twice c =
    twice_kept c.args.fields.now.items (field_of (c.args.raw_name.now, c.args.raw_value.now)) _ (is_twice_found _ (twice_is _ _ _ _ _ c.is_twice.ensures c.if-is_twice.true c.deref.ensures.value c.as_str-2.ensures c.in_ok-name.ensures))
