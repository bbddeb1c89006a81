use Rattle.std.proofs.Common.{◌≡◌, take}
use Rattle.http_routes.specs.Fields.{found_seen, look_in}
use Rattle.http_routes.proofs.fields.find.Given as goal

abbrev pub invariant-loop-field : goal.invariant-loop-field
invariant-loop-field l = found_seen l.found ≡ look_in (take l.field-index l.fields) l.name
