use Rattle.std.proofs.Common.{◌≡◌, take}
use Rattle.http_heads.specs.Framing.{found_seen, occurs_in}
use Rattle.http_heads.specs.Heads.{fields_seen}
use Rattle.http_heads.proofs.framing.find.Given as goal

abbrev pub invariant-loop-field : goal.invariant-loop-field
invariant-loop-field l = found_seen l.found ≡ occurs_in l.name (fields_seen (take l.field-index l.fields))
