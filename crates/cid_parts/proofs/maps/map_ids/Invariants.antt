use Rattle.std.proofs.Common.{take}
use Rattle.cid_parts.specs.Located.{located_parts}
use Rattle.cid_parts.specs.Maps.{MapsIds}
use Rattle.cid_parts.proofs.maps.map_ids.Given as goal

abbrev pub invariant-loop-part : goal.invariant-loop-part
invariant-loop-part l = MapsIds l.ids (located_parts (take l.part-index l.parts))
