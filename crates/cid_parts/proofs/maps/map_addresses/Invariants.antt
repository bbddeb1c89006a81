use Rattle.std.proofs.Common.{take}
use Rattle.std.specs.Option.{option_copied}
use Rattle.cid_parts.specs.Located.{located_parts}
use Rattle.cid_parts.specs.Maps.{MapsAddresses}
use Rattle.cid_parts.proofs.maps.map_addresses.Given as goal

abbrev pub invariant-loop-part : goal.invariant-loop-part
invariant-loop-part l = MapsAddresses (option_copied l.base) l.addresses (located_parts (take l.part-index l.parts))
