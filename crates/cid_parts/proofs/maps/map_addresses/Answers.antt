use Rattle.std.proofs.Common.{rules}
use Rattle.std.specs.Option.{option_copied}
use Rattle.cid_parts.specs.Refer.{has_address}
use Rattle.cid_parts.specs.Maps.{AddsAddress, section_of_address}
use Rattle.cid_parts.proofs.MapLemmas.{maps_next}
use Rattle.cid_parts.proofs.maps.map_addresses.Goals as goal

pub loop-part-preserved : goal.loop-part-preserved
loop-part-preserved c =
    let adds : AddsAddress (option_copied c.args.base) c.loop-part.addresses c.add_address.new.addresses c.part-item.result = search rules in
    maps_next (section_of_address c.loop-part.addresses) (section_of_address c.add_address.new.addresses) (has_address (option_copied c.args.base)) c.args.parts.now c.loop-part.part-index c.part-item.result c.loop-part-test.true c.part-item.is c.loop-part.invariant adds
