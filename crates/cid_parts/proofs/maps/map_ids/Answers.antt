use Rattle.std.proofs.Common.{rules}
use Rattle.cid_parts.specs.Refer.{has_id}
use Rattle.cid_parts.specs.Maps.{section_of_id, AddsId}
use Rattle.cid_parts.proofs.MapLemmas.{maps_next}
use Rattle.cid_parts.proofs.maps.map_ids.Goals as goal

pub loop-part-preserved : goal.loop-part-preserved
loop-part-preserved c =
    let adds : AddsId c.loop-part.ids c.add_id.new.ids c.part-item.result = search rules in
    maps_next (section_of_id c.loop-part.ids) (section_of_id c.add_id.new.ids) has_id c.args.parts.now c.loop-part.part-index c.part-item.result c.loop-part-test.true c.part-item.is c.loop-part.invariant adds
