use Rattle.std.proofs.Common.{◌≡◌, sym, ap, Some, rules}
use Rattle.std.proofs.lemmas.Map.Text.{btree_map_updates_str}
use Rattle.cid_parts.specs.Refer.{has_id, is_text}
use Rattle.cid_parts.specs.Maps.{section_of_id}
use Rattle.cid_parts.proofs.MapLemmas.{adds_key}
use Rattle.cid_parts.proofs.maps.add_id.Goals as goal

pub returns-in-Ok : goal.returns-in-Ok
returns-in-Ok c =
    let id : c.args.part.now.id ≡ Some c.in-Some.id.now = search rules in
    adds_key (section_of_id c.args.ids.now) (section_of_id c.insert.new.self) has_id c.args.part.now c.in-Some.id.now _ (search rules) (sym c.section.ensures) (λ q. ap (is_text q) id) (search rules) (btree_map_updates_str c.in-Some.id.now c.args.ids.now c.insert.new.self _ c.in-Ok.ensures.updates)
