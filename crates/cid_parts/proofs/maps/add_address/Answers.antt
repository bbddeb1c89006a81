use Rattle.std.proofs.Common.{◌≡◌, sym, ap, ◌∙◌, Some, rules, string_bytes, false}
use Rattle.std.specs.Prelude.{is_some}
use Rattle.std.specs.Option.{option_copied}
use Rattle.cid_parts.specs.Located.{located, address_of}
use Rattle.cid_parts.specs.Maps.{digest, section_of_address}
use Rattle.cid_parts.specs.Refer.{has_address, is_text}
use Rattle.cid_parts.proofs.MapLemmas.{adds_key, get_address, updates_address}
use Rattle.cid_parts.proofs.maps.add_address.Goals as goal

pub returns : goal.returns
returns c =
    let own : c.args.part.now.enclosed ≡ false = search rules in
    let key_text : string_bytes c.address_key-key.result.1 ≡ string_bytes c.in-Some.address = ap string_bytes c.address_key-key.ensures.text in
    let is_key : c.address_key-key.result.0 ≡ digest (string_bytes c.address_key-key.result.1) = c.address_key-key.ensures.digest ∙ ap digest (sym key_text) in
    let address : address_of (option_copied c.args.base) (located c.args.part.now) ≡ Some (string_bytes c.address_key-key.result.1) = search rules in
    let absent : is_some (section_of_address c.args.addresses.now (string_bytes c.address_key-key.result.1)) ≡ false = ap is_some (sym (get_address c.address_key-key.result c.args.addresses.now is_key)) ∙ search rules in
    adds_key (section_of_address c.args.addresses.now) (section_of_address c.insert.new.self) (has_address (option_copied c.args.base)) c.args.part.now (string_bytes c.address_key-key.result.1) _ own (sym c.section.ensures) (λ q. ap (is_text q) address) absent (updates_address c.address_key-key.result c.args.addresses.now c.insert.new.self _ is_key c.in_ok-insert.ensures.updates)
