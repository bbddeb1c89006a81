use Rattle.std.proofs.Common.{◌≡◌, List, ℕ, Option, Some, IfOk, sym, ap, subst, ◌∙◌}
use Rattle.std.specs.Str.{chars}
use Rattle.std.proofs.lemmas.Str.{encodes-chars}
use Rattle.cid_parts.specs.Refer.{refer}
use Rattle.wash_attributes.specs.Values.{link_address, picture_address, written_value}
use Rattle.wash_attributes.specs.Addresses.{target_of, given_of}
use Rattle.wash_attributes.specs.Attributes.{with_declared}
use Rattle.wash_attributes.specs.Written.{text_in}
use Rattle.wash_attributes.proofs.values.written_value.Goals as goal

pub returns-in-Flag : goal.returns-in-Flag
unfolding written_value given_of with_declared chars
returns-in-Flag c = rw c.in-Flag.is (ap Some (ap chars c.new.ensures.bytes))

pub returns-in_ok-refer-in-Link : goal.returns-in_ok-refer-in-Link
unfolding written_value given_of with_declared
returns-in_ok-refer-in-Link c =
    let with = c.args.with.now in
    let same = c.in_ok-refer-in-Link.ensures.equals ∙ ap (refer with.references.now) (sym (encodes-chars c.args.value.now c.utf8.value)) in
    rw c.in-Link.is (c.link_address.ensures with.place.now ∙ ap (λ to. link_address (target_of with.place.now to)) same)

pub returns-in_ok-reference-in-Source : goal.returns-in_ok-reference-in-Source
unfolding written_value given_of with_declared
returns-in_ok-reference-in-Source c =
    let with = c.args.with.now in
    let same = c.in_ok-reference-in-Source.ensures.equals ∙ ap (refer with.references.now) (sym (encodes-chars c.args.value.now c.utf8.value)) in
    rw c.in-Source.is (subst (λ (to : Option (List ℕ)). IfOk c.picture_address.result (λ written. text_in written ≡ to)) (ap (λ to. picture_address with.images (target_of with.place.now to)) same) c.picture_address.ensures)
