use Rattle.std.proofs.Common.{Bool, sym, ap, ◌∙◌, chars}
use Rattle.std.specs.Prelude.{encode_utf8_all}
use Rattle.std.proofs.lemmas.Str.{encodes-chars}
use Rattle.cid_parts.specs.Refer.{refer}
use Rattle.remote_images.specs.Remote.{is_remote}
use Rattle.remote_images.proofs.Scanning.{if_ok_map}
use Rattle.remote_images.proofs.images.refers_to_web.Goals as goal

pub returns : goal.returns
returns c =
    let same = sym (encodes-chars c.as_str.result.now c.as_str.utf8) ∙ ap encode_utf8_all (ap chars c.as_str.ensures.value ∙ c.in_ok-value.ensures) in
    if_ok_map c.is_web_address.result _ _
    (λ (found : Bool) is. is ∙ ap (λ address. is_remote (refer c.args.references.now address)) same)
    c.is_web_address.ensures
