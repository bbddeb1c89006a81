use Rattle.std.proofs.Common.{Bool, ap, ◌∙◌}
use Rattle.html_tokens.specs.Scanned.{part_tokens}
use Rattle.remote_images.specs.Remote.{has_remote_images}
use Rattle.remote_images.proofs.Scanning.{tag_has, end_has, other_has, if_ok_map}
use Rattle.remote_images.proofs.images.has_in_span.Goals as goal

pub returns-in-StartTag : goal.returns-in-StartTag
returns-in-StartTag c =
    if_ok_map c.is_remote_image.result _ _
    (λ (found : Bool) is. is ∙ tag_has c.args.references.now c.start_tag.result.name c.start_tag.result.attributes _ c.start_tag.ensures)
    c.is_remote_image.ensures

pub returns-in-EndTag : goal.returns-in-EndTag
returns-in-EndTag c = end_has c.args.references.now c.end_tag-name.result _ c.end_tag-name.ensures

pub returns-in_default : goal.returns-in_default
returns-in_default c =
    let text = c.args.scanner.now.text in
    let span = c.args.span.now in
    other_has c.args.references.now text span.start span.end c.part.result c.in_default.not-StartTag c.in_default.not-EndTag
    ∙ ap (λ p. has_remote_images c.args.references.now (part_tokens text span.start span.end p)) c.part.ensures
