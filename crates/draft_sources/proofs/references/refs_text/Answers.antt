use Rattle.std.proofs.Common.{◌-◌, length, ap, ◌∙◌}
use Rattle.std.specs.Str.Lossy.{utf8_lossy}
use Rattle.compose_drafts.proofs.Unbroken.{all_drop}
use Rattle.compose_drafts.specs.References.{is_writable, last_of_ids}
use Rattle.draft_sources.specs.Refs.{ids_text, refs_text}
use Rattle.draft_sources.proofs.Ids.{ids_are_text}
use Rattle.draft_sources.proofs.references.refs_text.Goals as goal

pub returns : goal.returns
unfolding refs_text
returns c =
    let bytes = c.in_ok-bytes.ensures ∙ ap ids_text c.last_ids.ensures in
    c.from_string.ensures ∙ c.in_ok-from_utf8_lossy.ensures.lossy ∙ ap utf8_lossy (c.deref.ensures.value ∙ bytes) ∙ ids_are_text (last_of_ids 20 c.args.ids.now) (all_drop is_writable (length c.args.ids.now - 20) c.args.ids.now c.requires)
