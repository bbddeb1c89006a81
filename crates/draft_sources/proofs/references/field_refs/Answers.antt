use Rattle.std.proofs.Common.{codes, ap, ◌∙◌}
use Rattle.std.specs.List.{list_all}
use Rattle.compose_drafts.specs.References.{is_writable}
use Rattle.draft_sources.proofs.Ids.{counted}
use Rattle.draft_sources.proofs.references.field_refs.Goals as goal

pub refs_text-requires : goal.refs_text-requires
refs_text-requires c = ap (list_all is_writable) (c.deref.ensures.value ∙ c.in_ok-ids.ensures) ∙ counted (codes "References") c.args.fields.now
