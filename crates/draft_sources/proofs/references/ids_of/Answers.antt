use Rattle.std.proofs.Common.{rules, sym, ap, ◌∙◌}
use Rattle.std.specs.List.{filter}
use Rattle.std.proofs.lemmas.Fn.{filter_same}
use Rattle.compose_drafts.specs.References.{is_writable}
use Rattle.draft_sources.specs.Refs.{ids_of, ids_of_field}
use Rattle.draft_sources.proofs.references.ids_of.Goals as goal

pub returns : goal.returns
unfolding ids_of
returns c = filter_same _ is_writable _ (λ x b f' k. search rules) _ _ c.retain.ensures.filtered ∙ ap (filter is_writable) c.in_ok-ids.ensures ∙ ap ids_of_field (sym c.in-Some.is ∙ c.first.ensures)
