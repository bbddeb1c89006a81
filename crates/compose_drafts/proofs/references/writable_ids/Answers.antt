use Rattle.std.proofs.Common.{rules, ap, ◌∙◌}
use Rattle.std.specs.List.{filter}
use Rattle.std.proofs.lemmas.Fn.{filter_same}
use Rattle.compose_drafts.specs.References.{is_writable}
use Rattle.compose_drafts.proofs.references.writable_ids.Goals as goal

pub returns : goal.returns
returns c = filter_same _ is_writable _ (λ x b f' k. search rules) _ _ c.retain.ensures.filtered ∙ ap (filter is_writable) c.in_ok-ids.ensures
