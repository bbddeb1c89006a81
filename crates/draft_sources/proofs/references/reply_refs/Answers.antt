use Rattle.std.proofs.Common.{◌≡◌, ◌++◌, ap, ◌∙◌}
use Rattle.std.specs.List.{list_all}
use Rattle.compose_drafts.specs.References.{is_writable}
use Rattle.draft_sources.specs.Refs.{parents_of, reply_ids}
use Rattle.draft_sources.proofs.Ids.{reply_counted}
use Rattle.draft_sources.proofs.references.reply_refs.Goals as goal

pub refs_text-requires : goal.refs_text-requires
refs_text-requires c =
    let all : c.deref.result.now ≡ reply_ids c.args.fields.now = c.deref.ensures.value ∙ c.in_ok-append.ensures.items ∙ ap (λ ids. ids ++ c.in_ok-own.own.items) c.in_ok-ids.ensures ∙ ap (λ ids. parents_of c.args.fields.now ++ ids) c.in_ok-own.ensures in
    ap (list_all is_writable) all ∙ reply_counted c.args.fields.now
