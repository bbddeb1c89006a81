use Rattle.std.proofs.Common.{[], ◌∷◌}
use Rattle.std.specs.Prelude.{codes}
use Rattle.compose_drafts.specs.Message.{own_id}
use Rattle.compose_drafts.proofs.Steps.{named_field}
use Rattle.compose_drafts.proofs.fields.push_id_field.Goals as goal

pub returns : goal.returns
returns c =
    named_field c.args.out.now.items c.extend_from_slice.new.self.items c.push_own_id.new.out.items c.end_line.new.out.items (codes "Message-ID: ") (own_id c.args.form c.args.domain.now) (13 ∷ 10 ∷ [])
    c.in_ok-extend_from_slice.ensures.items c.in_ok-push_own_id.ensures c.in_ok-end_line.ensures
