use Rattle.std.proofs.Common.{ap, ◌∙◌, arith, refl, length}
use Rattle.std.specs.Map.{lookup}
use Rattle.mailbox_rows.specs.Rows.{has_uid, header_total}
use Rattle.mailbox_rows.proofs.RowLemmas.{with_value_total, with_value_length}
use Rattle.mailbox_rows.proofs.mailbox.Mailbox.change.Goals as goal

pub invariant_of-self : goal.invariant_of-self
invariant_of-self c =
    let rows = c.self.inside.rows in
    let total = ap header_total c.change.ensures ∙ with_value_total c.args.uid c.args.fields (lookup (has_uid c.args.uid) rows) rows refl in
    let len = ap length c.change.ensures ∙ with_value_length c.args.uid c.args.fields (lookup (has_uid c.args.uid) rows) rows in
    (omega (arith, len, c.self.invariant.0), omega (arith, total, c.self.invariant.1))
