use Rattle.std.proofs.Common.{ap, sym, ◌∙◌, refl}
use Rattle.std.specs.Map.{lookup}
use Rattle.mailbox_rows.specs.Rows.{has_uid, header_total}
use Rattle.mailbox_rows.proofs.RowLemmas.{with_value_total}
use Rattle.mailbox_rows.proofs.row_map.RowMap.change.Goals as goal

pub invariant_of-self : goal.invariant_of-self
invariant_of-self c =
    let entries = c.self.inside.rows.entries in
    let total = ap header_total c.change_in.ensures ∙ with_value_total c.args.uid c.args.fields (lookup (has_uid c.args.uid) entries) entries refl in
    c.self.invariant ∙ sym total
