use Rattle.std.proofs.Common.{ap, sym, ◌∙◌}
use Rattle.std.specs.Map.{keys_of, lookup}
use Rattle.mailbox_rows.specs.Rows.{has_uid}
use Rattle.mailbox_rows.proofs.UidLemmas.{with_value_keys}
use Rattle.mailbox_rows.proofs.rows.Rows.change.Goals as goal

pub invariant_of-self : goal.invariant_of-self
invariant_of-self c =
    let rows = c.self.inside.map in
    let keys = ap keys_of c.change.ensures ∙ with_value_keys c.args.uid c.args.fields (lookup (has_uid c.args.uid) rows) rows in
    (c.self.invariant.0 ∙ sym keys, c.self.invariant.1)
