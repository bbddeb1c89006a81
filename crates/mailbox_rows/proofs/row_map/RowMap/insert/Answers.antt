use Rattle.std.proofs.Common.{◌≡◌, ap, ◌∙◌, arith}
use Rattle.std.specs.Map.{lookup}
use Rattle.std.specs.Option.{unwrap_or, option_map}
use Rattle.std.proofs.lemmas.Cmp.{nat_cmp_total}
use Rattle.std.proofs.lemmas.Map.Entries.{sum_by-insert_entry}
use Rattle.mailbox_rows.specs.Rows.{has_uid, header_len, header_total}
use Rattle.mailbox_rows.proofs.row_map.RowMap.insert.Goals as goal

pub overflow_sub-self : goal.overflow_sub-self
overflow_sub-self c =
    let entries = c.self.inside.rows.entries in
    let sum = sum_by-insert_entry header_len nat_cmp_total entries c.args.uid c.args.row c.insert.ensures.was_ordered in
    let old : c.old_len-old.result ≡ unwrap_or (option_map header_len (lookup (has_uid c.args.uid) entries)) 0 = c.old_len-old.ensures ∙ ap (λ r. unwrap_or (option_map header_len r) 0) c.in_ok-insert.ensures.old in
    omega (arith, sum, old, c.self.invariant, c.header_len-len.ensures)

pub invariant_of-self-2 : goal.invariant_of-self-2
invariant_of-self-2 c =
    let entries = c.self.inside.rows.entries in
    let sum = sum_by-insert_entry header_len nat_cmp_total entries c.args.uid c.args.row c.insert.ensures.was_ordered in
    let old : c.old_len-old.result ≡ unwrap_or (option_map header_len (lookup (has_uid c.args.uid) entries)) 0 = c.old_len-old.ensures ∙ ap (λ r. unwrap_or (option_map header_len r) 0) c.in_ok-insert.ensures.old in
    let total = ap header_total c.in_ok-insert.ensures.entries in
    omega (arith, sum, old, total, c.self.invariant, c.header_len-len.ensures)
