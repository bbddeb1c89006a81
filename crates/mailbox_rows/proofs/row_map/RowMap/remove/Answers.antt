use Rattle.std.proofs.Common.{◌≡◌, ap, ◌∙◌, arith}
use Rattle.std.specs.Map.{lookup}
use Rattle.std.specs.Option.{unwrap_or, option_map}
use Rattle.std.proofs.lemmas.Map.Entries.{sum_by-remove_entry}
use Rattle.mailbox_rows.specs.Rows.{has_uid, header_len, header_total}
use Rattle.mailbox_rows.proofs.row_map.RowMap.remove.Goals as goal

pub overflow_sub-self : goal.overflow_sub-self
overflow_sub-self c =
    let entries = c.self.inside.rows.entries in
    let sum = sum_by-remove_entry header_len (has_uid c.args.uid) entries in
    let len : c.old_len-len.result ≡ unwrap_or (option_map header_len (lookup (has_uid c.args.uid) entries)) 0 = c.old_len-len.ensures ∙ ap (λ r. unwrap_or (option_map header_len r) 0) c.remove.ensures.value in
    omega (arith, sum, len, c.self.invariant)

pub invariant_of-self : goal.invariant_of-self
invariant_of-self c =
    let entries = c.self.inside.rows.entries in
    let sum = sum_by-remove_entry header_len (has_uid c.args.uid) entries in
    let len : c.old_len-len.result ≡ unwrap_or (option_map header_len (lookup (has_uid c.args.uid) entries)) 0 = c.old_len-len.ensures ∙ ap (λ r. unwrap_or (option_map header_len r) 0) c.remove.ensures.value in
    let total = ap header_total c.remove.ensures.entries in
    omega (arith, sum, len, total, c.self.invariant)
