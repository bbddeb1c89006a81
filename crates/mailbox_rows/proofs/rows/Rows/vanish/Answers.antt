use Rattle.std.proofs.Common.{rules, tests, ℕ, not, ap, sym, ◌∙◌, subst, arith, length}
use Rattle.std.specs.Ordering.{nat_cmp}
use Rattle.std.specs.List.{filter}
use Rattle.std.specs.List.Sorted.{IsStrictlySortedBy}
use Rattle.std.specs.Map.{keys_of}
use Rattle.std.proofs.lemmas.Fn.{filter_same}
use Rattle.imap_commands.specs.UidSets.{contains_uid}
use Rattle.mailbox_rows.specs.Rows.{Rows}
use Rattle.mailbox_rows.proofs.UidLemmas.{keys_without, without_none}
use Rattle.mailbox_rows.proofs.rows.Rows.vanish.Goals as goal

pub invariant_of-self : goal.invariant_of-self
invariant_of-self c =
    let stays = λ (uid : ℕ). not (contains_uid uid c.args.set.now) in
    let kept = filter_same _ stays _ (λ x b f' k. search (rules, tests)) _ _ c.retain.ensures.filtered in
    let uids = kept ∙ ap (filter stays) c.self.invariant.0 ∙ sym (keys_without (λ uid. contains_uid uid c.args.set.now) c.self.inside.map) ∙ ap keys_of (sym c.vanish.ensures) in
    (uids, subst (IsStrictlySortedBy nat_cmp) (sym uids) c.len.ensures.ordered)

pub invariant_of-self-else-len-count : goal.invariant_of-self-else-len-count
invariant_of-self-else-len-count c =
    let len = ap (λ (rows : Rows). length rows) c.vanish.ensures in
    let same = without_none (λ uid. contains_uid uid c.args.set.now) c.self.inside.map (omega (arith, len, c.len.ensures.equals, c.len-count.ensures.equals, c.if-len-count.false)) in
    (c.self.invariant.0 ∙ ap keys_of (sym (c.vanish.ensures ∙ same)), c.self.invariant.1)
