use Rattle.std.proofs.Common.{ℕ, List, ap, sym, ◌∙◌, subst}
use Rattle.std.specs.Ordering.{nat_cmp}
use Rattle.std.specs.List.{insert}
use Rattle.std.specs.List.Sorted.{IsStrictlySortedBy}
use Rattle.std.specs.Map.{keys_of}
use Rattle.mailbox_rows.proofs.UidLemmas.{search_row, search_place}
use Rattle.mailbox_rows.proofs.rows.Rows.put.Goals as goal

pub invariant_of-self : goal.invariant_of-self
invariant_of-self c =
    let are = c.deref.ensures.value ∙ c.self.invariant.0 in
    let sorted = subst (IsStrictlySortedBy nat_cmp) (sym c.deref.ensures.value) c.self.invariant.1 in
    let found = search_row c.args.uid c.self.inside.map c.deref.result.now c.in-Ok.field-0 are sorted (rw c.in-Ok.is at c.binary_search.ensures.position) in
    (c.self.invariant.0 ∙ sym (c.insert.ensures.keys_stay found), c.self.invariant.1)

pub invariant_of-self-in-Err : goal.invariant_of-self-in-Err
invariant_of-self-in-Err c =
    let are = c.deref.ensures.value ∙ c.self.invariant.0 in
    let sorted = subst (IsStrictlySortedBy nat_cmp) (sym c.deref.ensures.value) c.self.invariant.1 in
    let keys = search_place c.args.uid c.args.row c.self.inside.map c.deref.result.now c.in-Err.place are sorted (rw c.in-Err.is at c.binary_search.ensures.position) in
    let put = c.in_ok-insert-in-Err-2.ensures.items ∙ ap (λ (uids : List ℕ). insert uids c.in-Err.place c.args.uid) (c.reserve.ensures.items ∙ sym c.deref.ensures.value) in
    let uids = put ∙ sym keys ∙ ap keys_of (sym c.in_ok-insert-in-Err.ensures.put) in
    (uids, subst (IsStrictlySortedBy nat_cmp) (sym uids) c.insert-in-Err.ensures.ordered)
