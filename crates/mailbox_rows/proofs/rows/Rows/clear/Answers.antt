use Rattle.std.proofs.Common.{ap, sym, ◌∙◌, subst}
use Rattle.std.specs.Ordering.{nat_cmp}
use Rattle.std.specs.List.Sorted.{IsStrictlySortedBy}
use Rattle.std.specs.Map.{keys_of}
use Rattle.mailbox_rows.proofs.rows.Rows.clear.Goals as goal

pub invariant_of-self : goal.invariant_of-self
unfolding IsStrictlySortedBy
invariant_of-self c = (c.clear-2.ensures.items ∙ ap keys_of (sym c.clear.ensures), subst (IsStrictlySortedBy nat_cmp) (sym c.clear-2.ensures.items) tt)
