use Rattle.std.proofs.Common.{nat_lt, ap, ◌∙◌, subst, sym, rules}
use Rattle.std.proofs.lemmas.List.Sorted.{IsPartitionPoint-from_clause, IsPartitionedBy-ltb}
use Rattle.imap_commands.specs.declared.uid_set.UidRange.{UidRange}
use Rattle.imap_commands.specs.UidSets.{contains_uid, AreApart}
use Rattle.imap_commands.proofs.UidSetLemmas.{ends_ascend, found_at, found_nowhere}
use Rattle.imap_commands.proofs.uid_set.UidSet.contains.Goals as goal

pub returns-in-Some : goal.returns-in-Some
returns-in-Some c =
    let ascend : AreApart c.deref.result.now = subst AreApart (sym c.deref.ensures.value) c.self.invariant in
    let parted = IsPartitionedBy-ltb (λ (range : UidRange). range.last) c.deref.result.now c.args.uid (ends_ascend 0 _ ascend) in
    let parts = IsPartitionPoint-from_clause (λ (range : UidRange). nat_lt range.last c.args.uid) _ _ c.partition_point-next.ensures.partitioned parted (λ a r q k. search rules) in
    let same = c.deref.ensures.value ∙ sym c.deref-2.ensures.value in
    let there = rw (← same) at c.in-Some.ensures.lookup.3 in
    found_at c.args.uid _ _ c.in-Some.range.now ascend parts there.0 (there.1 _) ∙ ap (contains_uid c.args.uid) (c.deref.ensures.value ∙ c.self.view_is)

pub returns-in-None : goal.returns-in-None
returns-in-None c =
    let ascend : AreApart c.deref.result.now = subst AreApart (sym c.deref.ensures.value) c.self.invariant in
    let parted = IsPartitionedBy-ltb (λ (range : UidRange). range.last) c.deref.result.now c.args.uid (ends_ascend 0 _ ascend) in
    let parts = IsPartitionPoint-from_clause (λ (range : UidRange). nat_lt range.last c.args.uid) _ _ c.partition_point-next.ensures.partitioned parted (λ a r q k. search rules) in
    let same = c.deref.ensures.value ∙ sym c.deref-2.ensures.value in
    found_nowhere c.args.uid _ _ parts (rw same c.in-None.ensures.lookup.3) ∙ ap (contains_uid c.args.uid) (c.deref.ensures.value ∙ c.self.view_is)
