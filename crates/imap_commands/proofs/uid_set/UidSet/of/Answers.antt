use Rattle.std.proofs.Common.{◌||◌, sym, ap, ◌∙◌, arith, rules, take_all, subst, get_or}
use Rattle.std.specs.List.Sorted.{IsNonDecreasingBy}
use Rattle.std.proofs.lemmas.List.{get_or_default}
use Rattle.std.proofs.lemmas.List.Folds.{list_any_more}
use Rattle.std.proofs.lemmas.List.Sorted.{IsNonDecreasingBy-from_sort_by_key, list_any-IsPermutation}
use Rattle.imap_commands.specs.declared.uid_set.UidRange.{UidRange}
use Rattle.imap_commands.specs.UidSets.{in_range, contains_uid, BeginBy}
use Rattle.imap_commands.proofs.UidSetLemmas.{begin_later}
use Rattle.imap_commands.proofs.uid_set.UidSet.of.Goals as goal

pub loop-range-preserved : goal.loop-range-preserved
loop-range-preserved c =
    let sorted : IsNonDecreasingBy (λ (range : UidRange). range.first) c.deref-range-items.result.now =
    rw c.deref-range-items.ensures.value (IsNonDecreasingBy-from_sort_by_key (λ (range : UidRange). range.first) _ c.sort_unstable_by_key.ensures.sorted (λ a r q k. search rules)) in
    let at = c.loop-range.range-index in
    let none : UidRange = record { first = 0; last = 0 } in
    let range = get_or c.deref-range-items.result.now at none in
    record {
      apart = c.in_ok-add.ensures.apart;
      latest = λ k d le within.
          subst (λ (range : UidRange). BeginBy range.first c.add.new.merged.items) (get_or_default c.deref-range-items.result.now k none d within)
          (begin_later _ _ _ (sorted at k none (omega arith) within) c.in_ok-add.ensures.latest);
      members = λ uid.
          c.in_ok-add.ensures.members uid
          ∙ ap (λ b. b || in_range uid range) (c.loop-range.invariant.members uid)
          ∙ sym (list_any_more (in_range uid) c.deref-range-items.result.now at none c.loop-range-test.true);
    }

pub returns : goal.returns
returns c = λ uid.
    c.loop-range.invariant.members uid
    ∙ ap (contains_uid uid) (take_all _ _ c.loop-range-test.false ∙ c.deref-range-items.ensures.value)
    ∙ sym (list_any-IsPermutation (in_range uid) _ _ c.sort_unstable_by_key.ensures.permutation)
