use Rattle.std.proofs.Common.{sym, ap, ◌∙◌, arith, List, ℕ}
use Rattle.std.specs.Borrow.{Bor}
use Rattle.style_rules.specs.declared.entries.Entry.{Entry as CodeEntry}
use Rattle.style_rules.specs.Cascade.{has_property}
use Rattle.style_rules.specs.Steps.{found}
use Rattle.style_rules.proofs.Last.{entries_begin, entry_kept, entry_left, found_more}
use Rattle.style_rules.proofs.cascade.add_entries.Goals as goal

pub loop-at-init : goal.loop-at-init
loop-at-init c = record { found_are = entries_begin c.args.entries.now _; within = omega arith }

pub loop-at-preserved-in-Continue-1 : goal.loop-at-preserved-in-Continue-1
loop-at-preserved-in-Continue-1 c = record {
  found_are = entry_kept c.args.entries.now c.loop-at.at c.index-entries-at.result _ (found c.loop-at.last.items) _ c.loop-at-test.true c.loop-at.invariant.within c.index-entries-at.is c.loop-at.invariant.found_are (ap (λ (property : List ℕ). has_property property (found c.loop-at.last.items)) (sym c.deref-in-loop-at.ensures.value) ∙ ap (λ (items : List (Bor CodeEntry)). has_property c.deref-in-loop-at.result.now (found items)) (sym c.deref.ensures.value) ∙ sym c.if-not-has_property.ensures) (found_more c.loop-at.last.items _ _ c.in_ok-push.ensures.items);
  within = omega (arith, c.loop-at.invariant.within);
}

pub loop-at-preserved : goal.loop-at-preserved
loop-at-preserved c = record {
  found_are = entry_left c.args.entries.now c.loop-at.at c.index-entries-at.result _ (found c.loop-at.last.items) c.loop-at-test.true c.loop-at.invariant.within c.index-entries-at.is c.loop-at.invariant.found_are (ap (λ (property : List ℕ). has_property property (found c.loop-at.last.items)) (sym c.deref-in-loop-at.ensures.value) ∙ ap (λ (items : List (Bor CodeEntry)). has_property c.deref-in-loop-at.result.now (found items)) (sym c.deref.ensures.value) ∙ sym c.if-not-has_property.ensures);
  within = omega (arith, c.loop-at.invariant.within);
}
