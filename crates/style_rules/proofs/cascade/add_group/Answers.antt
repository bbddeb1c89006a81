use Rattle.std.proofs.Common.{sym, ap, ◌∙◌, arith, List}
use Rattle.style_rules.specs.Seen.{entries_seen}
use Rattle.style_rules.specs.Steps.{before_later, found, has_of, is_in_group}
use Rattle.style_rules.specs.declared.entries.Entry.{Entry as CodeEntry}
use Rattle.style_rules.proofs.Last.{rules_begin, rule_taken, rule_left}
use Rattle.style_rules.proofs.cascade.add_group.Goals as goal

pub loop-at-init : goal.loop-at-init
loop-at-init c = record { found_are = rules_begin (is_in_group c.args.group c.args.name.now (has_of c.args.classes.now)) c.args.rules.now _; within = omega arith }

pub loop-at-preserved-in-Continue-1 : goal.loop-at-preserved-in-Continue-1
loop-at-preserved-in-Continue-1 c = record {
  found_are = rule_taken (is_in_group c.args.group c.args.name.now (has_of c.args.classes.now)) c.args.rules.now c.loop-at.at c.index-rules-at.result _ (found c.loop-at.last.items) _ c.loop-at-test.true c.loop-at.invariant.within c.index-rules-at.is c.loop-at.invariant.found_are (sym c.if-is_for.ensures) (c.in_ok-add_entries.ensures ∙ ap (λ (es : List CodeEntry). before_later (entries_seen es) (found c.loop-at.last.items)) c.deref.ensures.value);
  within = omega (arith, c.loop-at.invariant.within);
}

pub loop-at-preserved : goal.loop-at-preserved
loop-at-preserved c = record {
  found_are = rule_left (is_in_group c.args.group c.args.name.now (has_of c.args.classes.now)) c.args.rules.now c.loop-at.at c.index-rules-at.result _ (found c.loop-at.last.items) c.loop-at-test.true c.loop-at.invariant.within c.index-rules-at.is c.loop-at.invariant.found_are (sym c.if-is_for.ensures);
  within = omega (arith, c.loop-at.invariant.within);
}
