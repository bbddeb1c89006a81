use Rattle.style_rules.proofs.Words.{one_more_known}
use Rattle.style_rules.proofs.cascade.rule_classes.Goals as goal

pub loop-rule-preserved : goal.loop-rule-preserved
loop-rule-preserved c =
    one_more_known c.args.rules.now c.loop-rule.rule-index c.rule-item.result c.loop-rule.known c.add_class.new.known c.loop-rule-test.true c.rule-item.is c.loop-rule.invariant c.in_ok-add_class.ensures
