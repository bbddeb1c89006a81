use Rattle.std.proofs.Common.{◌<◌, ◌+◌, length, map, ap, refl, arith}
use Rattle.std.proofs.lemmas.List.{take_rest, length-drop}
use Rattle.style_wash.specs.Declarations.{declarations}
use Rattle.style_rules.specs.Rules.{entry_of}
use Rattle.style_rules.proofs.RuleSteps.{selectors_end, selectors_go_on}
use Rattle.style_rules.proofs.rules.Rules.add_rules.Goals as goal

pub returns-then-size-rest : goal.returns-then-size-rest
returns-then-size-rest c =
    selectors_end c.selectors.self c.add_rule.new.self _ (map entry_of (declarations c.args.style.now)) c.selectors.rest.now _ c.find_byte-size.result
    c.find_byte-size.ensures.equals c.if-size-rest.true refl c.selectors.invariant.whole c.in_ok-add_rule.ensures

pub selectors-preserved : goal.selectors-preserved
selectors-preserved c =
    let rest = c.selectors.rest.now in
    let size = c.find_byte-size.result in
    let lt : size < length rest = omega (arith, c.find_byte-size.ensures.within, c.if-size-rest.false) in
    record {
      whole = selectors_go_on c.selectors.self c.add_rule.new.self _ (map entry_of (declarations c.args.style.now)) rest _ _ size
          c.find_byte-size.ensures.equals lt refl (take_rest rest _) c.selectors.invariant.whole c.in_ok-add_rule.ensures;
      short = omega (arith, ap length (take_rest rest (size + 1)), length-drop (size + 1) rest, c.selectors.invariant.short);
    }
