use Rattle.std.proofs.Common.{arith, sym, rules, tests}
use Rattle.std.proofs.lemmas.List.Sums.{position_or_len_is}
use Rattle.style_wash.specs.Items.{begins_unit}
use Rattle.style_wash.proofs.items.unit_offset.Goals as goal

pub returns-else-not-begins_unit-clause-equals : goal.returns-else-not-begins_unit-clause-equals
returns-else-not-begins_unit-clause-equals c =
    sym (position_or_len_is begins_unit c.args.text.now c.loop-end.end 0 (omega arith) c.loop-end.invariant.before
    (λ _. search (rules, tests)))

pub returns-after-loop-end-clause-equals : goal.returns-after-loop-end-clause-equals
returns-after-loop-end-clause-equals c =
    sym (position_or_len_is begins_unit c.args.text.now c.loop-end.end 0 (omega arith) c.loop-end.invariant.before
    (λ below. absurd (omega arith)))
