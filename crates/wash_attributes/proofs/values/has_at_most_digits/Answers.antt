use Rattle.std.proofs.Common.{◌≡◌, ◌-◌, sym, ap, ◌∙◌, arith}
use Rattle.html_rules.specs.Values.{has_at_most_digits}
use Rattle.wash_attributes.proofs.Digits.{next_digit, no_digit, no_more}
use Rattle.wash_attributes.proofs.values.has_at_most_digits.Goals as goal

pub loop-i-init : goal.loop-i-init
loop-i-init c =
    let all : c.args.count - 0 ≡ c.args.count = omega arith in
    ap (λ n. has_at_most_digits n c.args.bytes.now) all

pub loop-i-preserved : goal.loop-i-preserved
loop-i-preserved c =
    next_digit c.args.count c.loop-i._i c.loop-i.rest.now c.in-Some.more.now c.loop-i-test.true c.in-Some.ensures.0 c.in-Some.ensures.1
    ∙ c.loop-i.invariant

pub returns-in-None : goal.returns-in-None
returns-in-None c =
    c.ends_number.ensures
    ∙ sym (no_digit (c.args.count - c.loop-i._i) c.loop-i.rest.now c.in-None.ensures)
    ∙ c.loop-i.invariant

pub returns : goal.returns
returns c =
    let none : 0 ≡ c.args.count - c.loop-i._i = omega (arith, c.loop-i-test.false) in
    c.ends_number-2.ensures
    ∙ sym (no_more c.loop-i.rest.now)
    ∙ ap (λ n. has_at_most_digits n c.loop-i.rest.now) none
    ∙ c.loop-i.invariant
