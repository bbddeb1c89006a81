use Rattle.std.proofs.Common.{◌≡◌, ◌-◌, ℕ, not, true, false, take, drop, length, get_or, ap, ◌∙◌, arith}
use Rattle.std.specs.List.{suffix_len}
use Rattle.std.proofs.lemmas.Bool.Decides.{nat_tests}
use Rattle.std.proofs.lemmas.List.{take_all, take_rest}
use Rattle.std.proofs.lemmas.List.Sums.{suffix_len-take_no, suffix_len-take_yes}
use Rattle.style_rules.specs.Rules.{is_semicolon}
use Rattle.style_rules.proofs.rules.last_statement.Goals as goal
use Rattle.style_rules.proofs.rules.last_statement.Goals.{then-loop-start-test+else-prelude-start-ne59, else-loop-start-test}

pub loop-start-init : goal.loop-start-init
loop-start-init c =
    let text = c.args.prelude.now in
    let same = ap (suffix_len (λ c. not (is_semicolon c))) (take_all (length text) text (omega arith)) in
    record { suffix = omega (arith, same); within = omega arith }

pub loop-start-preserved : goal.loop-start-preserved
loop-start-preserved c =
    let text = c.args.prelude.now in
    let start = c.loop-start.start in
    let other : not (is_semicolon (get_or text (start - 1) 0)) ≡ true = grind (arith, nat_tests) in
    let one = suffix_len-take_yes (λ c. not (is_semicolon c)) text start 0 c.loop-start-test.true c.loop-start.invariant.within other in
    record { suffix = omega (arith, one, c.loop-start.invariant.suffix, c.loop-start-test.true); within = omega arith }

pub returns : goal.returns
returns c =
    let text = c.args.prelude.now in
    let start = c.loop-start.start in
    let none : suffix_len (λ c. not (is_semicolon c)) (take start text) ≡ 0 = elim c.loop-start-test.branch [
      | then-loop-start-test+else-prelude-start-ne59 w ↦
          (let semicolon : not (is_semicolon (get_or text (start - 1) 0)) ≡ false = grind (arith, nat_tests) in
          suffix_len-take_no (λ c. not (is_semicolon c)) text start 0 w.loop-start-test.true c.loop-start.invariant.within semicolon)
      | else-loop-start-test w ↦
          (let zero : start ≡ 0 = omega arith in ap (λ (n : ℕ). suffix_len (λ c. not (is_semicolon c)) (take n text)) zero)
    ] in
    let at : start ≡ length text - suffix_len (λ c. not (is_semicolon c)) text = omega (arith, none, c.loop-start.invariant.suffix) in
    take_rest text start ∙ ap (λ (n : ℕ). drop n text) at
