use Rattle.std.proofs.Common.{◌==◌, ℕ, arith, sym, rules, tests}
use Rattle.std.proofs.lemmas.List.Sums.{position_or_len_is}
use Rattle.style_wash.proofs.declarations.find_byte.Goals as goal

pub returns-else-text-end-clause-equals : goal.returns-else-text-end-clause-equals
returns-else-text-end-clause-equals c =
    sym (position_or_len_is (λ (x : ℕ). x == c.args.byte) c.args.text.now c.loop-end.end 0 (omega arith) c.loop-end.invariant.before
    (λ _. search (rules, tests)))

pub returns-after-loop-end-clause-equals : goal.returns-after-loop-end-clause-equals
returns-after-loop-end-clause-equals c =
    sym (position_or_len_is (λ (x : ℕ). x == c.args.byte) c.args.text.now c.loop-end.end 0 (omega arith) c.loop-end.invariant.before
    (λ below. absurd (omega arith)))
