use Rattle.std.proofs.Common.{length, sym, arith}
use Rattle.std.proofs.lemmas.List.Sums.{position_or_len_is}
use Rattle.style_wash.specs.Characters.{is_white}
use Rattle.style_rules.proofs.blocks.find_white.Goals as goal

pub returns-then-is_ascii_whitespace-clause-equals : goal.returns-then-is_ascii_whitespace-clause-equals
returns-then-is_ascii_whitespace-clause-equals c =
    sym (position_or_len_is is_white c.args.text.now c.loop-i.i 0 (omega (arith, c.loop-i-test.true)) c.loop-i.invariant (λ _. sym c.if-is_ascii_whitespace.ensures.value))

pub returns-clause-equals : goal.returns-clause-equals
returns-clause-equals c =
    sym (position_or_len_is is_white c.args.text.now (length c.args.text.now) 0 (omega arith) (λ k below. c.loop-i.invariant k (omega (arith, c.loop-i-test.false))) (λ below. absurd (omega arith)))
