use Rattle.std.proofs.Common.{sym, arith}
use Rattle.std.proofs.lemmas.Bool.{false_from_ne_true}
use Rattle.std.proofs.lemmas.List.Sums.{position_or_len_is}
use Rattle.std.proofs.Common.{◌==◌}
use Rattle.style_rules.proofs.blocks.find_byte.Goals as goal

pub returns-in-Some-clause-equals : goal.returns-in-Some-clause-equals
returns-in-Some-clause-equals c =
    let first = c.in-Some.ensures in
    let high = first.0.high in
    sym (position_or_len_is (λ b. b == c.args.byte) c.args.text.now c.in-Some.at 0 (omega arith)
    (λ k below. false_from_ne_true _ (first.0.before k (omega arith) below)) (λ _. first.1))

pub returns-in-None-clause-equals : goal.returns-in-None-clause-equals
returns-in-None-clause-equals c =
    sym (position_or_len_is (λ b. b == c.args.byte) c.args.text.now _ 0 (omega arith)
    (λ k below. false_from_ne_true _ (c.in-None.ensures k (omega arith) below)) (λ below. absurd (omega arith)))
