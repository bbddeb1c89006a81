use Rattle.std.proofs.Common.{◌≡◌, length, take, arith, ap, sym}
use Rattle.std.specs.List.{position_or_len}
use Rattle.std.proofs.lemmas.Bool.{false_from_ne_true}
use Rattle.std.proofs.lemmas.List.{take_all}
use Rattle.std.proofs.lemmas.List.Sums.{position_or_len_is}
use Rattle.transfer_codings.specs.Base64.{is_equals}
use Rattle.transfer_codings.proofs.base64_text.before_equals.Goals as goal

pub returns-in-Some : goal.returns-in-Some
returns-in-Some c =
    let first = c.in-Some.ensures in
    let text = c.args.text.now in
    let place : position_or_len is_equals text ≡ c.in-Some.end =
    position_or_len_is is_equals text c.in-Some.end 0 (let high = first.0.high in omega arith)
    (λ k below. false_from_ne_true _ (first.0.before k (omega arith) below)) (λ _. first.1) in
    ap (λ n. take n text) (sym place)

pub returns-in-None : goal.returns-in-None
returns-in-None c =
    let text = c.args.text.now in
    let place : position_or_len is_equals text ≡ length text =
    position_or_len_is is_equals text (length text) 0 (omega arith)
    (λ k below. false_from_ne_true _ (c.in-None.ensures k (omega arith) below)) (λ below. absurd (omega arith)) in
    sym (take_all (position_or_len is_equals text) text (omega arith))
