use Rattle.std.proofs.Common.{◌≡◌, ℕ, List, false, take, drop, IsCharBoundary, ap, sym, subst, ◌∙◌, arith}
use Rattle.html_tokens.specs.Cuts.{LacksByte, BeginsWithByte}
use Rattle.html_tokens.specs.Scanned.{opens_markup}
use Rattle.html_syntax.specs.States.State.{Data}
use Rattle.html_tokens.proofs.Runs.{emits}
use Rattle.html_tokens.proofs.Marks.{kept_first, kept_next, past_mark}
use Rattle.html_tokens.proofs.TextRuns.{text_of, data_marks, Alone}
use Rattle.html_tokens.proofs.text.text_end.Goals as goal

pub loop-at-init : goal.loop-at-init
loop-at-init c =
    let p = c.skip_to_byte-at.ensures in
    kept_first (emits Data) 60 text_of Alone data_marks c.args.rest.now c.skip_to_byte-at.result c.utf8.rest p.boundary p.lacks p.begins

pub range_from-requires-in-loop-at : goal.range_from-requires-in-loop-at
range_from-requires-in-loop-at c _ = past_mark 60 (omega arith) c.args.rest.now c.loop-at.at c.utf8.rest c.loop-at-test.true c.loop-at.invariant.1

pub loop-at-preserved : goal.loop-at-preserved
loop-at-preserved c =
    let p = c.skip_to_byte.ensures in
    let rest_is = c.range_from-in-loop-at.ensures.value in
    let alone : opens_markup (drop c.loop-at.at c.args.rest.now) ≡ false = ap opens_markup (sym c.range_from.ensures.value) ∙ sym c.if-not-opens_markup.ensures in
    kept_next (emits Data) 60 text_of Alone data_marks _ c.args.rest.now c.loop-at.at c.skip_to_byte.result c.utf8.rest c.loop-at-test.true alone
    (subst (λ (l : List ℕ). IsCharBoundary l c.skip_to_byte.result) rest_is p.boundary)
    (subst (λ (l : List ℕ). LacksByte 60 (take c.skip_to_byte.result l)) rest_is p.lacks)
    (subst (λ (l : List ℕ). BeginsWithByte 60 (drop c.skip_to_byte.result l)) rest_is p.begins)
    c.loop-at.invariant
