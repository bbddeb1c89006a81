use Rattle.std.proofs.Common.{◌≡◌, ℕ, List, ◌++◌, false, true, take, drop, IsCharBoundary, ap, sym, subst, ◌∙◌, arith}
use Rattle.html_syntax.specs.Token.{Token}
use Rattle.html_syntax.specs.Tokenizer.{chars}
use Rattle.html_references.specs.Input.{input, read_as}
use Rattle.html_tokens.specs.Cuts.{LacksByte, BeginsWithByte}
use Rattle.html_tokens.specs.Contents.{content_read_as, begins_end_tag}
use Rattle.html_tokens.proofs.Runs.{emits}
use Rattle.html_tokens.proofs.Marks.{kept_first, kept_next, past_mark}
use Rattle.html_tokens.proofs.RawRuns.{inside, GoesOn, content_marks, content_closed, content_over}
use Rattle.html_tokens.proofs.raw.element_end.Goals as goal

pub loop-at-init : goal.loop-at-init
loop-at-init c =
    let p = c.skip_to_byte-at.ensures in
    let content = c.args.content in
    kept_first (emits (inside content)) 60 (read_as (content_read_as content)) (GoesOn content) (content_marks content c.requires) c.args.rest.now c.skip_to_byte-at.result c.utf8.rest p.boundary p.lacks p.begins

pub range_from-requires-in-loop-at : goal.range_from-requires-in-loop-at
range_from-requires-in-loop-at c _ = past_mark 60 (omega arith) c.args.rest.now c.loop-at.at c.utf8.rest c.loop-at-test.true c.loop-at.invariant.1

pub loop-at-preserved : goal.loop-at-preserved
loop-at-preserved c =
    let p = c.skip_to_byte.ensures in
    let content = c.args.content in
    let rest_is = c.range_from-in-loop-at.ensures.value in
    let goes : begins_end_tag content (drop c.loop-at.at c.args.rest.now) ≡ false = ap (begins_end_tag content) (sym c.range_from.ensures.value) ∙ sym c.if-not-begins_end_tag.ensures in
    kept_next (emits (inside content)) 60 (read_as (content_read_as content)) (GoesOn content) (content_marks content c.requires) _ c.args.rest.now c.loop-at.at c.skip_to_byte.result c.utf8.rest c.loop-at-test.true goes
    (subst (λ (l : List ℕ). IsCharBoundary l c.skip_to_byte.result) rest_is p.boundary)
    (subst (λ (l : List ℕ). LacksByte 60 (take c.skip_to_byte.result l)) rest_is p.lacks)
    (subst (λ (l : List ℕ). BeginsWithByte 60 (drop c.skip_to_byte.result l)) rest_is p.begins)
    c.loop-at.invariant

pub returns-else-not-begins_end_tag-clause-reads : goal.returns-else-not-begins_end_tag-clause-reads
returns-else-not-begins_end_tag-clause-reads c =
    let content = c.args.content in
    let text = chars (read_as (content_read_as content) (input (take c.loop-at.at c.args.rest.now))) in
    let ends : begins_end_tag content (drop c.loop-at.at c.args.rest.now) ≡ true = ap (begins_end_tag content) (sym c.range_from.ensures.value) ∙ sym c.begins_end_tag.ensures ∙ c.if-not-begins_end_tag.false in
    c.loop-at.invariant.2 ∙ ap (λ (l : List Token). text ++ l) (content_closed content (drop c.loop-at.at c.args.rest.now) ends)

pub returns-after-loop-at-clause-reads : goal.returns-after-loop-at-clause-reads
returns-after-loop-at-clause-reads c =
    let content = c.args.content in
    let text = chars (read_as (content_read_as content) (input (take c.loop-at.at c.args.rest.now))) in
    c.loop-at.invariant.2 ∙ ap (λ (l : List Token). text ++ l) (content_over content c.args.rest.now c.loop-at.at (omega (arith, c.loop-at-test.false)))
