use Rattle.std.proofs.Common.{drop, sym, subst, ◌∙◌, arith}
use Rattle.html_tokens.specs.Tags.{BeginsAttribute, EndsTag}
use Rattle.html_tokens.proofs.TagPlaces.{passed_next}
use Rattle.html_tokens.proofs.TagAttributes.{passed_first, closes_here, never_closes, closing_boundary}
use Rattle.html_tokens.proofs.tags.tag_end.Goals as goal

pub loop-at-init : goal.loop-at-init
loop-at-init c = passed_first c.args.rest.now c.gap_len-at.result c.gap_len-at.ensures.boundary c.gap_len-at.ensures.next c.gap_len-at.ensures.reads

pub loop-at-preserved : goal.loop-at-preserved
loop-at-preserved c =
    let a = c.attribute-at in
    let text = c.range_from-in-loop-at in
    let after = c.range_from-in-loop-at-2 in
    let gap = c.gap_len-at-in-loop-at in
    passed_next c.args.rest.now text.result.now after.result.now c.loop-at.at gap.result a.result text.ensures.value after.ensures.value text.utf8 (subst BeginsAttribute (c.range_from.ensures.value ∙ sym text.ensures.value) (c.begins_attribute.ensures.begins c.loop-at-test.true))
    a.ensures.place a.ensures.end gap.ensures.boundary gap.ensures.next gap.ensures.reads c.loop-at.invariant

pub returns-then-at-rest-clause-boundary : goal.returns-then-at-rest-clause-boundary
returns-then-at-rest-clause-boundary c =
    let ends : EndsTag (drop c.loop-at.at c.args.rest.now) = subst EndsTag c.range_from.ensures.value (c.begins_attribute.ensures.ends c.loop-at-test.false) in
    closing_boundary c.args.rest.now c.loop-at.at c.utf8.rest c.loop-at.invariant.boundary ends c.if-at-rest.true

pub returns-then-at-rest-clause-reads : goal.returns-then-at-rest-clause-reads
returns-then-at-rest-clause-reads c =
    let ends : EndsTag (drop c.loop-at.at c.args.rest.now) = subst EndsTag c.range_from.ensures.value (c.begins_attribute.ensures.ends c.loop-at-test.false) in
    closes_here c.args.rest.now c.loop-at.at c.loop-at.invariant ends c.if-at-rest.true

pub returns-else-at-rest-clause-reads : goal.returns-else-at-rest-clause-reads
returns-else-at-rest-clause-reads c = never_closes c.args.rest.now c.loop-at.at c.loop-at.invariant (omega (arith, c.if-at-rest.false))
