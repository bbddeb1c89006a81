use Rattle.std.proofs.Common.{◌≡◌, [], sym, ◌∙◌}
use Rattle.html_tokens.proofs.TagPlaces.{found_first, found_none}
use Rattle.html_tokens.proofs.start_tag.AttributeReader.next.Goals as goal

pub returns-then-not-begins_attribute : goal.returns-then-not-begins_attribute
returns-then-not-begins_attribute c =
    let none : c.args.self.now ≡ [] =
    sym c.self.view_is
    ∙ found_none c.self.inside.rest.now c.range_from-text.result.now c.gap_len.result c.gap_len.ensures.value c.range_from-text.ensures.value (c.begins_attribute.ensures.ends c.if-not-begins_attribute.true) in
    (none, none)

pub returns : goal.returns
returns c =
    let place = c.attribute-place in
    sym c.self.view_is
    ∙ found_first c.self.inside.rest.now c.range_from-text.result.now c.range.result.now c.range-2.result.now c.range_from-self-inside.result.now c.gap_len.result place.result c.gap_len.ensures.value c.range_from-text.ensures.value
    (c.begins_attribute.ensures.begins c.if-not-begins_attribute.false) place.ensures.place c.range.ensures.value c.range-2.ensures.value c.range_from-self-inside.ensures.value
