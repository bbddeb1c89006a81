use Rattle.std.proofs.Common.{◌+◌, ℕ, List, Some, None, IsCharBoundary, ap, subst, ◌∙◌}
use Rattle.html_tokens.specs.Attributes.{equals_end}
use Rattle.html_tokens.proofs.TagAttributes.{later}
use Rattle.html_tokens.proofs.TagPlaces.{name_place, place_is, value_is}
use Rattle.html_tokens.proofs.tags.attribute.Goals as goal

pub range_from-requires : goal.range_from-requires
range_from-requires c _ = (name_place c.args.rest.now c.as_bytes.result.now c.prefix_len-name.result c.as_bytes.ensures.value c.utf8.rest c.requires c.prefix_len-name.ensures.value).1

pub returns-in-None-clause-name : goal.returns-in-None-clause-name
returns-in-None-clause-name c = (name_place c.args.rest.now c.as_bytes.result.now c.prefix_len-name.result c.as_bytes.ensures.value c.utf8.rest c.requires c.prefix_len-name.ensures.value).1

pub returns-in-None-clause-value : goal.returns-in-None-clause-value
returns-in-None-clause-value c = (name_place c.args.rest.now c.as_bytes.result.now c.prefix_len-name.result c.as_bytes.ensures.value c.utf8.rest c.requires c.prefix_len-name.ensures.value).1

pub returns-in-None-clause-value_end : goal.returns-in-None-clause-value_end
returns-in-None-clause-value_end c = (name_place c.args.rest.now c.as_bytes.result.now c.prefix_len-name.result c.as_bytes.ensures.value c.utf8.rest c.requires c.prefix_len-name.ensures.value).1

pub returns-in-None-clause-end : goal.returns-in-None-clause-end
returns-in-None-clause-end c = (name_place c.args.rest.now c.as_bytes.result.now c.prefix_len-name.result c.as_bytes.ensures.value c.utf8.rest c.requires c.prefix_len-name.ensures.value).1

pub returns-in-Some-clause-name : goal.returns-in-Some-clause-name
returns-in-Some-clause-name c = (name_place c.args.rest.now c.as_bytes.result.now c.prefix_len-name.result c.as_bytes.ensures.value c.utf8.rest c.requires c.prefix_len-name.ensures.value).1

pub returns-in-None-clause-place : goal.returns-in-None-clause-place
returns-in-None-clause-place c =
    place_is c.args.rest.now (1 + c.prefix_len-name.result) None (name_place c.args.rest.now c.as_bytes.result.now c.prefix_len-name.result c.as_bytes.ensures.value c.utf8.rest c.requires c.prefix_len-name.ensures.value).0 (c.in-None.ensures.place ∙ ap equals_end c.range_from.ensures.value)

-- the offset after the `=`
from : (c : goal.After-struct_known-in-Some-2-1) → IsCharBoundary c.args.rest.now (1 + c.prefix_len-name.result + c.in-Some.equals)
from c =
    later c.args.rest.now (1 + c.prefix_len-name.result) c.in-Some.equals (name_place c.args.rest.now c.as_bytes.result.now c.prefix_len-name.result c.as_bytes.ensures.value c.utf8.rest c.requires c.prefix_len-name.ensures.value).1 (subst (λ (l : List ℕ). IsCharBoundary l c.in-Some.equals) c.range_from.ensures.value c.in-Some.ensures.boundary)

pub returns-in-Some-clause-value : goal.returns-in-Some-clause-value
returns-in-Some-clause-value c =
    let place = c.value_after_equals-place in
    later c.args.rest.now (1 + c.prefix_len-name.result + c.in-Some.equals) place.result.start (from c) (subst (λ (l : List ℕ). IsCharBoundary l place.result.start) c.range_from-in-Some.ensures.value place.ensures.start)

pub returns-in-Some-clause-value_end : goal.returns-in-Some-clause-value_end
returns-in-Some-clause-value_end c =
    let place = c.value_after_equals-place in
    later c.args.rest.now (1 + c.prefix_len-name.result + c.in-Some.equals) place.result.end (from c) (subst (λ (l : List ℕ). IsCharBoundary l place.result.end) c.range_from-in-Some.ensures.value place.ensures.end)

pub returns-in-Some-clause-place : goal.returns-in-Some-clause-place
returns-in-Some-clause-place c =
    let name = 1 + c.prefix_len-name.result in
    let rest = c.args.rest.now in
    value_is rest c.range_from-in-Some.result.now name c.in-Some.equals c.value_after_equals-place.result c.range_from-in-Some.ensures.value c.value_after_equals-place.ensures.place
    ∙ place_is rest name (Some c.in-Some.equals) (name_place c.args.rest.now c.as_bytes.result.now c.prefix_len-name.result c.as_bytes.ensures.value c.utf8.rest c.requires c.prefix_len-name.ensures.value).0 (c.in-Some.ensures.place ∙ ap equals_end c.range_from.ensures.value)
