use Rattle.std.proofs.Common.{◌≡◌, true, drop, refl, sym, ap, ◌∙◌}
use Rattle.std.proofs.lemmas.Str.{IsCharBoundary-start}
use Rattle.html_tokens.specs.Openings.{begins_empty_tag}
use Rattle.html_tokens.proofs.OpeningRuns.{empty_next}
use Rattle.html_tokens.proofs.markup.empty_tags_len.Goals as goal

pub loop-at-init : goal.loop-at-init
loop-at-init c = (IsCharBoundary-start c.args.rest.now c.utf8.rest, refl)

pub loop-at-preserved : goal.loop-at-preserved
loop-at-preserved c =
    let held = c.loop-at.invariant in
    let here : begins_empty_tag (drop c.loop-at.at c.args.rest.now) ≡ true = ap begins_empty_tag (sym c.range_from.ensures.value) ∙ sym c.loop-at-test.ensures in
    empty_next c.args.rest.now c.loop-at.at c.utf8.rest held.0 here held.1
