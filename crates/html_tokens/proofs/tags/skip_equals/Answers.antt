use Rattle.std.proofs.Common.{◌≡◌, ℕ, List, get_or, ap, sym, ◌∙◌}
use Rattle.html_tokens.proofs.TagValues.{equals_boundary}
use Rattle.html_tokens.proofs.tags.skip_equals.Goals as goal

pub returns-then-as_bytes-at-eq61-clause-boundary : goal.returns-then-as_bytes-at-eq61-clause-boundary
returns-then-as_bytes-at-eq61-clause-boundary c =
    let here : get_or c.args.rest.now c.prefix_len-at.result 0 ≡ 61 = ap (λ (l : List ℕ). get_or l c.prefix_len-at.result 0) (sym c.as_bytes-then-at-rest.ensures.value) ∙ c.if-as_bytes-at-eq61.true in
    equals_boundary c.args.rest.now c.prefix_len-at.result c.utf8.rest c.if-at-rest.true here
