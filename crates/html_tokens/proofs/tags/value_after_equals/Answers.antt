use Rattle.std.proofs.Common.{◌≡◌, ℕ, drop, IsCharBoundary, ap, subst, sym, ◌∙◌}
use Rattle.std.specs.List.{prefix_len}
use Rattle.html_tokens.specs.Tags.{is_blank, BeginsOutside}
use Rattle.html_tokens.proofs.TagRuns.{small_boundary, prefix_outside}
use Rattle.html_tokens.proofs.TagValues.{space_small}
use Rattle.html_tokens.proofs.tags.value_after_equals.Goals as goal

pub range_from-requires : goal.range_from-requires
range_from-requires c _ =
    let is : c.prefix_len-at.result ≡ prefix_len is_blank c.args.rest.now = c.prefix_len-at.ensures.value ∙ ap (prefix_len is_blank) c.as_bytes.ensures.value in
    subst (IsCharBoundary c.args.rest.now) (sym is) (small_boundary is_blank space_small c.args.rest.now c.utf8.rest)

pub value_at_start-place-requires : goal.value_at_start-place-requires
value_at_start-place-requires c =
    let is : c.prefix_len-at.result ≡ prefix_len is_blank c.args.rest.now = c.prefix_len-at.ensures.value ∙ ap (prefix_len is_blank) c.as_bytes.ensures.value in
    subst (BeginsOutside is_blank) (sym (c.range_from.ensures.value ∙ ap (λ (k : ℕ). drop k c.args.rest.now) is)) (prefix_outside is_blank c.args.rest.now)
