use Rattle.std.proofs.Common.{◌≡◌, IsCharBoundary, ap, sym, subst, ◌∙◌}
use Rattle.std.proofs.lemmas.Str.{IsCharBoundary-start}
use Rattle.std.specs.List.{prefix_len}
use Rattle.html_tokens.specs.Tags.{in_class}
use Rattle.html_tokens.specs.declared.tags.Class.TheVariants as class
use Rattle.html_tokens.proofs.TagValues.{first_boundary, bare_boundary}
use Rattle.html_tokens.proofs.TagPlaces.{quoted_is}
use Rattle.html_tokens.proofs.tags.value_at_start.Goals as goal

pub range_from-requires : goal.range_from-requires
range_from-requires c _ = first_boundary c.args.rest.now c.utf8.rest (sym c.is_quoted.ensures ∙ c.if-is_quoted.true)

pub returns-then-is_quoted-clause-start : goal.returns-then-is_quoted-clause-start
returns-then-is_quoted-clause-start c = first_boundary c.args.rest.now c.utf8.rest (sym c.is_quoted.ensures ∙ c.if-is_quoted.true)

pub returns-then-is_quoted-clause-place : goal.returns-then-is_quoted-clause-place
returns-then-is_quoted-clause-place c =
    let inner = c.cut_at_byte-inner in
    quoted_is c.args.rest.now c.as_bytes.result.now c.range_from.result.now inner.result.len inner.result.end c.as_bytes.ensures.value c.range_from.ensures.value (sym c.is_quoted.ensures ∙ c.if-is_quoted.true)
    inner.ensures.len inner.ensures.end inner.ensures.lacks inner.ensures.ends

pub returns-else-is_quoted-clause-start : goal.returns-else-is_quoted-clause-start
returns-else-is_quoted-clause-start c = IsCharBoundary-start c.args.rest.now c.utf8.rest

pub returns-else-is_quoted-clause-end : goal.returns-else-is_quoted-clause-end
returns-else-is_quoted-clause-end c =
    let is : c.prefix_len-len.result ≡ prefix_len (in_class class.UnquotedValue) c.args.rest.now = c.prefix_len-len.ensures.value ∙ ap (prefix_len (in_class class.UnquotedValue)) c.as_bytes-else-is_quoted.ensures.value in
    subst (IsCharBoundary c.args.rest.now) (sym is) (bare_boundary c.args.rest.now)

pub returns-else-is_quoted-clause-after : goal.returns-else-is_quoted-clause-after
returns-else-is_quoted-clause-after c = returns-else-is_quoted-clause-end c
