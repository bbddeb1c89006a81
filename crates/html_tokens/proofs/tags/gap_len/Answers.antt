use Rattle.std.proofs.Common.{◌≡◌, ℕ, drop, IsCharBoundary, refl, ap, subst, sym, ◌∙◌}
use Rattle.std.specs.List.{prefix_len}
use Rattle.html_syntax.specs.States.State.{BeforeName}
use Rattle.html_syntax.specs.Tokenizer.{read}
use Rattle.html_references.specs.Input.{input}
use Rattle.html_tokens.specs.Tags.{in_class, BeginsOutside}
use Rattle.html_tokens.specs.declared.tags.Class.TheVariants as class
use Rattle.html_tokens.proofs.TagRuns.{small_boundary, prefix_outside, passed}
use Rattle.html_tokens.proofs.TagAttributes.{is_gap, gap_small, gap_bytes_small, gap_passed}
use Rattle.html_tokens.proofs.tags.gap_len.Goals as goal

pub returns-clause-boundary : goal.returns-clause-boundary
returns-clause-boundary c =
    let is : c.prefix_len.result ≡ prefix_len (in_class class.Gap) c.args.rest.now = c.prefix_len.ensures.value ∙ ap (prefix_len (in_class class.Gap)) c.as_bytes.ensures.value in
    subst (IsCharBoundary c.args.rest.now) (sym is) (small_boundary (in_class class.Gap) gap_bytes_small c.args.rest.now c.utf8.rest)

pub returns-clause-next : goal.returns-clause-next
returns-clause-next c =
    let is : c.prefix_len.result ≡ prefix_len (in_class class.Gap) c.args.rest.now = c.prefix_len.ensures.value ∙ ap (prefix_len (in_class class.Gap)) c.as_bytes.ensures.value in
    subst (λ (k : ℕ). BeginsOutside (in_class class.Gap) (drop k c.args.rest.now)) (sym is) (prefix_outside (in_class class.Gap) c.args.rest.now)

pub returns-clause-reads : goal.returns-clause-reads
returns-clause-reads c tag =
    let is : c.prefix_len.result ≡ prefix_len (in_class class.Gap) c.args.rest.now = c.prefix_len.ensures.value ∙ ap (prefix_len (in_class class.Gap)) c.as_bytes.ensures.value in
    passed (BeforeName tag) is_gap (gap_passed tag) refl gap_small c.args.rest.now c.utf8.rest ∙ ap (λ (k : ℕ). read (BeforeName tag) 0 (input (drop k c.args.rest.now))) (sym is)
