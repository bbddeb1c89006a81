use Rattle.std.proofs.Common.{◌≡◌, ℕ, take, drop, IsCharBoundary, ap, sym, subst, ◌∙◌}
use Rattle.std.specs.List.{prefix_len}
use Rattle.html_syntax.specs.States.State.{TagName, BeforeName}
use Rattle.html_syntax.specs.Tokenizer.{read}
use Rattle.html_references.specs.Input.{input}
use Rattle.html_tokens.specs.Tags.{in_class, extend_name}
use Rattle.html_tokens.specs.declared.tags.Class.TheVariants as class
use Rattle.html_tokens.proofs.TagRuns.{wide_boundary}
use Rattle.html_tokens.proofs.TagNames.{tag_named, name_wide}
use Rattle.html_tokens.proofs.tags.name_end.Goals as goal

pub returns-clause-boundary : goal.returns-clause-boundary
returns-clause-boundary c =
    let rest = c.args.rest.now in
    let n : c.prefix_len.result ≡ prefix_len (in_class class.TagName) rest = c.prefix_len.ensures.value ∙ ap (prefix_len (in_class class.TagName)) c.as_bytes.ensures.value in
    subst (IsCharBoundary rest) (sym n) (wide_boundary (in_class class.TagName) name_wide.wide rest)

pub returns-clause-reads : goal.returns-clause-reads
returns-clause-reads c tag =
    let rest = c.args.rest.now in
    let n : c.prefix_len.result ≡ prefix_len (in_class class.TagName) rest = c.prefix_len.ensures.value ∙ ap (prefix_len (in_class class.TagName)) c.as_bytes.ensures.value in
    subst (λ (k : ℕ). read (TagName tag) 0 (input rest) ≡ read (BeforeName (extend_name tag (input (take k rest)))) 0 (input (drop k rest))) (sym n) (tag_named tag rest c.utf8.rest)
