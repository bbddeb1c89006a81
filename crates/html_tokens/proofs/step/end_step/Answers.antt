use Rattle.std.proofs.Common.{◌≡◌, ℕ, List, take, drop, true, refl, ap, subst, ◌∙◌, IsCharBoundary, arith}
use Rattle.html_syntax.specs.States.{Tag, new_tag}
use Rattle.html_syntax.specs.States.State.{TagName, BeforeName}
use Rattle.html_syntax.specs.Tokenizer.{read}
use Rattle.html_references.specs.Input.{input}
use Rattle.html_tokens.specs.Tags.{extend_name, with_attributes, tokens_after_tag}
use Rattle.html_tokens.specs.declared.mode.Mode.TheVariants as mode
use Rattle.html_tokens.specs.declared.span.Part.TheVariants as part
use Rattle.html_tokens.proofs.StepRuns.{tag_found, end_read}
use Rattle.html_tokens.proofs.step.end_step.Goals as goal

pub returns-in-Some : goal.returns-in-Some
returns-in-Some c =
    let rest = c.args.rest.now in
    let len = c.name_end-name_len.result in
    let n = c.in-Some.after in
    let inside_is : c.range_from-inside.result.now ≡ drop 2 rest = c.range_from-inside.ensures.value in
    let after_is : c.range_from.result.now ≡ drop len (drop 2 rest) = c.range_from.ensures.value ∙ ap (drop len) inside_is in
    let tag = extend_name (new_tag true) (input (take len (drop 2 rest))) in
    let found = c.in-Some.ensures.reads tag in
    let named = subst (λ (l : List ℕ). (tag : Tag) → read (TagName tag) 0 (input l) ≡ read (BeforeName (extend_name tag (input (take len l)))) 0 (input (drop len l))) inside_is c.name_end-name_len.ensures.reads in
    let closes = subst (λ (l : List ℕ). read (BeforeName tag) 0 (input l) ≡ tokens_after_tag (with_attributes tag found.0) (input (drop n l))) after_is found.1 in
    tag_found rest part.EndTag 2 len n mode.Data _ c.utf8.rest c.requires.boundary (subst (λ (l : List ℕ). IsCharBoundary l len) inside_is c.name_end-name_len.ensures.boundary)
    (subst (λ (l : List ℕ). IsCharBoundary l n) after_is c.in-Some.ensures.boundary) (omega arith) refl (λ given. (c.requires.opens, given)) tt tt tt (end_read rest len n found.0 c.requires.reads named closes)
