use Rattle.std.proofs.Common.{◌≡◌, ◌++◌, ℕ, List, take, drop, subst, ◌∙◌, arith}
use Rattle.html_syntax.specs.States.State.{Data, Raw}
use Rattle.html_syntax.specs.Tokenizer.{read, chars}
use Rattle.html_references.specs.Input.{input, read_as}
use Rattle.html_tokens.specs.Scanned.{raw_text_kind, element_name}
use Rattle.html_tokens.specs.Contents.{content_read_as}
use Rattle.html_tokens.specs.declared.mode.Mode.TheVariants as mode
use Rattle.html_tokens.proofs.StepRuns.{moves_from, begins_inside, nothing_held}
use Rattle.html_tokens.proofs.step.content_step.Goals as goal

pub returns-else-end-gt0 : goal.returns-else-end-gt0
returns-else-end-gt0 c =
    let rest = drop c.args.at c.args.text.now in
    let content = c.args.content in
    let is = c.range_from.ensures.value in
    let none : c.content_end-end.result ≡ 0 = omega (arith, c.if-end-gt0.false) in
    let here = subst (λ (n : ℕ). read (Raw (raw_text_kind content) (element_name content)) 0 (input rest) ≡ chars (read_as (content_read_as content) (input (take n rest))) ++ read Data 0 (input (drop n rest))) none
    (subst (λ (l : List ℕ). read (Raw (raw_text_kind content) (element_name content)) 0 (input l) ≡ chars (read_as (content_read_as content) (input (take c.content_end-end.result l))) ++ read Data 0 (input (drop c.content_end-end.result l))) is c.content_end-end.ensures.reads) in
    moves_from c.args.text.now c.args.at c.args.at (mode.Inside content) mode.Data c.data_step.result (omega arith) (here ∙ nothing_held (content_read_as content) (read Data 0 (input rest))) (begins_inside c.args.text.now content) (λ _ _. tt) c.data_step.ensures
