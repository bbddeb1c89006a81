use Rattle.std.proofs.Common.{◌≡◌, ◌∷◌, [], ℕ, List, take, drop, map, subst, ◌∙◌, IsCharBoundary}
use Rattle.html_syntax.specs.Token.Token.{Comment}
use Rattle.html_syntax.specs.States.{replace_null}
use Rattle.html_syntax.specs.States.State.{Data, Bogus}
use Rattle.html_syntax.specs.Tokenizer.{read}
use Rattle.html_references.specs.Input.{input}
use Rattle.html_tokens.proofs.StepRuns.{comment_found}
use Rattle.html_tokens.proofs.step.bogus_step.Goals as goal

pub returns : goal.returns
returns c =
    let rest = c.args.rest.now in
    let found = c.bogus_comment-found.result in
    let is = c.range_from.ensures.value in
    let e = c.bogus_comment-found.ensures in
    comment_found rest c.args.from found.len found.end c.utf8.rest c.requires.boundary c.requires.nonempty (subst (λ (l : List ℕ). IsCharBoundary l found.len) is e.len) (subst (λ (l : List ℕ). IsCharBoundary l found.end) is e.end) e.ordered
    (c.requires.reads ∙ subst (λ (l : List ℕ). read (Bogus []) 0 (input l) ≡ Comment (map replace_null (input (take found.len l))) ∷ read Data 0 (input (drop found.end l))) is e.reads)
