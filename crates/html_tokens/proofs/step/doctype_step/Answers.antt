use Rattle.std.proofs.Common.{◌≡◌, ◌∷◌, ℕ, List, drop, subst, ◌∙◌, IsCharBoundary}
use Rattle.html_syntax.specs.Token.Token.{Doctype}
use Rattle.html_syntax.specs.States.State.{Data, DoctypeBody}
use Rattle.html_syntax.specs.Tokenizer.{read}
use Rattle.html_references.specs.Input.{input}
use Rattle.html_tokens.proofs.StepRuns.{doctype_found}
use Rattle.html_tokens.proofs.step.doctype_step.Goals as goal

pub returns : goal.returns
returns c =
    let end = c.doctype_end-end.result in
    let is = c.range_from.ensures.value in
    let e = c.doctype_end-end.ensures in
    doctype_found c.args.rest.now end c.utf8.rest c.requires.boundary (subst (λ (l : List ℕ). IsCharBoundary l end) is e.boundary)
    (c.requires.reads ∙ subst (λ (l : List ℕ). read DoctypeBody 0 (input l) ≡ Doctype ∷ read Data 0 (input (drop end l))) is e.reads)
