use Rattle.std.proofs.Common.{length, sym, subst, arith}
use Rattle.std.proofs.lemmas.Bool.{eqb-true, eqb-false}
use Rattle.std.proofs.lemmas.Str.{IsCharBoundary-end}
use Rattle.html_tokens.specs.Stepping.{IsStepTo}
use Rattle.html_tokens.specs.declared.step.Step.{Step}
use Rattle.html_tokens.specs.declared.mode.Mode.TheVariants as mode
use Rattle.html_references.specs.declared.stretch.ReadAs.TheVariants as reads
use Rattle.html_tokens.proofs.StepRuns.{run_found, plain_reads, nothing_in_plaintext}
use Rattle.html_tokens.proofs.step.plain_step.Goals as goal

pub returns-then-is_empty : goal.returns-then-is_empty
returns-then-is_empty c = nothing_in_plaintext c.args.rest.now (eqb-true (length c.args.rest.now) 0 (sym c.if-is_empty.ensures))

pub returns-else-is_empty : goal.returns-else-is_empty
returns-else-is_empty c =
    let rest = c.args.rest.now in
    let some = eqb-false (length rest) 0 (sym c.if-is_empty.ensures) in
    subst (λ (s : Step). IsStepTo rest mode.Plaintext s) (sym c.run_step.ensures)
    (run_found reads.Raw mode.Plaintext rest (length rest) c.utf8.rest (omega (arith, some)) (IsCharBoundary-end rest) (plain_reads rest) (λ lt. absurd (omega arith)) tt)
