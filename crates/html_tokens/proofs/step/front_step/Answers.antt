use Rattle.std.proofs.Common.{◌≡◌, ◌<◌, length, false, sym, subst}
use Rattle.std.proofs.lemmas.Bool.{eqb-true, eqb-false}
use Rattle.html_tokens.specs.Scanned.{opens_markup}
use Rattle.html_tokens.specs.Stepping.{IsStepTo}
use Rattle.html_tokens.specs.declared.step.Step.{Step}
use Rattle.html_tokens.specs.declared.mode.Mode.TheVariants as mode
use Rattle.html_references.specs.declared.stretch.ReadAs.TheVariants as reads
use Rattle.html_tokens.proofs.StepRuns.{run_found, nothing_in_data, run_is_some}
use Rattle.html_tokens.proofs.step.front_step.Goals as goal

pub returns-then-is_empty : goal.returns-then-is_empty
returns-then-is_empty c = nothing_in_data c.args.rest.now (eqb-true (length c.args.rest.now) 0 (sym c.if-is_empty.ensures))

pub returns-else-opens_markup : goal.returns-else-opens_markup
returns-else-opens_markup c =
    let rest = c.args.rest.now in
    let e = c.text_end.ensures in
    let alone : opens_markup rest ≡ false = sym c.if-opens_markup.ensures in
    let some : 0 < c.text_end.result = run_is_some rest c.text_end.result (eqb-false (length rest) 0 (sym c.if-is_empty.ensures)) alone e.ends in
    subst (λ (s : Step). IsStepTo rest mode.Data s) (sym c.run_step.ensures) (run_found reads.Text mode.Data rest c.text_end.result c.utf8.rest some e.boundary e.reads e.ends alone)
