use Rattle.std.proofs.Common.{◌≡◌, ℕ, List, ◌++◌, true, drop, take, map, IsCharBoundary, ap, sym, subst, ◌∙◌, arith}
use Rattle.std.proofs.lemmas.List.{drop-drop}
use Rattle.std.proofs.lemmas.Str.{IsCharBoundary-from_rest}
use Rattle.html_syntax.specs.Token.{Token}
use Rattle.html_syntax.specs.States.{replace_null}
use Rattle.html_syntax.specs.Tokenizer.{chars}
use Rattle.html_references.specs.Input.{input}
use Rattle.html_tokens.specs.Scripts.{ReadsPassage, BeginsWithMark, ends_script}
use Rattle.html_tokens.specs.declared.script.Phase.TheVariants.{Plain}
use Rattle.html_tokens.proofs.ScriptSteps.{marked_parts, script_closed, script_over}
use Rattle.html_tokens.proofs.script.script_end.Goals as goal

pub loop-at-preserved : goal.loop-at-preserved
loop-at-preserved c =
    let text = c.args.rest.now in
    let at = c.loop-at.at in
    let step = c.read_passage-step.result in
    let before = c.loop-at.invariant in
    let rest_is = c.range_from-in-loop-at.ensures.value in
    let p = c.read_passage-step.ensures in (
      IsCharBoundary-from_rest text at step.len before.0.0 (subst (λ (l : List ℕ). IsCharBoundary l step.len) rest_is p.boundary),
      subst BeginsWithMark (ap (drop step.len) rest_is ∙ drop-drop step.len at text) p.marks,
      marked_parts Plain c.loop-at.phase step.phase text at step.len c.utf8.rest before.0 before.1 before.2 (subst (λ (l : List ℕ). ReadsPassage c.loop-at.phase l step.len step.phase) rest_is p.reads),
    )

pub returns-else-not-ends_script-clause-reads : goal.returns-else-not-ends_script-clause-reads
returns-else-not-ends_script-clause-reads c =
    let text = chars (map replace_null (input (take c.loop-at.at c.args.rest.now))) in
    let ends : ends_script c.loop-at.phase (drop c.loop-at.at c.args.rest.now) ≡ true = ap (ends_script c.loop-at.phase) (sym c.range_from.ensures.value) ∙ sym c.ends_script.ensures ∙ c.if-not-ends_script.false in
    c.loop-at.invariant.2 ∙ ap (λ (l : List Token). text ++ l) (script_closed c.loop-at.phase (drop c.loop-at.at c.args.rest.now) ends).1

pub returns-after-loop-at-clause-reads : goal.returns-after-loop-at-clause-reads
returns-after-loop-at-clause-reads c =
    let text = chars (map replace_null (input (take c.loop-at.at c.args.rest.now))) in
    c.loop-at.invariant.2 ∙ ap (λ (l : List Token). text ++ l) (script_over c.loop-at.phase c.args.rest.now c.loop-at.at (omega (arith, c.loop-at-test.false)))
