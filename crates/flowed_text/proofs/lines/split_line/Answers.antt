use Rattle.std.proofs.Common.{◌∷◌, List, ℕ, Some, None, length, ap, sym, subst, ◌∙◌}
use Rattle.std.proofs.lemmas.Bool.{eqb-true, eqb-false}
use Rattle.memchr.specs.Find.{IsFirstByte, is_byte2}
use Rattle.flowed_text.specs.Lines.{lines}
use Rattle.flowed_text.proofs.LineCuts.{lines-cut, lines-empty, lines-last, no_ending}
use Rattle.flowed_text.proofs.lines.split_line.Goals as goal

pub returns-then-is_empty-clause-lines : goal.returns-then-is_empty-clause-lines
returns-then-is_empty-clause-lines c = lines-empty c.args.text.now (eqb-true (length c.args.text.now) 0 (sym c.if-is_empty.ensures))

pub returns-in-Some-clause-lines : goal.returns-in-Some-clause-lines
returns-in-Some-clause-lines c =
    lines-cut c.args.text.now c.split_at.result.0.now c.split_at.result.1.now c.in-Some.end
    (subst (λ (t : List ℕ). IsFirstByte (is_byte2 13 10) t (Some c.in-Some.end)) c.as_bytes.ensures.value c.in-Some.ensures)
    c.split_at.ensures.front c.split_at.ensures.back
    ∙ ap (λ rest. c.split_at.result.0.now ∷ lines rest) (sym c.skip_line_ending.ensures)

pub returns-in-None-clause-lines : goal.returns-in-None-clause-lines
returns-in-None-clause-lines c =
    lines-last c.args.text.now (eqb-false (length c.args.text.now) 0 (sym c.if-is_empty.ensures))
    (no_ending c.args.text.now (subst (λ (t : List ℕ). IsFirstByte (is_byte2 13 10) t None) c.as_bytes.ensures.value c.in-None.ensures))
