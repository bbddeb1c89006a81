use Rattle.std.proofs.Common.{sym, ◌∙◌, arith}
use Rattle.mime_tree.proofs.BodyLemmas.{turn, passed, met}
use Rattle.mime_tree.proofs.body.next_delimiter.Goals as goal

pub returns-then-is_delimiter-clause-first : goal.returns-then-is_delimiter-clause-first
returns-then-is_delimiter-clause-first c =
    let text = c.args.text.now in
    let line = c.in_ok-line.line in
    let n = c.first_line-size.result.1 in
    let says = c.first_line-size.result.0.now in
    let t = turn text line.line_break line.at n says c.in_ok-line.ensures.within c.first_line-size.ensures.text c.first_line-size.ensures.size in
    sym c.loop-line.invariant.same ∙ sym c.in_ok-line.ensures.same ∙ met c.args.boundary.now text line.line_break line.at n says t c.if-is_delimiter.ensures

pub loop-line-preserved : goal.loop-line-preserved
loop-line-preserved c =
    let text = c.args.text.now in
    let line = c.in_ok-line.line in
    let n = c.first_line-size.result.1 in
    let says = c.first_line-size.result.0.now in
    let t = turn text line.line_break line.at n says c.in_ok-line.ensures.within c.first_line-size.ensures.text c.first_line-size.ensures.size in
    record {
      within = t.within;
      ordered = (let f = t.fits in omega arith);
      on = (let f = c.in_ok-line.ensures.advances in omega arith);
      same = sym (passed c.args.boundary.now text line.line_break line.at n says t c.if-is_delimiter.ensures) ∙ c.in_ok-line.ensures.same ∙ c.loop-line.invariant.same;
    }
