use Rattle.std.proofs.Common.{◌+◌, ◌∙◌, ap, arith}
use Rattle.std.proofs.lemmas.List.{drop_all}
use Rattle.header_words.specs.Lines.{header_lines, body_of}
use Rattle.header_words.proofs.FirstLine.{empty_line_at}
use Rattle.header_words.proofs.Scan.{scanned_on, scanned_all, letters_on}
use Rattle.header_words.proofs.reading.fields.Goals as goal

pub returns-then-is_empty-clause-header : goal.returns-then-is_empty-clause-header
returns-then-is_empty-clause-header c =
    let line = c.first_line-size.ensures in
    let end = empty_line_at c.args.bytes.now c.loop-at.at c.first_line-size.result.1 c.first_line-size.result.0.now c.loop-at-test.true line.text line.size c.if-is_empty.ensures in
    let body = c.loop-at.invariant.0.body in
    let rest = end.body in
    c.of.ensures ∙ scanned_all c.args.bytes.now c.loop-at.starts.items c.loop-at.at (c.loop-at.at + c.first_line-size.result.1) c.loop-at.invariant.0 end.lines (omega arith)

pub loop-at-preserved : goal.loop-at-preserved
loop-at-preserved c =
    let line = c.first_line-size.ensures in
    let letters = letters_on c.args.bytes.now c.loop-at.starts.items c.add_start.new.starts.items c.loop-at.letters.items c.add_start.new.letters.items c.loop-at.at c.first_line-size.result.0.now c.loop-at.invariant.1 c.loop-at-test.true line.text c.in_ok-add_start.ensures.starts c.in_ok-add_start.ensures.letters in
    (scanned_on c.args.bytes.now c.loop-at.starts.items c.add_start.new.starts.items c.loop-at.at c.first_line-size.result.1 c.first_line-size.result.0.now c.loop-at.invariant.0 c.loop-at-test.true line.text line.size c.if-is_empty.ensures c.in_ok-add_start.ensures.starts, letters)

pub returns-clause-header : goal.returns-clause-header
returns-clause-header c =
    let over = drop_all c.loop-at.at c.args.bytes.now c.loop-at-test.false in
    let body = c.loop-at.invariant.0.body in
    let rest = ap body_of over in
    c.of-2.ensures ∙ scanned_all c.args.bytes.now c.loop-at.starts.items c.loop-at.at c.loop-at.at c.loop-at.invariant.0 (ap header_lines over) (omega arith)
