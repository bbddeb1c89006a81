use Rattle.transfer_codings.proofs.RowLemmas.{unit_of-literal, unit_of-escaped, written_unit, column_of_unit}
use Rattle.std.proofs.Common.{sym, ◌∙◌, ap, ◌++◌}
use Rattle.transfer_codings.proofs.quoted_rows.push_byte.Goals as goal

pub returns-then-is_literal-clause-ok : goal.returns-then-is_literal-clause-ok
returns-then-is_literal-clause-ok c =
    written_unit _ _ c.args.text.now.items _ c.args.column c.args.at_end c.args.byte
    (unit_of-literal c.args.at_end c.args.byte (sym c.if-is_literal.ensures))
    c.in_ok-start.ensures.ok c.in_ok-push.ensures.items

pub returns-then-is_literal-clause-column : goal.returns-then-is_literal-clause-column
returns-then-is_literal-clause-column c =
    column_of_unit c.in_ok-start.start _ c.args.column c.args.at_end c.args.byte
    (unit_of-literal c.args.at_end c.args.byte (sym c.if-is_literal.ensures)) c.in_ok-start.ensures.column

pub returns-clause-ok : goal.returns-clause-ok
returns-clause-ok c =
    written_unit _ _ c.args.text.now.items _ c.args.column c.args.at_end c.args.byte
    (unit_of-escaped c.args.at_end c.args.byte (sym c.if-is_literal.ensures))
    c.in_ok-start-2.ensures.ok
    (c.in_ok-extend_from_slice.ensures.items ∙ ap (λ xs. c.break_row-2.new.text.items ++ xs) c.escape.ensures)

pub returns-clause-column : goal.returns-clause-column
returns-clause-column c =
    column_of_unit c.in_ok-start-2.start _ c.args.column c.args.at_end c.args.byte
    (unit_of-escaped c.args.at_end c.args.byte (sym c.if-is_literal.ensures)) c.in_ok-start-2.ensures.column
