use Rattle.std.proofs.Common.{◌≡◌, [], ◌++◌, sym, ap, ◌∙◌, append-nil, arith}
use Rattle.std.proofs.lemmas.List.{nil_from_length}
use Rattle.transfer_codings.specs.QuotedRows.{rest_of_line}
use Rattle.transfer_codings.proofs.RowLemmas.{rows_text-rest}
use Rattle.transfer_codings.proofs.quoted_rows.push_line.Goals as goal

pub returns : goal.returns
returns c =
    let text = c.loop-rest.text.items in
    let none : c.loop-rest.rest.now ≡ [] = nil_from_length c.loop-rest.rest.now (omega arith) in
    sym (append-nil text) ∙ ap (λ l. text ++ rest_of_line c.loop-rest.column l) (sym none) ∙ c.loop-rest.invariant.written
    ∙ ap (λ l. c.args.text.now.items ++ l) (sym (rows_text-rest c.args.line.now))
