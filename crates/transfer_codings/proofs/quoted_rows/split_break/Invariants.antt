use Rattle.std.proofs.Common.{◌≡◌, ◌-◌, take, drop}
use Rattle.transfer_codings.specs.QuotedRows.{broken_lines}
use Rattle.transfer_codings.proofs.RowLemmas.{before}
use Rattle.transfer_codings.proofs.quoted_rows.split_break.Given as goal

abbrev pub invariant-loop-end : goal.invariant-loop-end
invariant-loop-end l = broken_lines l.text ≡ before (take (l.end - 1) l.text) (broken_lines (drop (l.end - 1) l.text))
