use Rattle.std.proofs.Common.{List, ℕ, ◌++◌, length, ◌≤◌, arith, ap, ◌∙◌, sym, subst}
use Rattle.std.specs.Str.Lines.{lines}
use Rattle.transfer_codings.specs.Quoted.{quoted_bytes}
use Rattle.std.proofs.lemmas.List.Elements.{All-same}
use Rattle.std.specs.Str.{IsAscii}
use Rattle.transfer_codings.proofs.Ascii.{quoted_text-ascii}
use Rattle.transfer_codings.proofs.QuotedWritten.{quoted_text-decode, quoted_text-short}
use Rattle.transfer_codings.proofs.RowLemmas.{rows_text-rest, written_line, written_last}
use Rattle.transfer_codings.proofs.quoted_rows.encode_quoted.Goals as goal

pub loop-line-preserved : goal.loop-line-preserved
loop-line-preserved c =
    written_line _ _ c.loop-line.text.items c.loop-line.rest.now _ _ c.in-Some.ensures.0 (c.in_ok-push_line.ensures ∙ ap (λ l. c.loop-line.text.items ++ l) (rows_text-rest c.in-Some.line.now)) c.in_ok-extend_from_slice.ensures.items
    ∙ c.loop-line.invariant

pub returns-clause-text : goal.returns-clause-text
returns-clause-text c =
    written_last _ c.loop-line.text.items c.loop-line.rest.now c.in_default.ensures (c.in_ok-push_line-2.ensures ∙ ap (λ l. c.loop-line.text.items ++ l) (rows_text-rest c.loop-line.rest.now))
    ∙ c.loop-line.invariant

pub returns-clause-decodes : goal.returns-clause-decodes
returns-clause-decodes c =
    ap quoted_bytes (returns-clause-text c) ∙ quoted_text-decode c.args.bytes.now (λ i. omega (arith, c.type_inv.bytes i))

pub returns-clause-lines : goal.returns-clause-lines
returns-clause-lines c =
    All-same (λ (line : List ℕ). length line ≤ 76) _ _ (ap lines (returns-clause-text c))
    (quoted_text-short c.args.bytes.now (λ i. omega (arith, c.type_inv.bytes i)))

pub returns-clause-ascii : goal.returns-clause-ascii
returns-clause-ascii c =
    subst IsAscii (sym (returns-clause-text c)) (quoted_text-ascii c.args.bytes.now (λ i. omega (arith, c.type_inv.bytes i)))
