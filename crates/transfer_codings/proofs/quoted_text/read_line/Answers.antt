use Rattle.std.proofs.Common.{◌++◌, ◌∙◌, ap, sym, take, append_assoc}
use Rattle.transfer_codings.proofs.QuotedLemmas.{line_bytes-soft, line_bytes-hard}
use Rattle.transfer_codings.proofs.quoted_text.read_line.Goals as goal

pub returns-in-Some-clause-written : goal.returns-in-Some-clause-written
returns-in-Some-clause-written c =
    let front = take c.args.start c.args.bytes.now in
    let whole = line_bytes-soft c.args.line.now c.args.ending.now _ _ c.trim_blanks-text.ensures.kept c.in-Some.ensures.0 c.in-Some.ensures.1 in
    c.unescape.ensures.written ∙ ap (λ bytes. front ++ bytes) (sym whole)

pub returns-in-None-clause-written : goal.returns-in-None-clause-written
returns-in-None-clause-written c =
    let front = take c.args.start c.args.bytes.now in
    let whole = line_bytes-hard c.args.line.now c.args.ending.now _ c.trim_blanks-text.ensures.kept c.in-None.ensures in
    c.write.ensures.written
    ∙ ap (λ xs. xs ++ c.args.ending.now) c.unescape-size.ensures.written
    ∙ append_assoc front _ c.args.ending.now
    ∙ ap (λ xs. front ++ xs) (sym whole)
