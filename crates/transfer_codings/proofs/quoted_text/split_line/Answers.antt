use Rattle.std.proofs.Common.{◌+◌, arith, sym, ◌∙◌}
use Rattle.std.proofs.lemmas.List.{length-drop, length-take, take_rest}
use Rattle.transfer_codings.proofs.QuotedLemmas.{slice_split_cut, slice_split_whole}
use Rattle.transfer_codings.proofs.quoted_text.split_line.Goals as goal

pub returns : goal.returns
returns c =
    let text = c.args.text.now in
    let end = c.find-end.result in
    let rest = take_rest text (end + 1) in
    rw rest
    (slice_split_cut text end c.find-end.ensures.place (omega arith), omega (arith, length-take end text, length-drop (end + 1) text))

pub returns-then-end-text : goal.returns-then-end-text
returns-then-end-text c =
    slice_split_whole c.args.text.now (sym c.find-end.ensures.place ∙ c.if-end-text.true)
