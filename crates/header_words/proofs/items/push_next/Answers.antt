use Rattle.std.proofs.Common.{◌++◌, false, ap, ◌∙◌, append_assoc}
use Rattle.header_words.proofs.ItemLemmas.{text_after, word_next, word_shorter, none_pushed}
use Rattle.header_words.specs.EncodedWords.{word_text, without_gap}
use Rattle.header_words.proofs.items.push_next.Goals as goal

pub returns-in_ok-extend_from_slice-in-Some-clause-text : goal.returns-in_ok-extend_from_slice-in-Some-clause-text
returns-in_ok-extend_from_slice-in-Some-clause-text c =
    let before = c.args.bytes.now.items in
    let left = text_after false c.skip_gap.result.now in
    ap (λ l. l ++ left) (c.in_ok-extend_from_slice-in-Some.ensures.items ∙ ap (λ l. before ++ l) (c.as_bytes.ensures.value ∙ c.in_ok-text-in-Some.ensures))
    ∙ append_assoc before (word_text c.in-Some.word) left
    ∙ ap (λ l. before ++ l) (word_next c.args.rest.now c.skip_gap.result.now c.in-Some.word c.in-Some.ensures (c.skip_gap.ensures ∙ ap without_gap c.after.ensures))

pub returns-in_ok-extend_from_slice-in-Some-clause-advances : goal.returns-in_ok-extend_from_slice-in-Some-clause-advances
returns-in_ok-extend_from_slice-in-Some-clause-advances c = word_shorter c.args.rest.now c.skip_gap.result.now c.in-Some.word c.requires c.in-Some.ensures (c.skip_gap.ensures ∙ ap without_gap c.after.ensures)

pub returns-in_ok-extend_from_slice-in-None-clause-text : goal.returns-in_ok-extend_from_slice-in-None-clause-text
returns-in_ok-extend_from_slice-in-None-clause-text c = none_pushed c.args.rest.now c.args.bytes.now.items c.extend_from_slice-in-None.new.self.items c.plain_len-size.result c.requires c.in-None.ensures c.plain_len-size.ensures.equals c.in_ok-extend_from_slice-in-None.ensures.items
