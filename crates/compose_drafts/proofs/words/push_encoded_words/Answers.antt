use Rattle.std.proofs.Common.{ap, ◌∙◌, take, drop, length}
use Rattle.compose_drafts.proofs.WordLemmas.{first_word, no_words, nonzero_if, zero_if}
use Rattle.compose_drafts.proofs.words.push_encoded_words.Goals as goal

pub returns-then-is_empty : goal.returns-then-is_empty
returns-then-is_empty c = no_words c.args.out.now.items c.args.text.now (zero_if (length c.args.text.now) c.if-is_empty.ensures)

pub returns : goal.returns
returns c =
    first_word c.args.out.now.items c.push_word.new.out.items c.push_more_words.new.out.items c.args.text.now c.split_at.result.0.now c.split_at.result.1.now
    (nonzero_if (length c.args.text.now) c.if-is_empty.ensures)
    (c.split_at.ensures.front ∙ ap (λ n. take n c.args.text.now) c.word_len.ensures.len)
    (c.split_at.ensures.back ∙ ap (λ n. drop n c.args.text.now) c.word_len.ensures.len)
    c.in_ok-push_word.ensures c.in_ok-push_more_words.ensures
