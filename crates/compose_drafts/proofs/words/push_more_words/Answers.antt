use Rattle.std.proofs.Common.{◌++◌, ap, ◌∙◌, take, drop, length, arith}
use Rattle.std.specs.List.{flat_map}
use Rattle.compose_drafts.specs.Texts.{pieces, spaced_word}
use Rattle.compose_drafts.proofs.WordLemmas.{more_words, nonzero_if, words_done, zero_if}
use Rattle.compose_drafts.proofs.words.push_more_words.Goals as goal

pub loop-rest-preserved : goal.loop-rest-preserved
loop-rest-preserved c =
    more_words c.loop-rest.out.items c.extend_from_slice.new.self.items c.push_word.new.out.items c.loop-rest.rest.now c.split_at.result.0.now c.split_at.result.1.now
    (c.args.out.now.items ++ flat_map spaced_word (pieces c.args.text.now))
    (nonzero_if (length c.loop-rest.rest.now) c.loop-rest-test.ensures)
    (c.split_at.ensures.front ∙ ap (λ n. take n c.loop-rest.rest.now) c.word_len.ensures.len)
    (c.split_at.ensures.back ∙ ap (λ n. drop n c.loop-rest.rest.now) c.word_len.ensures.len)
    c.in_ok-extend_from_slice.ensures.items c.in_ok-push_word.ensures c.loop-rest.invariant

pub loop-rest-smaller : goal.loop-rest-smaller
loop-rest-smaller c = omega (arith, c.split_at.ensures.back_len, c.word_len.ensures.nonzero (nonzero_if (length c.loop-rest.rest.now) c.loop-rest-test.ensures))

pub returns : goal.returns
returns c = words_done c.loop-rest.out.items c.loop-rest.rest.now (c.args.out.now.items ++ flat_map spaced_word (pieces c.args.text.now)) (zero_if (length c.loop-rest.rest.now) c.loop-rest-test.ensures) c.loop-rest.invariant
