use Rattle.mime_content.proofs.PieceLemmas.{text_broken}
use Rattle.mime_content.proofs.pieces.unquote.Goals as goal

pub returns-then-has_ended : goal.returns-then-has_ended
returns-then-has_ended c = text_broken c.args.quoted.now c.loop-byte.text c.loop-byte.quoting c.loop-byte.byte-index _ c.loop-byte-test.true c.if-has_ended.ensures c.loop-byte.invariant
