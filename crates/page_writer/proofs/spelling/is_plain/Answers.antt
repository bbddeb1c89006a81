use Rattle.std.proofs.Common.{refl}
use Rattle.page_writer.specs.Bytes.{spell_bytes}
use Rattle.page_writer.proofs.Bytes.{plain_step}
use Rattle.page_writer.proofs.spelling.is_plain.Goals as goal

pub loop-byte-init : goal.loop-byte-init
unfolding spell_bytes
loop-byte-init c = λ _. refl

pub loop-byte-preserved : goal.loop-byte-preserved
loop-byte-preserved c = plain_step c.args.bytes.now c.loop-byte.byte-index c.loop-byte.all c.is_plain_byte-all.result c.loop-byte-test.true c.loop-byte.invariant c.is_plain_byte-all.ensures
