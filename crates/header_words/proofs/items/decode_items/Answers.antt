use Rattle.std.proofs.Common.{length, sym}
use Rattle.std.proofs.lemmas.Bool.{eqb-true}
use Rattle.header_words.proofs.ItemLemmas.{joined_all}
use Rattle.header_words.proofs.items.decode_items.Goals as goal

pub returns : goal.returns
returns c = joined_all c.args.value.now c.loop-rest.bytes.items c.loop-rest.rest.now c.loop-rest.invariant (eqb-true (length c.loop-rest.rest.now) 0 (sym c.loop-rest-test.ensures))
