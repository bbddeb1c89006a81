use Rattle.std.proofs.Common.{◌<◌, length, refl, arith}
use Rattle.page_writer.specs.Bytes.{AreTexts}
use Rattle.page_writer.proofs.Bytes.{Extends-same, Extends-trans, attributes_step, texts_step}
use Rattle.page_writer.proofs.spelling.push_attributes.Goals as goal

pub loop-i-init : goal.loop-i-init
unfolding AreTexts
loop-i-init c = record { written = refl; texts = refl; extends = Extends-same _ _ refl }

pub loop-i-preserved : goal.loop-i-preserved
loop-i-preserved c =
    let lt : c.loop-i.i < length c.args.attributes.now = omega arith in
    let held = c.loop-i.invariant in
    record {
      written = attributes_step c.args.attributes.now c.loop-i.i _ _ _ c.name.result.now c.value.result.now lt c.name.ensures c.value.ensures c.in_ok-push_attribute.ensures.ok held.written;
      texts = texts_step c.args.attributes.now c.loop-i.i c.value.result.now lt c.value.utf8 c.value.ensures held.texts;
      extends = Extends-trans _ _ _ held.extends c.in_ok-push_attribute.ensures.extends;
    }
