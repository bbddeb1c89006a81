use Rattle.std.proofs.Common.{◌≡◌, ◌++◌, drop, take, encode_utf8_all}
use Rattle.page_writer.specs.Page.{spell_attributes}
use Rattle.page_writer.specs.Bytes.{AreTexts, Extends}
use Rattle.page_writer.proofs.spelling.push_attributes.Given as goal

abbrev pub invariant-loop-i : goal.invariant-loop-i
invariant-loop-i l = record {
  written : l.out.items ++ encode_utf8_all (spell_attributes (drop l.i l.attributes)) ≡ l.fn.out.items ++ encode_utf8_all (spell_attributes l.attributes);
  texts : AreTexts (take l.i l.attributes);
  extends : Extends l.fn.out.items l.out.items;
}
