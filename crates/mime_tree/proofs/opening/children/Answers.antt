use Rattle.std.proofs.Common.{get_or}
use Rattle.mime_tree.specs.Body.{range}
use Rattle.mime_tree.proofs.OpeningLemmas.{children_pushed, all_pushed, range_read}
use Rattle.mime_tree.proofs.opening.children.Goals as goal

pub loop-i-preserved : goal.loop-i-preserved
loop-i-preserved c = record {
  is = children_pushed c.args.bytes.now c.args.node.now c.loop-i.i c.args.ranges.now (get_or c.args.ranges.now c.loop-i.i (range 0 0)) c.loop-i.nodes.items c.push.new.self.items c.in_ok-child.field-0 _ c.loop-i-test.true (range_read c.args.ranges.now c.loop-i.i c.loop-i-test.true) c.in_ok-child.ensures.equals c.in_ok-push.ensures.items c.loop-i.invariant.is;
  sound = all_pushed c.args.bytes.now c.loop-i.nodes.items c.push.new.self.items c.in_ok-child.field-0 c.in_ok-push.ensures.items c.in_ok-child.ensures.sound c.loop-i.invariant.sound;
}
