use Rattle.std.proofs.Common.{arith}
use Rattle.std.specs.Prelude.{reverse}
use Rattle.mime_tree.proofs.OpeningLemmas.{start_stands, step_stands, end_stands, none_stands, next_place, first_place, popped}
use Rattle.mime_tree.proofs.TreeLaws.{none_placed}
use Rattle.mime_tree.proofs.opening.parts_in.Goals as goal
use Rattle.mime_tree.proofs.opening.parts_in.Goals.{else-loop-step-test, then-loop-step-test+in_default}

pub loop-step-init : goal.loop-step-init
loop-step-init c = record {
  all = start_stands c.args.bytes.now c.new-found.result.items c.new-waiting.result.items c.push.new.self.items c.args.message c.new-found.ensures.items c.new-waiting.ensures.items c.in_ok-push.ensures.items c.requires.equals;
  sound = first_place c.args.bytes.now c.args.message c.new-waiting.result.items c.push.new.self.items c.new-waiting.ensures.items c.in_ok-push.ensures.items c.requires.sound;
  placed = none_placed c.args.bytes.now c.new-found.result.items c.new-found.ensures.items;
}

pub settle_next-requires : goal.settle_next-requires
settle_next-requires c =
    let p = next_place c.args.bytes.now c.in-Some.next c.loop-step.waiting.items c.pop.new.self.items c.in-Some.ensures.items c.loop-step.invariant.sound in
    record { sound = p.0; all = p.1; placed = c.loop-step.invariant.placed }

pub loop-step-preserved : goal.loop-step-preserved
loop-step-preserved c = record {
  all = step_stands c.args.bytes.now c.loop-step.step c.loop-step.found.items c.settle_next.new.found.items _ (reverse c.loop-step.waiting.items) (reverse c.pop.new.self.items) (reverse c.settle_next.new.waiting.items) c.in-Some.next c.loop-step-test.true (popped c.pop.new.self.items c.in-Some.next c.loop-step.waiting.items c.in-Some.ensures.items) c.in_ok-settle_next.ensures.parts c.in_ok-settle_next.ensures.waiting c.loop-step.invariant.all;
  sound = c.in_ok-settle_next.ensures.all;
  placed = c.in_ok-settle_next.ensures.placed;
}

pub returns-clause-equals : goal.returns-clause-equals
returns-clause-equals c =
    elim c.loop-step-test.branch [
      | else-loop-step-test w ↦ end_stands c.args.bytes.now c.loop-step.step c.loop-step.found.items _ (reverse c.loop-step.waiting.items) w.loop-step-test.false c.loop-step.invariant.all
      | then-loop-step-test+in_default w ↦
          let count = rw w.in_default.is at w.pop.ensures.cases in
          none_stands c.args.bytes.now c.loop-step.step c.loop-step.found.items _ c.loop-step.waiting.items (omega (arith, count, c.loop-step.waiting.ok.0)) c.loop-step.invariant.all
    ]

pub returns-clause-placed : goal.returns-clause-placed
returns-clause-placed c = c.loop-step.invariant.placed
