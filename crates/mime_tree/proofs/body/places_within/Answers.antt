use Rattle.std.proofs.Common.{arith, ap, length, drop}
use Rattle.mime_tree.specs.Body.{delimiters, line_of}
use Rattle.mime_tree.proofs.BodyLemmas.{continues_first, parts_on, part_within, within_none}
use Rattle.mime_tree.proofs.body.places_within.Goals as goal

pub loop-line-init : goal.loop-line-init
loop-line-init c = record {
  within = omega arith;
  ordered = omega arith;
  few = omega (arith, ap length c.new-found.ensures.items);
  begun = tt;
  places = within_none (length c.args.text.now) c.new-found.result.items c.new-found.ensures.items;
  all = continues_first c.args.boundary.now c.args.text.now c.new-found.result.items c.new-found.ensures.items;
}

pub returns-then-is_closing-clause-within : goal.returns-then-is_closing-clause-within
returns-then-is_closing-clause-within c =
    part_within (length c.args.text.now) c.loop-line.found.items c.push_part.new.found.items c.loop-line.begun c.in-Some.line.line_break
    (c.in_ok-push_part.ensures.added c.if-not-branch.false) c.loop-line.invariant.begun (omega (arith, c.in-Some.ensures.ordered, c.in-Some.ensures.within)) c.loop-line.invariant.places

pub loop-line-preserved : goal.loop-line-preserved
loop-line-preserved c =
    let d = c.in-Some.line in
    let added = c.in_ok-push_part.ensures.added c.if-not-branch.false in
    record {
      within = c.in-Some.ensures.within;
      ordered = c.in-Some.ensures.next_ordered;
      few = c.in_ok-push_part.ensures.few c.if-not-branch.false c.loop-line.invariant.few;
      begun = c.in-Some.ensures.within;
      places = part_within (length c.args.text.now) c.loop-line.found.items c.push_part.new.found.items c.loop-line.begun d.line_break
          added c.loop-line.invariant.begun (omega (arith, c.in-Some.ensures.ordered, c.in-Some.ensures.within)) c.loop-line.invariant.places;
      all = parts_on c.args.boundary.now c.args.text.now c.loop-line.found.items c.push_part.new.found.items c.loop-line.begun _ (line_of d.line_break d.next.at d.text.now)
          (delimiters c.args.boundary.now d.next.line_break d.next.at (drop d.next.at c.args.text.now)) added c.in-Some.ensures.first c.if-is_closing.ensures c.loop-line.invariant.all;
    }

pub returns-clause-within : goal.returns-clause-within
returns-clause-within c =
    part_within (length c.args.text.now) c.loop-line.found.items c.push_part-2.new.found.items c.loop-line.begun (length c.args.text.now)
    (c.in_ok-push_part-2.ensures.added c.if-not-branch-2.false) c.loop-line.invariant.begun (omega arith) c.loop-line.invariant.places
