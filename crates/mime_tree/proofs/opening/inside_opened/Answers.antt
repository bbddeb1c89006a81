use Rattle.std.proofs.Common.{arith, ap, length}
use Rattle.mime_tree.proofs.OpeningLemmas.{opens_when, opens_not, opens_full}
use Rattle.mime_tree.proofs.opening.inside_opened.Goals as goal

pub returns-then-not-opens-clause-none : goal.returns-then-not-opens-clause-none
returns-then-not-opens-clause-none c = opens_not c.args.bytes.now c.args.others c.args.node.now c.if-not-opens.ensures.equals

pub returns-in_default-clause-none : goal.returns-in_default-clause-none
returns-in_default-clause-none c =
    let many = rw c.in_default.is at c.in_ok-nodes.ensures.many in
    opens_full c.args.bytes.now c.args.others c.args.node.now c.if-not-opens.ensures.equals (omega (arith, many, c.own_count-own.ensures.equals, c.own_count-own.ensures.few))

pub returns-clause-opens : goal.returns-clause-opens
returns-clause-opens c =
    let few = rw c.in-Some.is at c.in_ok-nodes.ensures.few in
    let all = rw c.in-Some.is at c.in_ok-nodes.ensures.all in
    opens_when c.args.bytes.now c.args.others c.args.node.now c.if-not-opens.ensures.equals (omega (arith, few, ap length all, c.own_count-own.ensures.equals, c.own_count-own.ensures.few))

pub returns-then-others-own-clause-none : goal.returns-then-others-own-clause-none
returns-then-others-own-clause-none c =
    opens_full c.args.bytes.now c.args.others c.args.node.now c.if-not-opens.ensures.equals (omega (arith, c.if-others-own.true, c.own_count-own.ensures.equals, c.own_count-own.ensures.few))
