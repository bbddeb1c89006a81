use Rattle.compose_drafts.proofs.Carried.{on_ok, plain_back, quoted_back}
use Rattle.compose_drafts.proofs.bodies.push_coded.Goals as goal

pub returns-then-seven_bit-clause-decodes : goal.returns-then-seven_bit-clause-decodes
returns-then-seven_bit-clause-decodes c = on_ok _ (plain_back c.args.seven_bit c.args.body.now c.if-seven_bit.true)

pub returns-clause-decodes : goal.returns-clause-decodes
returns-clause-decodes c = on_ok _ (quoted_back c.args.seven_bit c.args.body.now _ c.if-seven_bit.false c.in_ok-quoted.ensures.text c.in_ok-quoted.ensures.decodes c.in_ok-quoted.ensures.lines)
