use Rattle.mail_values.proofs.Spellings.{spelled_next}
use Rattle.mail_values.proofs.sections.Section.spell.Goals as goal

pub loop-number-preserved : goal.loop-number-preserved
loop-number-preserved c = spelled_next c.numbers-number-items.result.now c.args.self.now _ _ c.loop-number.number-index c.numbers-number-items.ensures.equals c.numbers-number-items.ensures.is_section c.loop-number-test.true c.loop-number.invariant c.in_ok-push_number.ensures
