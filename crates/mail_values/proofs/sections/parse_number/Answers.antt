use Rattle.std.proofs.Common.{ap, Some}
use Rattle.mail_values.proofs.Spellings.{parsed, same_number, not_spelled, not_refused}
use Rattle.mail_values.proofs.sections.parse_number.Goals as goal

pub returns-in-Ok-clause-complete : goal.returns-in-Ok-clause-complete
returns-in-Ok-clause-complete c = λ n number e. ap Some (same_number c.parse.result c.in-Ok.number n c.in-Ok.is (parsed n c.args.text.now c.parse.result number e c.parse.ensures.value.0))

pub returns-in_default-clause-complete : goal.returns-in_default-clause-complete
returns-in_default-clause-complete c = λ n number e. absurd (not_spelled c.parse.result c.in-Ok.number n c.args.text.now c.is_spelled_as.result c.in-Ok.is (parsed n c.args.text.now c.parse.result number e c.parse.ensures.value.0) number e c.is_spelled_as.ensures.complete c.if-is_spelled_as.false)

pub returns-in_default-2-clause-complete : goal.returns-in_default-2-clause-complete
returns-in_default-2-clause-complete c = λ n number e. absurd (not_refused c.parse.result c.in_default.field-0 n c.in_default.is (parsed n c.args.text.now c.parse.result number e c.parse.ensures.value.0))
