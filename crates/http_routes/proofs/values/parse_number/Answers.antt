use Rattle.std.proofs.Common.{arith, rules}
use Rattle.http_routes.proofs.Numbers.{no_number, not_spelled, spelled_number}
use Rattle.http_routes.proofs.values.parse_number.Goals as goal

pub returns-in-Ok : goal.returns-in-Ok
returns-in-Ok c = spelled_number c.in-Ok.number c.args.text.now (omega arith) (c.is_spelled_as.ensures.0 (search rules))

pub returns-in_default : goal.returns-in_default
returns-in_default c = no_number c.args.text.now c.parse.result c.parse.ensures.value.0 (λ m is spelled. not_spelled c.parse.result c.in-Ok.number m c.args.text.now c.is_spelled_as.result c.in-Ok.is is spelled c.is_spelled_as.ensures.1 c.if-is_spelled_as.false)

pub returns-in_default-2 : goal.returns-in_default-2
returns-in_default-2 c = no_number c.args.text.now c.parse.result c.parse.ensures.value.0 (λ m is spelled. absurd (cc))
