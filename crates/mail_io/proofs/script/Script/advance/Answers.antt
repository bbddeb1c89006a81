use Rattle.std.proofs.Common.{ap, arith}
use Rattle.mail_io.proofs.ScriptLemmas.{advanced, used_up}
use Rattle.mail_io.proofs.script.Script.advance.Goals as goal

pub returns-then-count-first_len : goal.returns-then-count-first_len
returns-then-count-first_len c =
    let here = c.self.inside in
    let chunks = advanced here.at c.args.count here.chunks.items (omega (arith, c.if-count-first_len.true, c.first_len.ensures)) in
    rw (← c.self.view_is) (ap (λ cs. record { chunks = cs; dials = here.dials.items }) chunks)

pub returns-else-count-first_len : goal.returns-else-count-first_len
returns-else-count-first_len c =
    let here = c.self.inside in
    let chunks = used_up here.at c.args.count here.chunks.items c.pop_front.new.self.items c.pop_front.ensures.rest (omega (arith, c.if-count-first_len.false, c.first_len.ensures)) in
    rw (← c.self.view_is) (ap (λ cs. record { chunks = cs; dials = here.dials.items }) chunks)
