use Rattle.std.proofs.Common.{ap}
use Rattle.imap_framing.proofs.StreamLemmas.{gives_of}
use Rattle.imap_framing.specs.Cuts.{Cut}
use Rattle.mail_talk.proofs.TakeLemmas.{takes_incomplete, takes_long, reads_response, reads_damage, waits_of}
use Rattle.mail_talk.proofs.unit.take_unit.Goals as goal

pub returns-then-branch : goal.returns-then-branch
returns-then-branch c =
    reads_response _ _ _ _ _ _ _ _ c.requires (gives_of _ _ _ _ c.in-Ok-true.is c.in-Ok-true.field-0-test c.advance.ensures) c.unit.ensures c.unit-in-Ok-true.ensures
    c.in_ok-tell_unit-in-Ok-true.ensures.is_response c.if-branch.true c.in_ok-tell_unit-in-Ok-true.ensures.tells

pub returns-else-branch : goal.returns-else-branch
returns-else-branch c =
    reads_damage _ _ _ _ _ _ _ c.requires (gives_of _ _ _ _ c.in-Ok-true.is c.in-Ok-true.field-0-test c.advance.ensures) c.unit-in-Ok-true.ensures
    c.in_ok-tell_unit-in-Ok-true.ensures.is_response c.if-branch.false c.in_ok-tell_unit-in-Ok-true.ensures.tells

pub returns-in-Ok-false : goal.returns-in-Ok-false
returns-in-Ok-false c =
    let waits = waits_of _ _ _ _ c.in-Ok-false.is c.in-Ok-false.field-0-test c.advance.ensures in
    takes_incomplete _ _ _ _ c.requires waits.0 (ap (λ (cut : Cut). cut.rest) waits.1)

pub returns-in-Err : goal.returns-in-Err
returns-in-Err c = takes_long _ _ _ c.advance.new.self.rest _ c.requires c.in-Err.ensures.0 c.damage.ensures
