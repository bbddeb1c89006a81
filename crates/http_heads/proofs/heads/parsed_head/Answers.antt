use Rattle.std.proofs.Common.{ap, Err, sym, ◌∙◌}
use Rattle.http_heads.specs.Places.{is_in_target}
use Rattle.http_heads.proofs.Rooms.{never, none_now}
use Rattle.http_heads.proofs.Scans.{in_target, seen_target}
use Rattle.http_heads.proofs.heads.parsed_head.Goals as goal

pub returns-then-is_in_target : goal.returns-then-is_in_target
returns-then-is_in_target c =
    let hopeless = never c.args.bytes.now _ c.in-Err.field-0 c.requires.room
    c.in-Err.ensures.invalid (λ same. c.in-Err.ensures.too_many (ap Err same)) in
    (none_now c.args.bytes.now hopeless, λ bad. bad.1 (seen_target c.args.bytes.now (ap is_in_target (sym c.requires.scanned) ∙ sym c.is_in_target.ensures ∙ c.if-is_in_target.true)))

pub returns-else-is_in_target : goal.returns-else-is_in_target
returns-else-is_in_target c = (
  never c.args.bytes.now _ c.in-Err.field-0 c.requires.room
      c.in-Err.ensures.invalid (λ same. c.in-Err.ensures.too_many (ap Err same)),
  λ ends. let here = in_target c.args.bytes.now ends in let is = c.is_in_target.ensures in let scanned = c.requires.scanned in let not = c.if-is_in_target.false in absurd (cc (here, is, scanned, not)),
)
