use Rattle.std.proofs.Common.{◌≡◌, take}
use Rattle.std.specs.Prelude.{string_bytes}
use Rattle.mail_values.specs.Section.{spelling}
use Rattle.mail_values.proofs.sections.Section.spell.Given as goal

abbrev pub invariant-loop-number : goal.invariant-loop-number
invariant-loop-number l = string_bytes l.text ≡ spelling (take l.number-index l.number-items)
