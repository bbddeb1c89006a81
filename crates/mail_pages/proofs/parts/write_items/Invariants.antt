use Rattle.std.proofs.Common.{◌≡◌, take}
use Rattle.page_frames.specs.Elements.{with_tokens}
use Rattle.mail_pages.specs.Parts.{part_items}
use Rattle.mail_pages.proofs.parts.write_items.Given as goal

abbrev pub invariant-loop-part : goal.invariant-loop-part
invariant-loop-part l = l.out ≡ with_tokens l.initial.out (part_items l.place (take l.part-index l.parts)) l.initial.out.opened
