use Rattle.std.proofs.Common.{◌≡◌, take}
use Rattle.std.specs.List.{flat_map}
use Rattle.page_frames.specs.Elements.{with_tokens}
use Rattle.form_pages.specs.Identities.{kept_form}
use Rattle.form_pages.proofs.identities.write_kept_forms.Given as goal

abbrev pub invariant-loop-number : goal.invariant-loop-number
invariant-loop-number l = l.out ≡ with_tokens l.initial.out (flat_map (kept_form l.key) (take l.number-index l.kept)) l.initial.out.opened
