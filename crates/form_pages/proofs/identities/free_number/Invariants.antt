use Rattle.std.proofs.Common.{◌≡◌, ◌-◌, find}
use Rattle.std.specs.List.{range_with_len}
use Rattle.form_pages.specs.Identities.{is_free}
use Rattle.form_pages.proofs.identities.free_number.Given as goal

abbrev pub invariant-loop-number : goal.invariant-loop-number
invariant-loop-number l = find (is_free l.kept) (range_with_len l.number (17 - l.number)) ≡ find (is_free l.kept) (range_with_len 1 16)
