-- How a response is applied.
use Rattle.std.specs.Prelude.{◌≡◌, ℕ, Option, Some, None, Result, Ok, Err}
use Rattle.mailbox_rows.specs.declared.fault.ViewFault.{ViewFault}
use Rattle.mailbox_rows.specs.declared.fault.ViewFault.TheVariants.{TooMany, Memory}
use Rattle.mailbox_view.specs.View.{ViewState}

-- the view is what was told. The result has the numbers that are too many, if there are any; out of memory, nothing is said.
abbrev pub AppliesAs : Option (ℕ × ℕ) → ViewState → Result Unit ViewFault → ViewState → Type 0
AppliesAs excess told (Ok u) new = (excess ≡ None) × (new ≡ told)
AppliesAs excess told (Err (TooMany count bytes)) new = (excess ≡ Some (count, bytes)) × (new ≡ told)
AppliesAs excess told (Err Memory) new = Unit {0}
