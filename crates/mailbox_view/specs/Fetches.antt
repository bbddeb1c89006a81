-- A FETCH of the folder that is concerned.
use Rattle.std.specs.Prelude.{◌≡◌, ℕ, List, Option, Some, None, Result, Ok, Err}
use Rattle.mailbox_rows.specs.declared.row.Fields.{Fields}
use Rattle.mailbox_rows.specs.declared.fault.ViewFault.{ViewFault}
use Rattle.mailbox_rows.specs.declared.fault.ViewFault.TheVariants.{TooMany, Memory}
use Rattle.mailbox_rows.specs.Mailboxes.{MailboxState}
use Rattle.mailbox_view.specs.Fetched.{with_fetch, excess_of}
use Rattle.mailbox_view.specs.Selections.{with_concerned, concerned_box}

-- the numbers that are too many for the folder that is concerned
abbrev pub excess_in : ℕ → Fields → Option MailboxState → Option (ℕ × ℕ)
excess_in uid fields None = None
excess_in uid fields (Some box) = excess_of uid fields box

-- a FETCH of one message is applied to the folder at a place
abbrev pub AppliesFetchAt : List MailboxState → Option ℕ → ℕ → Fields → Result Unit ViewFault → List MailboxState → Type 0
AppliesFetchAt old place uid fields (Ok u) new = (excess_in uid fields (concerned_box place old) ≡ None) × (new ≡ with_concerned place (with_fetch uid fields) old)
AppliesFetchAt old place uid fields (Err (TooMany count bytes)) new = (excess_in uid fields (concerned_box place old) ≡ Some (count, bytes)) × (new ≡ with_concerned place (with_fetch uid fields) old)
AppliesFetchAt old place uid fields (Err Memory) new = new ≡ old
