-- Messages that are built.
use Rattle.std.proofs.Common.{◌≡◌, ℕ, ℤ, Ok, Err}
use Rattle.std.specs.Prelude.{Result, IfOk}
use Rattle.std.specs.Global.{Vec}
use Rattle.jiff_core.specs.declared.civil.datetime.DateTime.{DateTime}
use Rattle.site_asks.specs.declared.Draft.{Draft}
use Rattle.compose_drafts.specs.declared.parties.Parties.{Parties}
use Rattle.compose_drafts.specs.Drafts.{IsMessage}
use Rattle.compose_drafts.specs.Message.{message}
use Rattle.compose_drafts.specs.Moments.{Shows}

pub built_at : {E : Type 0} (draft : Draft) (parties : Parties) (moment : ℤ) (clock : DateTime) (built : Result (Vec ℕ) E) → Shows moment clock → IfOk built (λ b. b.items ≡ message draft parties clock) → IfOk built (λ b. IsMessage draft parties moment b.items)
built_at draft parties moment clock (Ok bytes) shows e = record { clock = clock; shows = shows; bytes_are = e }
built_at draft parties moment clock (Err fault) shows e = tt
