-- The fields of a reader of units.
use Rattle.std.specs.Prelude.{ℕ, ◌+◌, ◌-◌, ◌^◌, ◌<◌, ◌≤◌, List, length, take, drop}
use Rattle.imap_framing.specs.declared.scan.Phase.{Phase}
use Rattle.imap_framing.specs.Scans.{PhaseIs}
use Rattle.imap_framing.specs.Cuts.{Cut}

abbrev pub cut_of : List ℕ → ℕ → ℕ → ℕ → Cut
cut_of buffer base given start = record { given = take (start - given) (drop given buffer); rest = drop start buffer; at = base + start }

pub record IsHeld (buffer : List ℕ) (base given start scanned : ℕ) (phase : Phase) : Type 0 where
  pub behind : given ≤ start
  pub within : start ≤ length buffer
  pub scanned_within : scanned ≤ length (drop start buffer)
  pub here : PhaseIs (take scanned (drop start buffer)) phase
  pub countable : base + length buffer < 2 ^ 64
