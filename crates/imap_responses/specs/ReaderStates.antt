-- The state of a reader of one connection's bytes, and how it changes.
use Rattle.std.specs.Prelude.{◌≡◌, ℕ, ◌⊎◌, Bool, true, false, List, ◌++◌, Option, Some, None, IsSome, Result, Ok, Err}
use Rattle.imap_framing.specs.Units.{IsUnit, IsIncomplete, HasTooLongLiteral}
use Rattle.imap_framing.specs.Cuts.{Cut, with_bytes, without_given}
use Rattle.imap_framing.specs.Cuts as cuts
use Rattle.imap_responses.specs.declared.fault.ReadFault.{ReadFault}
use Rattle.imap_responses.specs.declared.fault.ReadFault.TheVariants.{Damaged, Memory}
use Rattle.imap_grammar.specs.declared.response.Response.{Response}
use Rattle.imap_grammar.specs.Response.{response_of, data_of}

pub record ReaderState : Type 0 where
  -- the unit that was given last, and the bytes after it
  pub cut : Cut
  -- no more responses are read
  pub damaged : Bool

-- a unit in the grammar
abbrev pub IsResponse : List ℕ → Type 0
IsResponse unit = IsUnit unit × IsSome (response_of unit)

-- the bytes begin with a whole unit that is no response
pub record BeginsWithNonResponse (rest : List ℕ) : Type 0 where
  pub unit : List ℕ
  pub more : List ℕ
  pub whole : IsUnit unit
  pub none : response_of unit ≡ None
  pub begins : rest ≡ unit ++ more

-- the bytes begin with a unit that is no response, or a literal of their first unit is too long
abbrev pub IsDamage : List ℕ → Type 0
IsDamage rest = HasTooLongLiteral rest ⊎ BeginsWithNonResponse rest

-- a response is given
pub record GivesResponse (old new : ReaderState) : Type 0 where
  pub sound : old.damaged ≡ false
  pub unit : cuts.GivesUnit old.cut new.cut
  pub response : IsSome (response_of new.cut.given)
  pub still_sound : new.damaged ≡ false

-- the next unit is incomplete
pub record AwaitsMore (old new : ReaderState) : Type 0 where
  pub sound : old.damaged ≡ false
  pub open_rest : IsIncomplete old.cut.rest
  pub same : new ≡ record { cut = without_given old.cut; damaged = false }

-- damage is reported, and no more responses are read
pub record ReportsDamage (old new : ReaderState) (at : ℕ) : Type 0 where
  pub at_rest : at ≡ old.cut.at
  pub why : (old.damaged ≡ true) ⊎ IsDamage old.cut.rest
  pub same_rest : new.cut.rest ≡ old.cut.rest
  pub same_at : new.cut.at ≡ old.cut.at
  pub damaged : new.damaged ≡ true

abbrev pub AdvancesReader : ReaderState → Result Bool ReadFault → ReaderState → Type 0
AdvancesReader old (Ok true) new = GivesResponse old new
AdvancesReader old (Ok false) new = AwaitsMore old new
AdvancesReader old (Err (Damaged at)) new = ReportsDamage old new at
AdvancesReader old (Err Memory) new = (old.damaged ≡ false) × (new ≡ record { cut = without_given old.cut; damaged = false })

abbrev pub FeedsReader : ReaderState → List ℕ → Result Unit ReadFault → ReaderState → Type 0
FeedsReader old bytes (Ok u) new = (old.damaged ≡ false) × (new ≡ record { cut = with_bytes old.cut bytes; damaged = false })
FeedsReader old bytes (Err (Damaged at)) new = (old.damaged ≡ true) × (at ≡ old.cut.at) × (new ≡ old)
FeedsReader old bytes (Err Memory) new = (old.damaged ≡ false) × (new ≡ old)

-- the unit that was just given is checked
abbrev pub ChecksUnit : ReaderState → Result Bool ReadFault → ReaderState → Type 0
ChecksUnit old (Ok true) new = IsSome (response_of old.cut.given) × (new ≡ old)
ChecksUnit old (Ok false) new = ⊥
ChecksUnit old (Err (Damaged at)) new = (response_of old.cut.given ≡ None) × cuts.GivesBack old.cut new.cut × (at ≡ new.cut.at) × (new.damaged ≡ true)
ChecksUnit old (Err Memory) new = cuts.GivesBack old.cut new.cut × (new.damaged ≡ false)

-- the result of `next`, from the state before it
abbrev pub NextResponseIs : ReaderState → Result (Option Response) ReadFault → Type 0
NextResponseIs old (Ok (Some response)) = (old.damaged ≡ false) × ((unit : List ℕ) × (more : List ℕ) × (old.cut.rest ≡ unit ++ more) × IsUnit unit × (response_of unit ≡ Some (data_of response)))
NextResponseIs old (Ok None) = (old.damaged ≡ false) × IsIncomplete old.cut.rest
NextResponseIs old (Err (Damaged at)) = (at ≡ old.cut.at) × ((old.damaged ≡ true) ⊎ IsDamage old.cut.rest)
NextResponseIs old (Err Memory) = Unit {0}

-- whether a unit is a response, unless memory runs out
abbrev pub TellsIfResponse : {E : Type 0} → Result Bool E → List ℕ → Type 0
TellsIfResponse (Ok true) unit = IsSome (response_of unit)
TellsIfResponse (Ok false) unit = response_of unit ≡ None
TellsIfResponse (Err e) unit = Unit {0}
