-- A stream of bytes that is cut into units.
use Rattle.std.specs.Prelude.{◌≡◌, ℕ, ◌+◌, Bool, true, false, List, [], ◌++◌, length, Result, Ok, Err}
use Rattle.imap_framing.specs.declared.reader.TooLong.{TooLong}
use Rattle.imap_framing.specs.Units.{IsUnit, IsIncomplete, HasTooLongLiteral}

pub record Cut : Type 0 where
  -- the unit that was returned last, while it is held
  pub given : List ℕ
  -- the bytes after it
  pub rest : List ℕ
  -- the offset of those bytes in the stream
  pub at : ℕ

abbrev pub empty_cut : Cut
empty_cut = record { given = []; rest = []; at = 0 }

-- with more bytes at the end
abbrev pub with_bytes : Cut → List ℕ → Cut
with_bytes cut bytes = record { given = []; rest = cut.rest ++ bytes; at = cut.at }

-- with no unit held
abbrev pub without_given : Cut → Cut
without_given cut = record { given = []; rest = cut.rest; at = cut.at }

-- the next unit is given
pub record GivesUnit (old new : Cut) : Type 0 where
  pub unit : IsUnit new.given
  pub whole : old.rest ≡ new.given ++ new.rest
  pub at : new.at ≡ old.at + length new.given

-- the unit that was given is again the next
pub record GivesBack (old new : Cut) : Type 0 where
  pub none : new.given ≡ []
  pub whole : new.rest ≡ old.given ++ old.rest
  pub at : new.at + length old.given ≡ old.at

abbrev pub AdvancesCut : Cut → Result Bool TooLong → Cut → Type 0
AdvancesCut old (Ok true) new = GivesUnit old new
AdvancesCut old (Ok false) new = IsIncomplete old.rest × (new ≡ without_given old)
AdvancesCut old (Err fault) new = HasTooLongLiteral old.rest × (fault.at ≡ old.at) × (new ≡ without_given old)
