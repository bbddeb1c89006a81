-- The units of a whole stream.
use Rattle.std.specs.Prelude.{◌≡◌, ℕ, ◌+◌, List, ◌++◌, length, Result, Ok, Err}
use Rattle.std.specs.List.{concat, AllByRecursion}
use Rattle.std.specs.Global.{Vec}
pub use Rattle.mail_values.specs.Ascii.{bytes_of_vecs}
use Rattle.imap_framing.specs.declared.stream.StreamFault.{StreamFault}
use Rattle.imap_framing.specs.declared.stream.StreamFault.TheVariants.{TooLong, Memory}
use Rattle.imap_framing.specs.Units.{IsUnit, IsIncomplete, HasTooLongLiteral}
use Rattle.imap_framing.specs.Cuts.{Cut}

-- a stream is some parts and a rest
pub record SplitsStream (IsPart : List ℕ → Type 0) (stream : List ℕ) (parts : List (List ℕ)) (rest : List ℕ) : Type 0 where
  pub whole : stream ≡ concat parts ++ rest
  pub each : AllByRecursion IsPart parts

-- parts were taken from the front of a stream
pub record TakesParts (IsPart : List ℕ → Type 0) (old : Cut) (before : List (List ℕ)) (new : Cut) (after : List (List ℕ)) : Type 0 where
  pub more : List (List ℕ)
  pub added : after ≡ before ++ more
  pub splits : SplitsStream IsPart old.rest more new.rest
  pub at : new.at ≡ old.at + length (concat more)

abbrev pub TakesAllUnits : Cut → List (List ℕ) → Result Unit StreamFault → Cut → List (List ℕ) → Type 0
TakesAllUnits old before (Ok u) new after = TakesParts IsUnit old before new after × IsIncomplete new.rest
TakesAllUnits old before (Err (TooLong at)) new after = TakesParts IsUnit old before new after × HasTooLongLiteral new.rest × (at ≡ new.at)
TakesAllUnits old before (Err Memory) new after = Unit {0}

-- the units of a stream, or the offset of the unit with a literal that is too long
abbrev pub ReadsUnits : List ℕ → Result (Vec (Vec ℕ)) StreamFault → Type 0
ReadsUnits stream (Ok units) = (rest : List ℕ) × SplitsStream IsUnit stream (bytes_of_vecs units.items) rest × IsIncomplete rest
ReadsUnits stream (Err (TooLong at)) = (units : List (List ℕ)) × (rest : List ℕ) × SplitsStream IsUnit stream units rest × HasTooLongLiteral rest × (at ≡ length (concat units))
ReadsUnits stream (Err Memory) = Unit {0}
