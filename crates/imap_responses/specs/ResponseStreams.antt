-- The responses in all bytes of one connection.
use Rattle.std.specs.Prelude.{◌≡◌, ℕ, ◌⊎◌, false, List, length, Result, Ok, Err}
use Rattle.std.specs.List.{concat}
use Rattle.std.specs.Global.{Vec}
use Rattle.imap_framing.specs.Units.{IsIncomplete}
use Rattle.imap_framing.specs.Streams.{SplitsStream, TakesParts, bytes_of_vecs}
use Rattle.imap_responses.specs.declared.fault.ReadFault.{ReadFault}
use Rattle.imap_responses.specs.declared.fault.ReadFault.TheVariants.{Damaged, Memory}
use Rattle.imap_responses.specs.ReaderStates.{ReaderState, IsResponse, IsDamage}

abbrev pub TakesAllResponses : ReaderState → List (List ℕ) → Result Unit ReadFault → ReaderState → List (List ℕ) → Type 0
TakesAllResponses old before (Ok u) new after = TakesParts IsResponse old.cut before new.cut after × (new.damaged ≡ false) × IsIncomplete new.cut.rest
TakesAllResponses old before (Err (Damaged at)) new after = TakesParts IsResponse old.cut before new.cut after × IsDamage new.cut.rest × (at ≡ new.cut.at)
TakesAllResponses old before (Err Memory) new after = Unit {0}

-- the responses in the bytes of a connection, or the offset of the damage after them
abbrev pub ReadsResponses : List ℕ → Result (Vec (Vec ℕ)) ReadFault → Type 0
ReadsResponses bytes (Ok units) = (rest : List ℕ) × SplitsStream IsResponse bytes (bytes_of_vecs units.items) rest × IsIncomplete rest
ReadsResponses bytes (Err (Damaged at)) = (units : List (List ℕ)) × (rest : List ℕ) × SplitsStream IsResponse bytes units rest × IsDamage rest × (at ≡ length (concat units))
ReadsResponses bytes (Err Memory) = Unit {0}

-- a rest from which no response is read
abbrev pub IsEnd : List ℕ → Type 0
IsEnd rest = IsIncomplete rest ⊎ IsDamage rest

-- bytes are cut into responses in one way only
abbrev pub SplitIsUnique : Type 0
SplitIsUnique = (bytes : List ℕ) (us vs : List (List ℕ)) (r q : List ℕ) → SplitsStream IsResponse bytes us r → IsEnd r → SplitsStream IsResponse bytes vs q → IsEnd q → (us ≡ vs) × (r ≡ q)

-- an incomplete unit is no damage
abbrev pub EndsAreDistinct : Type 0
EndsAreDistinct = (rest : List ℕ) → IsIncomplete rest → IsDamage rest → ⊥
