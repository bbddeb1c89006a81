-- What calls do to what an object tells. An object that tells nothing has `None`.
use Rattle.std.specs.Prelude.{◌≡◌, ℕ, ◌+◌, ◌<◌, ◌≤◌, List, [], ◌∷◌, ◌++◌, length, take, Option, Some, None, ⊤}
use Rattle.std.specs.Io.KnownBytes.{Appends}

-- what is told stays
abbrev pub KeepsTold : {T : Type 0} → Option T → Option T → Type 0
KeepsTold None new = ⊤
KeepsTold (Some old) None = ⊥
KeepsTold (Some old) (Some new) = new ≡ old

-- a number that is told grows by one
abbrev pub CountsOne : Option ℕ → Option ℕ → Type 0
CountsOne None new = ⊤
CountsOne (Some count) None = ⊥
CountsOne (Some count) (Some more) = more ≡ count + 1

-- a list that is told grows by an item at its end
abbrev pub AppendsTold : {T : Type 0} → Option (List T) → Option (List T) → T → Type 0
AppendsTold None new item = ⊤
AppendsTold (Some list) None item = ⊥
AppendsTold (Some list) (Some longer) item = longer ≡ list ++ item ∷ []

-- bytes that are told grow by a prefix of some bytes
abbrev pub AppendsPrefix : Option (List ℕ) → Option (List ℕ) → List ℕ → Type 0
AppendsPrefix old new bytes = (count : ℕ) × (count ≤ length bytes) × Appends old new (take count bytes)

-- what tells after a call told before it, and the call added its value at the end
abbrev pub RecordsValue : {T : Type 0} → Option (List T) → Option (List T) → T → Type 0
RecordsValue old None value = ⊤
RecordsValue None (Some values) value = ⊥
RecordsValue (Some before) (Some values) value = values ≡ before ++ value ∷ []

-- no bytes, if they are told
abbrev pub IsSilent : Option (List ℕ) → Type 0
IsSilent None = ⊤
IsSilent (Some bytes) = bytes ≡ []

-- a caller that has just come in, by its faults and by what it has heard and sent
pub record IsNewCaller (faults : ℕ) (heard sent : Option (List ℕ)) : Type 0 where
  pub faultless : faults ≡ 0
  pub heard_nothing : IsSilent heard
  pub sent_nothing : IsSilent sent

-- fewer callers have left than came in, if both are told
abbrev pub HasOneInside : {T : Type 0} → Option ℕ → Option (List T) → Type 0
HasOneInside None departed = ⊤
HasOneInside (Some accepted) None = ⊤
HasOneInside (Some accepted) (Some departed) = length departed < accepted
