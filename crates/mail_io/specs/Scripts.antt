-- The bytes that a link in memory is going to give.
use Rattle.std.specs.Prelude.{ℕ, nat_lt, if◌then◌else◌, List, [], ◌∷◌, length, drop}

pub record ScriptState : Type 0 where
  -- the chunks that are left of this dial: a call gives bytes of the first alone
  pub chunks : List (List ℕ)
  -- the chunks of each dial to come
  pub dials : List (List (List ℕ))

-- the chunks after the first bytes of the first chunk
abbrev pub drop_front : ℕ → List (List ℕ) → List (List ℕ)
drop_front n [] = []
drop_front n (chunk ∷ chunks) = drop n chunk ∷ chunks

-- the bytes that one call can give: the first chunk, none at the end
abbrev pub front_chunk : List (List ℕ) → List ℕ
front_chunk [] = []
front_chunk (chunk ∷ chunks) = chunk

-- the chunks after bytes of the first were given. One that is used up goes.
abbrev pub chunks_after : ℕ → List (List ℕ) → List (List ℕ)
chunks_after n [] = []
chunks_after n (chunk ∷ chunks) = if nat_lt n (length chunk) then drop n chunk ∷ chunks else chunks

-- a dial gives its own chunks, none if no dial was foreseen
abbrev pub script_of : List (List (List ℕ)) → ScriptState
script_of [] = record { chunks = []; dials = [] }
script_of (dial ∷ dials) = record { chunks = dial; dials = dials }
