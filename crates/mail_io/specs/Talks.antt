-- What the calls of a link do to its talk.
use Rattle.std.specs.Prelude.{◌≡◌, ◌⊎◌, ℕ, ◌<◌, List, [], ◌∷◌, ◌++◌, length, take, Option, Some, None, ⊤}
use Rattle.account_pictures.specs.declared.talk.Piece.{Piece}
use Rattle.account_pictures.specs.declared.talk.Piece.TheVariants.{Said}

-- a talk that is told grows by a piece; one that isn't told stays so
abbrev pub AppendsPiece : Option (List Piece) → Option (List Piece) → Piece → Type 0
AppendsPiece None None piece = ⊤
AppendsPiece None (Some longer) piece = ⊥
AppendsPiece (Some talk) None piece = ⊥
AppendsPiece (Some talk) (Some longer) piece = longer ≡ talk ++ piece ∷ []

-- a talk that is told stays, and one that isn't stays so
abbrev pub KeepsTalk : Option (List Piece) → Option (List Piece) → Type 0
KeepsTalk None None = ⊤
KeepsTalk None (Some same) = ⊥
KeepsTalk (Some talk) None = ⊥
KeepsTalk (Some talk) (Some same) = same ≡ talk

-- a proper prefix of some bytes was said
pub record GrowsByPrefix (talk longer : List Piece) (bytes : List ℕ) : Type 0 where
  pub count : ℕ
  pub proper : count < length bytes
  pub said : longer ≡ talk ++ Said (take count bytes) ∷ []

-- the last piece says no bytes
pub record EndsInNothingSaid (talk : List Piece) : Type 0 where
  pub front : List Piece
  pub last : talk ≡ front ++ Said [] ∷ []

-- the last piece says no bytes, and nothing is appended
abbrev pub StaysAtNothingSaid : List Piece → List Piece → Type 0
StaysAtNothingSaid talk same = EndsInNothingSaid talk × (same ≡ talk)

-- a talk that is told grows by a proper prefix of some bytes. After a piece of no bytes it may stay. One that isn't told stays so.
abbrev pub SaysPrefix : Option (List Piece) → Option (List Piece) → List ℕ → Type 0
SaysPrefix None None bytes = ⊤
SaysPrefix None (Some longer) bytes = ⊥
SaysPrefix (Some talk) None bytes = ⊥
SaysPrefix (Some talk) (Some longer) bytes = GrowsByPrefix talk longer bytes ⊎ StaysAtNothingSaid talk longer
