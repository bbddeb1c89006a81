-- Cuts of a text at a byte.
use Rattle.std.specs.Prelude.{◌≡◌, ℕ, ◌⊎◌, not, ◌==◌, List, [], ◌∷◌, true, drop}
use Rattle.std.specs.List.{list_all}

-- the byte isn't among the bytes
abbrev pub LacksByte : ℕ → List ℕ → Type 0
LacksByte byte bytes = list_all (λ b. not (b == byte)) bytes ≡ true

-- the bytes are empty or begin with the byte
abbrev pub BeginsWithByte : ℕ → List ℕ → Type 0
BeginsWithByte byte [] = Unit {0}
BeginsWithByte byte (b ∷ bytes) = b ≡ byte

-- The byte is at offset `len` and `end` is the offset after it; or both are the text's end.
abbrev pub IsCutAt : ℕ → List ℕ → ℕ → ℕ → Type 0
IsCutAt byte text len end = (drop len text ≡ byte ∷ drop end text) ⊎ ((drop len text ≡ []) × (drop end text ≡ []))
