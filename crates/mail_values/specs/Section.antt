-- Part numbers, and how they are spelled (RFC 9051 §6.4.5.1, section-part).
use Rattle.std.specs.Prelude.{◌≡◌, ℕ, ◌-◌, ◌^◌, ◌<◌, ◌≤◌, List, [], ◌∷◌, ◌++◌, length, take, map, replicate, decimal}
use Rattle.std.specs.Prelude.{Option, Some, None}
use Rattle.std.specs.List.{All, join_with_byte}

-- the number of a part among its siblings
pub record IsNumber (n : ℕ) : Type 0 where
  pub nonzero : 1 ≤ n
  pub small : n < 2 ^ 16

-- 1 to 40 numbers, from 1 to 65,535
pub record IsSection (numbers : List ℕ) : Type 0 where
  pub nonempty : 1 ≤ length numbers
  pub few : length numbers ≤ 40
  pub each : All IsNumber numbers

-- the numbers in decimal, separated by dots
abbrev pub spelling : List ℕ → List ℕ
spelling numbers = join_with_byte 46 (map decimal numbers)

-- the numbers, and zeros up to 40 in all
abbrev pub padded : List ℕ → List ℕ
padded numbers = numbers ++ replicate (40 - length numbers) 0

-- the first `count` of 40 numbers are a section, and the others are zeros
pub record IsPadded (numbers : List ℕ) (count : ℕ) : Type 0 where
  pub size : length numbers ≡ 40
  pub padding : numbers ≡ padded (take count numbers)
  pub section : IsSection (take count numbers)
  pub within : count ≤ 40

-- the numbers of a section, none if there is none
abbrev pub numbers_of : Option (List ℕ) → List ℕ
numbers_of None = []
numbers_of (Some numbers) = numbers

-- a spelling with a number appended
abbrev pub spelling_with : List ℕ → ℕ → List ℕ
spelling_with [] n = decimal n
spelling_with (b ∷ bs) n = b ∷ bs ++ 46 ∷ decimal n
