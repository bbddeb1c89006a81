-- A list of values that calls return in order, and then the last one again and again.
use Rattle.std.specs.Prelude.{ℕ, zero, suc, ◌-◌, ◌^◌, nat_lt, min, if◌then◌else◌, List, [], ◌++◌, length, take, drop, Option, Some, None}

pub record SeriesState (T : Type 0) : Type 0 where
  pub values : List T
  -- the calls so far, at most 2^64 - 1
  pub calls : ℕ

-- the value that a call returns after `calls` others, as a list of one
abbrev pub value_after : {T : Type 0} → List T → ℕ → List T
value_after values calls = take 1 (drop (min calls (length values - 1)) values)

-- the values that the first calls return
unfoldable pub returned : {T : Type 0} → List T → ℕ → List T
returned values zero = []
returned values (suc calls) = returned values calls ++ value_after values calls

-- they are told as long as their number is less than 2^64 - 1
unfoldable pub told_values : {T : Type 0} → SeriesState T → Option (List T)
told_values series = if nat_lt series.calls (2 ^ 64 - 1) then Some (returned series.values series.calls) else None
