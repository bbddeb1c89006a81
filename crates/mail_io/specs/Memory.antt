-- How contracts see a source and a sink in memory.
use Rattle.std.specs.Prelude.{ℕ, ◌+◌, ◌-◌, ◌^◌, min, List}

-- the bytes that are left, the calls and the faults so far, and the numbers of the calls that fail, from 1
pub record SourceState : Type 0 where
  pub left : List ℕ
  pub calls : ℕ
  pub faults : ℕ
  pub failing : List ℕ

-- the bytes taken, the room for all of them, the calls and the faults so far, and the numbers of the calls that fail
pub record SinkState : Type 0 where
  pub taken : List ℕ
  pub room : ℕ
  pub calls : ℕ
  pub faults : ℕ
  pub failing : List ℕ

-- one more, up to the end of the type
abbrev pub next_count : ℕ → ℕ
next_count n = min (n + 1) (2 ^ 64 - 1)
