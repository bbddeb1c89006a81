-- Short names as numbers, and numbers in rising order.
use Rattle.std.specs.Prelude.{ℕ, ◌+◌, ◌-◌, ◌*◌, Bool, ◌&&◌, ◌==◌, cond, List, length, slice_index}
use Rattle.std.specs.Bool.{nat_lt, nat_le}
use Rattle.std.specs.List.{fold, list_all}

-- the digit 1, and then each byte as a digit to base 256
abbrev pub pack : List ℕ → ℕ
pack name = fold (λ n b. n * 256 + b) 1 name

-- the name has at most fifteen bytes
unfoldable pub is_short : List ℕ → Bool
is_short name = nat_le (length name) 15 && list_all (λ b. nat_lt b 256) name

-- one more than the last of rising numbers, so above each of them
abbrev pub ceiling : List ℕ → ℕ
ceiling rising = cond (length rising == 0) 0 (slice_index rising (length rising - 1) + 1)
