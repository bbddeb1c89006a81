-- Tables and the numbers that name them.
use Rattle.std.specs.Prelude.{ℕ, List, [], slice_get}
use Rattle.std.specs.Option.{option_map_or}
use Rattle.atomic_table.specs.Seated.{TableId}

-- what contracts see of a blank: the number of the desk, and the table
pub record BlankPicture : Type 0 where
  pub number : ℕ
  pub table_id : TableId

-- no desk has this table
abbrev pub no_table : TableId
no_table = record { words = 0; slots = 0; views_name = 0; atom = 0; block = 0; offset = 0; slot_names = [] }

-- the naming for blanks that are numbered from 0: each number names the table of the blank at that index
abbrev pub table_of_blank : List BlankPicture → ℕ → TableId
table_of_blank blanks number = option_map_or (λ (b : BlankPicture). b.table_id) (slice_get blanks number) no_table
