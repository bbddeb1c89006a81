-- The bytes of borrowed slices.
use Rattle.std.specs.Prelude.{ℕ, List, map, Option, Some, None}
use Rattle.std.specs.Borrow.{Bor}

-- the bytes of each slice
abbrev pub slices_of : List (Bor (List ℕ)) → List (List ℕ)
slices_of slices = map (λ s. s.now) slices

abbrev pub slice_of : Option (Bor (List ℕ)) → Option (List ℕ)
slice_of None = None
slice_of (Some slice) = Some slice.now
