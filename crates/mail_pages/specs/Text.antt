-- Line ends of a text.
use Rattle.std.specs.Prelude.{ℕ, Bool, ◌==◌, if◌then◌else◌, List, [], ◌∷◌, ◌++◌}
use Rattle.std.specs.List.{slice_split, flat_map}

abbrev pub is_carriage_return : ℕ → Bool
is_carriage_return b = b == 13

abbrev pub skip_line_feed : List ℕ → List ℕ
skip_line_feed [] = []
skip_line_feed (b ∷ bs) = if b == 10 then bs else b ∷ bs

-- the pieces between carriage returns, each on a line of its own; a line feed directly after a carriage return belongs to it
abbrev pub join_lines : List (List ℕ) → List ℕ
join_lines [] = []
join_lines (first ∷ more) = first ++ flat_map (λ piece. 10 ∷ skip_line_feed piece) more

-- a text in UTF-8 with CR LF and lone CR as LF
unfoldable pub with_line_feeds : List ℕ → List ℕ
with_line_feeds text = join_lines (slice_split is_carriage_return text)
