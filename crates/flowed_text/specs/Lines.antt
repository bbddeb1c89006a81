-- The lines of a text. Each ends at CR LF, LF or CR; a last one without an ending counts unless it is empty.
use Rattle.std.specs.Prelude.{ℕ, Bool, ◌==◌, ◌||◌, if◌then◌else◌, List, [], ◌∷◌, length}
use Rattle.std.specs.List.{slice_split}
use Rattle.flowed_text.specs.Bytes.{line_feed, carriage_return}

abbrev pub is_ending : ℕ → Bool
is_ending b = b == carriage_return || b == line_feed

-- a text without its first byte, if that is c
abbrev pub strip_first : ℕ → List ℕ → List ℕ
strip_first c [] = []
strip_first c (b ∷ bs) = if b == c then bs else b ∷ bs

-- a text in which each line ending is one character: the LF of each CR LF is removed
abbrev pub single_endings : List ℕ → List ℕ
single_endings [] = []
single_endings (b ∷ bs) = b ∷ (if b == carriage_return then strip_first line_feed (single_endings bs) else single_endings bs)

abbrev pub without_empty_last : List (List ℕ) → List (List ℕ)
without_empty_last [] = []
without_empty_last (line ∷ []) = if length line == 0 then [] else line ∷ []
without_empty_last (line ∷ next ∷ more) = line ∷ without_empty_last (next ∷ more)

-- the lines, without their endings
unfoldable pub lines : List ℕ → List (List ℕ)
lines text = without_empty_last (slice_split is_ending (single_endings text))

-- a text without the line ending at its front
abbrev pub skip_line_ending : List ℕ → List ℕ
skip_line_ending [] = []
skip_line_ending (b ∷ bs) = if b == carriage_return then strip_first line_feed bs else strip_first line_feed (b ∷ bs)
