-- The characters that end a comment (13.2.5.50 to 13.2.5.52).
use Rattle.std.specs.Prelude.{ℕ, ◌==◌, ◌&&◌, ◌||◌, if◌then◌else◌, List, [], ◌∷◌}
use Rattle.html_syntax.specs.Characters.{hyphen, greater_than, exclamation_mark}

-- the length of the ending whose two hyphens are right before the text
abbrev pub closing_len_after_hyphens : List ℕ → ℕ
closing_len_after_hyphens [] = 2
closing_len_after_hyphens (c ∷ []) = if c == greater_than || c == exclamation_mark then 3 else 0
closing_len_after_hyphens (c ∷ d ∷ text) = if c == greater_than then 3 else (if c == exclamation_mark && d == greater_than then 4 else 0)

-- The length of the ending that the text begins with: `-->` or `--!>`, or the part of them before the text's end. 0 if the comment
-- goes on.
abbrev pub closing_len : List ℕ → ℕ
closing_len [] = 0
closing_len (c ∷ []) = if c == hyphen then 1 else 0
closing_len (c ∷ d ∷ text) = if c == hyphen && d == hyphen then closing_len_after_hyphens text else 0

-- The length of `>` or `->`, which end a comment right at its beginning, else 0.
abbrev pub abrupt_len : List ℕ → ℕ
abrupt_len [] = 0
abrupt_len (c ∷ []) = if c == greater_than then 1 else 0
abrupt_len (c ∷ d ∷ text) = if c == greater_than then 1 else (if c == hyphen && d == greater_than then 2 else 0)
