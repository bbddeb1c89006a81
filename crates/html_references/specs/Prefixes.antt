-- Words at the beginning of a text.
use Rattle.std.specs.Prelude.{ℕ, Bool, true, false, ◌&&◌, ◌==◌, List, [], ◌∷◌}
use Rattle.html_syntax.specs.Characters.{lower}

-- the text begins with the word, in letters of either case
abbrev pub begins_ignore_case : List ℕ → List ℕ → Bool
begins_ignore_case [] text = true
begins_ignore_case (w ∷ word) [] = false
begins_ignore_case (w ∷ word) (c ∷ text) = w == lower c && begins_ignore_case word text
