-- The message identifiers in the value of a field (RFC 5322 §3.6.4).
use Rattle.std.specs.Prelude.{ℕ, nat_eq, Bool, ◌&&◌, ◌||◌, ◌==◌, List, [], ◌∷◌, ◌++◌, drop, if◌then◌else◌, codes}
use Rattle.std.specs.List.{position_or_len, before_first, list_any, starts_with}
use Rattle.header_words.specs.Fields.{is_white}

-- what no identifier holds: `<`, `>` and white space
abbrev pub ends_id : ℕ → Bool
ends_id b = (b == 60) || ((b == 62) || is_white b)

abbrev pub is_at : ℕ → Bool
is_at b = b == 64

-- the identifier after a `<`: the bytes up to a `>`, if they hold an `@`
abbrev pub id_after : List ℕ → List (List ℕ)
id_after text =
    if starts_with nat_eq (drop (position_or_len ends_id text) text) (codes ">") && list_any is_at (before_first ends_id text)
    then before_first ends_id text ∷ []
    else []

-- the identifiers after each `<`
unfoldable pub ids_in : List ℕ → List (List ℕ)
ids_in [] = []
ids_in (b ∷ text) = (if b == 60 then id_after text else []) ++ ids_in text
