-- Lines that end with CR LF (RFC 5322 §2.3).
use Rattle.std.specs.Prelude.{◌≡◌, ℕ, ◌==◌, ◌||◌, Bool, true, not, List}
use Rattle.std.specs.List.{flat_map, list_all}
use Rattle.mail_values.specs.Ascii.{line_feed, carriage_return}
use Rattle.compose_drafts.specs.Texts.{ended}

abbrev pub is_unbroken : ℕ → Bool
is_unbroken c = not (c == carriage_return || c == line_feed)

-- whether a line has neither CR nor LF
abbrev pub is_line : List ℕ → Bool
is_line line = list_all is_unbroken line

-- bytes are lines that end with CR LF: no other CR and no other LF is among them, and nothing comes after the last
pub record IsLines (bytes : List ℕ) : Type 0 where
  pub lines : List (List ℕ)
  pub are_lines : list_all is_line lines ≡ true
  pub bytes_are : bytes ≡ flat_map ended lines
