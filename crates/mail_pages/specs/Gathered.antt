-- A text that is written to a page in pieces.
use Rattle.std.specs.Prelude.{◌≡◌, ℕ, List, ◌++◌}
use Rattle.page_writer.specs.Writer.{Page}
use Rattle.page_frames.specs.Elements.{text}

-- What was gathered and then `more` is now written or gathered, whatever comes after it.
pub record GathersText (before : Page) (gathered : List ℕ) (after : Page) (left : List ℕ) (more : List ℕ) : Type 0 where
  pub written : (rest : List ℕ) → after.written ++ (text left ++ text rest) ≡ before.written ++ (text gathered ++ text (more ++ rest))
  pub opened : after.opened ≡ before.opened
