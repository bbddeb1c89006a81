-- The bytes of strings, wherever they are in memory.
use Rattle.std.specs.Prelude.{ℕ, List, Option, Some, None}
use Rattle.imap_values.specs.declared.lent.Lent.{Lent}
use Rattle.imap_values.specs.declared.lent.Lent.TheVariants as lents

abbrev pub bytes_of : Lent → List ℕ
bytes_of (lents.Slice slice) = slice.now
bytes_of (lents.Made bytes) = bytes

abbrev pub bytes_or_nil : Option Lent → Option (List ℕ)
bytes_or_nil None = None
bytes_or_nil (Some text) = Some (bytes_of text)
