-- How a finished page is written to a sink.
use Rattle.std.specs.Prelude.{◌≡◌, ℕ, List, ◌++◌, Option}
use Rattle.std.specs.Io.KnownBytes.{Appends}
use Rattle.page_writer.specs.Bytes.{spell_bytes}

-- the bytes of markup and of a text after it that isn't spelled yet
abbrev pub segment_bytes : List ℕ → List ℕ → List ℕ
segment_bytes markup text = markup ++ spell_bytes text

-- all of `bytes` was appended but `rest`
pub record AppendsUpTo (before now : Option (List ℕ)) (bytes rest : List ℕ) : Type 0 where
  pub done : List ℕ
  pub appended : Appends before now done
  pub splits : done ++ rest ≡ bytes
