-- The tree of a message as callers see it.
use Rattle.std.specs.Prelude.{ℕ, Bool, List, Option}
use Rattle.header_words.specs.Fields.{Header}
use Rattle.transfer_codings.specs.declared.coding.Coding.{Coding}

-- a part: its section, its Content-* fields, whether it is in a message in the message, and the place of its body
pub record PartValue : Type 0 where
  pub section : List ℕ
  pub mime : List ℕ
  pub charset : List ℕ
  pub coding : Coding
  pub name : List ℕ
  pub id : Option (List ℕ)
  pub location : Option (List ℕ)
  pub format : Option Bool
  pub attached : Bool
  pub enclosed : Bool
  pub start : ℕ
  pub bytes : List ℕ

-- the fields of the message, its parts in tree order, and whether the message itself is an alternative
pub record TreeValue : Type 0 where
  pub header : Header
  pub alternative : Bool
  pub parts : List PartValue
