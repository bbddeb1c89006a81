-- The data of a FETCH item, wherever its bytes are in memory.
use Rattle.std.specs.Prelude.{ℕ, ℤ, List, map, Option}
use Rattle.imap_values.specs.Lents.{bytes_or_nil}
use Rattle.imap_grammar.specs.declared.response.Item.{Item}
use Rattle.imap_grammar.specs.declared.response.Item.TheVariants as items

-- a header or body is None if it is NIL
pub data ItemData : Type 0 where
  Uid : ℕ → ItemData
  Flags : List (List ℕ) → ItemData
  Modseq : ℕ → ItemData
  Internal : ℤ → ItemData
  Size : ℕ → ItemData
  Header : Option (List ℕ) → ItemData
  Body : Option (List ℕ) → ItemData
  OtherItem : ItemData

abbrev pub item_data_of : Item → ItemData
item_data_of (items.Uid n) = Uid n
item_data_of (items.Flags words) = Flags words
item_data_of (items.Modseq n) = Modseq n
item_data_of (items.Internal moment) = Internal moment
item_data_of (items.Size n) = Size n
item_data_of (items.Header text) = Header (bytes_or_nil text)
item_data_of (items.Body text) = Body (bytes_or_nil text)
item_data_of items.Other = OtherItem

abbrev pub items_data_of : List Item → List ItemData
items_data_of items = map item_data_of items
