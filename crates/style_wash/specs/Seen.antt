-- The values of the definition that the code's values represent.
use Rattle.std.specs.Prelude.{ℕ, List, map}
use Rattle.std.specs.Borrow.{Bor}
use Rattle.style_wash.specs.declared.items.Item as item
use Rattle.style_wash.specs.declared.items.Item.TheVariants as item_variant
use Rattle.style_wash.specs.declared.values.Nesting as place
use Rattle.style_wash.specs.declared.values.Nesting.TheVariants as nesting_variant
use Rattle.style_wash.specs.declared.values.Separator as separator
use Rattle.style_wash.specs.declared.values.Separator.TheVariants as separator_variant
use Rattle.style_wash.specs.Items.{Item}
use Rattle.style_wash.specs.Items.Item.{Plain, Name}
use Rattle.style_wash.specs.Values.{Nesting, Separator}
use Rattle.style_wash.specs.Values.Nesting.{Outside, Until}
use Rattle.style_wash.specs.Values.Separator.{Space, Comma, Slash}

abbrev pub item_seen : item.Item → Item
item_seen (item_variant.Plain text) = Plain text.now
item_seen (item_variant.Name text) = Name text.now

abbrev pub nesting_seen : place.Nesting → Nesting
nesting_seen nesting_variant.Outside = Outside
nesting_seen (nesting_variant.Until end) = Until end

abbrev pub separator_seen : separator.Separator → Separator
separator_seen separator_variant.Space = Space
separator_seen separator_variant.Comma = Comma
separator_seen separator_variant.Slash = Slash

-- the texts of a table
abbrev pub texts_seen : List (Bor (List ℕ)) → List (List ℕ)
texts_seen texts = map (λ (text : Bor (List ℕ)). text.now) texts
