-- The tables of the code, and what is found in them.
use Rattle.std.specs.Prelude.{◌≡◌, ℕ, Bool, true, false, List, [], ◌∷◌, if◌then◌else◌, map, Option, Some, None, MatchOption}
use Rattle.std.specs.List.{list_all}
use Rattle.std.specs.Borrow.{Bor}
use Rattle.html_syntax.specs.Tokenizer.{is_among}
use Rattle.html_tokens.specs.Tags.{is_word_char}
use Rattle.html_rules.specs.Tables.{Name, AttributeRow, ValueKindRow, kind_of}
use Rattle.html_rules.specs.declared.ValueKind.{ValueKind}
use Rattle.wash_attributes.specs.declared.names.AttributeRow as attribute_row
use Rattle.wash_attributes.specs.declared.names.KindRow as kind_row

-- the texts of a table
abbrev pub texts_seen : List (Bor (List ℕ)) → List Name
texts_seen texts = map (λ (text : Bor (List ℕ)). text.now) texts

abbrev pub row_seen : attribute_row.AttributeRow → AttributeRow
row_seen row = record { elements = texts_seen row.elements.now; attributes = texts_seen row.attributes.now }

abbrev pub kind_row_seen : kind_row.KindRow → ValueKindRow
kind_row_seen row = record { kind = row.kind; attributes = texts_seen row.attributes.now }

-- the names are lower-case words
abbrev pub are_words : List Name → Bool
are_words names = list_all (λ name. list_all is_word_char name) names

-- the attributes of the first row that has the element
abbrev pub attributes_in : List AttributeRow → Name → List Name
attributes_in [] element = []
attributes_in (row ∷ rows) element = if is_among row.elements element then row.attributes else attributes_in rows element

-- the name itself if it is among the names, or else none
abbrev pub FindsName : List Name → Name → Option (Bor (List ℕ)) → Type 0
FindsName names name found = MatchOption found (is_among names name ≡ false) (λ word. (is_among names name ≡ true) × (word.now ≡ name))

-- the kind of the attribute's values, or none
abbrev pub IsFrequentKind : Name → Option ValueKind → Type 0
IsFrequentKind name None = Unit {0}
IsFrequentKind name (Some kind) = kind_of name ≡ Some kind
