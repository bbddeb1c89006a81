-- How the code finds what rules declare, and which text it reads.
use Rattle.std.specs.Prelude.{◌≡◌, ◌<◌, ℕ, Bool, true, false, ◌&&◌, List, codes, chars, encode_utf8_all}
use Rattle.html_syntax.specs.Token.{Attribute}
use Rattle.html_syntax.specs.Tokenizer.{same}
use Rattle.html_rules.specs.Tables.{Name}
use Rattle.html_rules.specs.Values.{is_empty}
use Rattle.style_wash.specs.Characters.{trimmed}
use Rattle.style_rules.specs.Rules.{Rule}
use Rattle.style_rules.specs.Cascade.{declared}
use Rattle.wash_attributes.specs.FirstValues.{attribute_text}
use Rattle.html_wash.specs.Styling.{Following, Styling, is_screen, taken_limit, declared_for}
use Rattle.html_wash.specs.Styling.Following.{Keeps, Drops, Reads}

abbrev pub reads : Following → Bool
reads Keeps = false
reads Drops = false
reads (Reads text) = true

-- the start tag of a style element whose rules count
abbrev pub is_sheet : Name → List Attribute → Bool
is_sheet name attributes = same (codes "style") name && is_screen (trimmed (encode_utf8_all (attribute_text (codes "media") attributes)))

-- what rules declare for an element with classes, which are read in UTF-8
abbrev pub declared_by : List Rule → Name → List ℕ → List ℕ
declared_by rules name classes = chars (declared rules name (encode_utf8_all classes))

-- a text is what the rules declare for a start tag; if it isn't empty, fewer took a style than may
pub record IsFor (s : Styling) (name : Name) (attributes : List Attribute) (style : List ℕ) : Type 0 where
  pub is : chars style ≡ declared_for s name attributes
  pub room : is_empty style ≡ false → s.count < taken_limit
