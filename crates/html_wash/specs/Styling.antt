-- The rules of a message's style elements, as far as they were read, and what becomes of characters.
use Rattle.std.specs.Prelude.{ℕ, suc, nat_lt, Bool, true, false, ◌&&◌, ◌||◌, if◌then◌else◌, List, [], ◌++◌, codes, chars, encode_utf8_all}
use Rattle.std.specs.Str.{str_eq_ignore_ascii_case}
use Rattle.html_syntax.specs.Token.{Attribute}
use Rattle.html_syntax.specs.Tokenizer.{same}
use Rattle.html_rules.specs.Tables.{Name}
use Rattle.html_rules.specs.Values.{is_empty}
use Rattle.style_wash.specs.Characters.{trimmed}
use Rattle.style_rules.specs.Rules.{Rule, rules, with_rules}
use Rattle.style_rules.specs.Cascade.{declared}
use Rattle.wash_attributes.specs.FirstValues.{attribute_text}

-- What becomes of the characters that follow: they are kept, or dropped as the text of an element. The text so far of a style element
-- whose rules count is read.
pub data Following : Type 0 where
  Keeps Drops : Following
  Reads : List ℕ → Following

abbrev pub is_dropping : Following → Bool
is_dropping Keeps = false
is_dropping Drops = true
is_dropping (Reads text) = true

-- with more characters
abbrev pub with_characters : Following → List ℕ → Following
with_characters Keeps cs = Keeps
with_characters Drops cs = Drops
with_characters (Reads text) cs = Reads (text ++ cs)

-- the rules that were read so far, and the number of start tags for which they declared a style
pub record Styling : Type 0 where
  pub rules : List Rule
  pub count : ℕ
  pub following : Following

abbrev pub no_styling : Styling
no_styling = record { rules = []; count = 0; following = Keeps }

abbrev pub with_following : Following → Styling → Styling
with_following following s = record { rules = s.rules; count = s.count; following = following }

-- ---- the text of a style element

-- the rules after the text of an element; texts are read in UTF-8
abbrev pub rules_after : Following → List Rule → List Rule
rules_after Keeps kept = kept
rules_after Drops kept = kept
rules_after (Reads text) kept = with_rules kept (rules (encode_utf8_all text))

-- the next other token has come
unfoldable pub settled : Styling → Styling
settled s = record { rules = rules_after s.following s.rules; count = s.count; following = Keeps }

-- a `media` of rules that count
abbrev pub is_screen : List ℕ → Bool
is_screen media = is_empty media || (str_eq_ignore_ascii_case media (codes "all") || str_eq_ignore_ascii_case media (codes "screen"))

-- what becomes of the characters after the start tag of a dropped element
unfoldable pub following_of : Name → List Attribute → Following
following_of name attributes =
    if same (codes "style") name && is_screen (trimmed (encode_utf8_all (attribute_text (codes "media") attributes))) then Reads []
    else Drops

-- ---- what rules declare

-- the most start tags for which rules declare a style
abbrev pub taken_limit : ℕ
taken_limit = 20000

-- what the rules declare for an element with the attributes
unfoldable pub declared_for : Styling → Name → List Attribute → List ℕ
declared_for s name attributes =
    if nat_lt s.count taken_limit then chars (declared s.rules name (encode_utf8_all (attribute_text (codes "class") attributes)))
    else []

-- after a start tag for which rules declare a style, which may be empty
unfoldable pub counted : List ℕ → Styling → Styling
counted style s = record { rules = s.rules; count = (if is_empty style then s.count else suc s.count); following = s.following }
