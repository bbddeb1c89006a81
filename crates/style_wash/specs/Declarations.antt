-- Declarations, and styles that are made of them.
use Rattle.std.specs.Prelude.{◌≡◌, ℕ, ◌-◌, nat_eq, ◌==◌, Bool, true, false, not, ◌&&◌, ◌||◌, if◌then◌else◌, List, [], ◌∷◌, ◌++◌, length, take, codes, map, IsTrue, Option, Some, None}
use Rattle.std.specs.Str.{bytes_eq}
use Rattle.std.specs.List.{filter_map, join_by, onto_first, before_first, after_first, ends_with, list_all, AllByRecursion}
use Rattle.style_wash.specs.Characters.{space, left_parenthesis, semicolon, is_colon, is_delimiter, is_style_char, trimmed, without_back}
use Rattle.style_wash.specs.Tables.{property_of}
use Rattle.style_wash.specs.Values.{Nesting, nesting_after, Value, value_of, written_value}
use Rattle.style_wash.specs.Values.Nesting.{Outside, Until}

-- A declaration: a property and its value.
pub record Declaration : Type 0 where
  pub property : List ℕ
  pub value : Value

abbrev pub important : List ℕ
important = codes "!important"

-- a text without a last `!important` and the white space after it
abbrev pub without_important : List ℕ → List ℕ
without_important text =
    if ends_with nat_eq (without_back text) important then take (length (without_back text) - length important) (without_back text)
    else text

-- the value after the colon of a declaration
unfoldable pub value_after_colon : List ℕ → Option Value
value_after_colon text = value_of (trimmed (without_important text))

abbrev pub declaration_with : Option (List ℕ) → Option Value → Option Declaration
declaration_with (Some property) (Some value) = Some (record { property = property; value = value })
declaration_with (Some property) None = None
declaration_with None value = None

-- the declaration that a text is: a property, a colon and a value
unfoldable pub declaration_of : List ℕ → Option Declaration
declaration_of text =
    declaration_with (property_of (before_first is_colon text)) (value_after_colon (after_first is_colon text))

-- the written form
unfoldable pub written : Declaration → List ℕ
written declaration = declaration.property ++ codes ": " ++ written_value declaration.value

-- ---- styles

-- a `;` outside of quotes
abbrev pub is_piece_end : Nesting → ℕ → Bool
is_piece_end Outside c = c == semicolon
is_piece_end (Until end) c = false

-- the pieces of a text from a nesting on: it is cut at each `;` outside of quotes
unfoldable pub pieces : Nesting → List ℕ → List (List ℕ)
pieces place [] = [] ∷ []
pieces place (c ∷ more) = if is_piece_end place c then [] ∷ pieces Outside more
    else onto_first c (pieces (nesting_after false place c) more)

-- the declarations among the pieces of a text, in their order
unfoldable pub declarations : List ℕ → List Declaration
declarations text = filter_map declaration_of (pieces Outside text)

-- declarations as a style
unfoldable pub style_of : List Declaration → List ℕ
style_of all = join_by written (codes "; ") all

-- the washed style: the written form of its declarations
unfoldable pub stylewash : List ℕ → List ℕ
stylewash text = style_of (declarations text)

-- ---- laws

-- a declaration whose written form reads as itself
abbrev pub IsDeclaration : Declaration → Type 0
IsDeclaration declaration = declaration_of (written declaration) ≡ Some declaration

-- a text is declarations in their written form, with `; ` between each two
pub record IsStyle (text : List ℕ) : Type 0 where
  pub all : List Declaration
  pub each : AllByRecursion IsDeclaration all
  pub is : text ≡ style_of all

-- whether washing leaves a text unchanged
unfoldable pub is_style : List ℕ → Bool
is_style text = bytes_eq (stylewash text) text

-- the pieces of a style: the written forms of its declarations, each but the first after a space
unfoldable pub style_pieces : List Declaration → List (List ℕ)
style_pieces [] = [] ∷ []
style_pieces (first ∷ more) = written first ∷ map (λ declaration. space ∷ written declaration) more

-- washing a washed style changes nothing
abbrev pub WashingIsIdempotent : Type 0
WashingIsIdempotent = (text : List ℕ) → stylewash (stylewash text) ≡ stylewash text

-- a washed text is declarations in their written form
abbrev pub WashedIsStyle : Type 0
WashedIsStyle = (text : List ℕ) → IsStyle (stylewash text)

-- a style is cut into exactly the written forms of its declarations, and reads as exactly these
abbrev pub StylesAreKept : Type 0
StylesAreKept =
    (all : List Declaration) → AllByRecursion IsDeclaration all
    → (pieces Outside (style_of all) ≡ style_pieces all) × (declarations (style_of all) ≡ all)

-- a text is a style if and only if washing leaves it unchanged
abbrev pub StylesAreFixedPoints : Type 0
StylesAreFixedPoints = (text : List ℕ) → (IsStyle text → IsTrue (is_style text)) × (IsTrue (is_style text) → IsStyle text)

-- a washed style has these characters only, so no `\`, `@`, `"`, `<`, `&`, `{` or `*`
abbrev pub WashedCharacters : Type 0
WashedCharacters = (text : List ℕ) → IsTrue (list_all is_style_char (stylewash text))

-- the characters after the last delimiter, with one more character
abbrev pub next_name : List ℕ → ℕ → List ℕ
next_name name c = if is_delimiter c then [] else name ++ c ∷ []

-- The whole name before each `(` is `rgb`. `name` is what precedes the text after the last delimiter.
unfoldable pub calls_only_rgb : List ℕ → List ℕ → Bool
calls_only_rgb name [] = true
calls_only_rgb name (c ∷ more) = (not (c == left_parenthesis) || bytes_eq name (codes "rgb")) && calls_only_rgb (next_name name c) more

-- a washed style calls no function but `rgb`, so it has no `url(` and no `expression(`
abbrev pub WashedCallsOnlyRgb : Type 0
WashedCallsOnlyRgb = (text : List ℕ) → IsTrue (calls_only_rgb [] (stylewash text))
