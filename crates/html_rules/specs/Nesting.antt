-- Pages whose elements are nested.
use Rattle.std.specs.Prelude.{◌≡◌, List, [], ◌∷◌, Option, Some, None, if◌then◌else◌}
use Rattle.html_syntax.specs.Token.{Token}
use Rattle.html_syntax.specs.Token.Token.{Start, End}
use Rattle.html_syntax.specs.Tokenizer.{same}
use Rattle.html_rules.specs.Tables.{Name, is_void}

-- The elements that are open after the tokens, innermost first, if `inside` were open before: a start tag opens its element unless
-- that is void, and an end tag closes the innermost one. None if an end tag has another name.
unfoldable pub open_elements_after : List Name → List Token → Option (List Name)
open_elements_after inside [] = Some inside
open_elements_after inside (Start name attributes ∷ ts) = if is_void name then open_elements_after inside ts else open_elements_after (name ∷ inside) ts
open_elements_after [] (End name ∷ ts) = None
open_elements_after (inner ∷ outer) (End name ∷ ts) = if same inner name then open_elements_after outer ts else None
open_elements_after inside (t ∷ ts) = open_elements_after inside ts

-- each end tag closes the innermost open element, and none is left open
abbrev pub IsNested : List Token → Type 0
IsNested tokens = open_elements_after [] tokens ≡ Some []
