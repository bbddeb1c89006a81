-- The washed tokens of a message's tokens.
use Rattle.std.specs.Prelude.{ℕ, not, ◌&&◌, nat_lt, if◌then◌else◌, List, [], ◌∷◌, ◌++◌, length}
use Rattle.html_syntax.specs.Token.{Attribute, Token}
use Rattle.html_syntax.specs.Token.Token.{Start, End, Char, Comment, Doctype}
use Rattle.html_syntax.specs.Tokenizer.{replace_null}
use Rattle.html_rules.specs.Tables.{Name, is_message_element, is_dropped_element, is_void}
use Rattle.html_rules.specs.Tokens.{replace_nulls}
use Rattle.wash_attributes.specs.Given.{Given}
use Rattle.wash_attributes.specs.Attributes.{washed_attributes}
use Rattle.html_wash.specs.Styling.{Styling, no_styling, is_dropping, with_characters, with_following, settled, following_of, declared_for, counted}
use Rattle.html_wash.specs.Closings.{After, none_closed, close_innermost, closed_by, lookups_of, ended}

-- The elements that are open, innermost first, and the rules that were read and what becomes of characters.
pub record State : Type 0 where
  pub opened : List Name
  pub styling : Styling

abbrev pub start : State
start = record { opened = []; styling = no_styling }

-- the state after tokens, and the washed tokens
pub record Step : Type 0 where
  pub state : State
  pub tokens : List Token

abbrev pub step_with : Styling → After → Step
step_with styling a = record { state = record { opened = a.opened; styling = styling }; tokens = a.tokens }

-- the number of elements that may be open
abbrev pub open_limit : ℕ
open_limit = 128

-- after what a start tag closes: a void element is written, and another one is written and opened unless too many are open
abbrev pub open_element : Name → Token → After → After
open_element name tag closed =
    if is_void name then record { opened = closed.opened; tokens = closed.tokens ++ tag ∷ [] }
    else (if nat_lt (length closed.opened) open_limit then record { opened = name ∷ closed.opened; tokens = closed.tokens ++ tag ∷ [] }
    else closed)

abbrev pub washed_tag : Given → List ℕ → Name → List Attribute → Token
washed_tag given declared name attributes = Start name (replace_nulls (washed_attributes given declared name attributes))

-- a start tag of a listed element for which rules declare a style, which may be empty
unfoldable pub after_start : Given → List ℕ → List Name → Name → List Attribute → After
after_start given declared opened name attributes =
    open_element name (washed_tag given declared name attributes) (closed_by (lookups_of name) opened)

-- an end tag; that of a void or unlisted element does nothing
unfoldable pub after_end : List Name → Name → After
after_end opened name =
    if is_message_element name && not (is_void name) then close_innermost (ended name opened) opened
    else none_closed opened

abbrev pub step_at_element : Given → State → Name → List Attribute → Step
step_at_element given s name attributes =
    let declared = declared_for s.styling name attributes in
    step_with (counted declared s.styling) (after_start given declared s.opened name attributes)

abbrev pub step_at_start : Given → State → Name → List Attribute → Step
step_at_start given s name attributes =
    if is_dropped_element name then step_with (with_following (following_of name attributes) s.styling) (none_closed s.opened)
    else (if is_message_element name then step_at_element given s name attributes
    else step_with s.styling (none_closed s.opened))

abbrev pub step_at_char : State → ℕ → Step
step_at_char s c =
    record {
      state = record { opened = s.opened; styling = with_following (with_characters s.styling.following (c ∷ [])) s.styling };
      tokens = (if is_dropping s.styling.following then [] else Char (replace_null c) ∷ []);
    }

-- the state before a token that isn't a character
abbrev pub settled_state : State → State
settled_state s = record { opened = s.opened; styling = settled s.styling }

-- one token
unfoldable pub wash_token : Given → State → Token → Step
wash_token given s (Start name attributes) = step_at_start given (settled_state s) name attributes
wash_token given s (End name) = step_with (settled s.styling) (after_end s.opened name)
wash_token given s (Char c) = step_at_char s c
wash_token given s (Comment text) = step_with (settled s.styling) (none_closed s.opened)
wash_token given s Doctype = step_with (settled s.styling) (none_closed s.opened)

-- tokens from a state on, which others follow
unfoldable pub wash_part : Given → State → List Token → Step
wash_part given s [] = record { state = s; tokens = [] }
wash_part given s (t ∷ ts) =
    let first = wash_token given s t in
    let rest = wash_part given first.state ts in
    record { state = rest.state; tokens = first.tokens ++ rest.tokens }

-- what closes all that is open
abbrev pub close_all : List Name → List Token
close_all opened = (close_innermost (length opened) opened).tokens

-- the washed tokens of the last tokens of a message, from a state on
unfoldable pub wash_from : Given → State → List Token → List Token
wash_from given s ts = let part = wash_part given s ts in part.tokens ++ close_all part.state.opened

-- the washed tokens of a message's tokens
unfoldable pub wash : Given → List Token → List Token
wash given ts = wash_from given start ts
