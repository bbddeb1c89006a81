-- What holds of washed tokens, whatever the tokens were.
use Rattle.std.specs.Prelude.{◌≡◌, ℕ, Bool, true, false, not, ◌&&◌, if◌then◌else◌, Some, List, [], ◌∷◌, IsTrue}
use Rattle.std.specs.List.{list_all}
use Rattle.html_syntax.specs.Token.{Token}
use Rattle.html_syntax.specs.Token.Token.{Start, Char}
use Rattle.html_syntax.specs.Tokenizer.{replace_null}
use Rattle.html_rules.specs.Tables.{Name, is_message_element, is_dropped_element, is_void}
use Rattle.html_rules.specs.Nesting.{open_elements_after}
use Rattle.html_rules.specs.MessageTokens.{is_message}
use Rattle.wash_attributes.specs.Given.{Given}
use Rattle.wash_attributes.specs.Soundness.{IsSound}
use Rattle.style_rules.specs.Law.{AreWritten}
use Rattle.html_wash.specs.Styling.{is_dropping}
use Rattle.html_wash.specs.Wash.{State, wash_from}

-- a message may have the element open
abbrev pub is_openable : Name → Bool
is_openable name = is_message_element name && not (is_void name)

abbrev pub are_openable : List Name → Bool
are_openable names = list_all is_openable names

-- the characters of tokens
unfoldable pub characters : List Token → List ℕ
characters [] = []
characters (Char c ∷ ts) = c ∷ characters ts
characters (_ ∷ ts) = characters ts

-- the characters of a message that are shown, U+0000 as U+FFFD: all but those directly after the start tag of a dropped element
unfoldable pub shown_characters : Bool → List Token → List ℕ
shown_characters dropping [] = []
shown_characters dropping (Char c ∷ ts) = if dropping then shown_characters true ts else replace_null c ∷ shown_characters false ts
shown_characters dropping (Start name attributes ∷ ts) = shown_characters (is_dropped_element name) ts
shown_characters dropping (_ ∷ ts) = shown_characters false ts

-- Tokens are washed from a state on to `washed`: all that was open is closed, elements are nested, each token is one that a message
-- may have, and the characters are those that are shown.
pub record IsWashed (given : Given) (own : List ℕ → Bool) (s : State) (ts washed : List Token) : Type 0 where
  pub nested : open_elements_after s.opened washed ≡ Some []
  pub message : IsTrue (is_message given.images own washed)
  pub shown : characters washed ≡ shown_characters (is_dropping s.styling.following) ts

abbrev pub WashedIsAllowed : Type 0
WashedIsAllowed =
    (given : Given) (own : List ℕ → Bool) (s : State) (ts : List Token) → IsSound given own → IsTrue (are_openable s.opened)
    → AreWritten s.styling.rules → IsWashed given own s ts (wash_from given s ts)
