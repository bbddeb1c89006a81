-- What the washer writes into a page.
use Rattle.std.specs.Prelude.{◌≡◌, ℕ, Bool, true, if◌then◌else◌, List, [], ◌∷◌, ◌++◌, length, drop}
use Rattle.html_syntax.specs.Token.{Token}
use Rattle.html_syntax.specs.Tokenizer.{chars}
use Rattle.html_rules.specs.Tables.{Name, is_void}
use Rattle.page_writer.specs.Page.{takes_tags}
use Rattle.page_writer.specs.Writer.{Page, with_all_tokens}
use Rattle.html_wash.specs.Closings.{After}
use Rattle.html_wash.specs.Wash.{State, Step}
use Rattle.html_wash.specs.Law.{are_openable}

-- a washer: its state, and whether it shows remote pictures
pub record WasherState : Type 0 where
  pub state : State
  pub images : Bool

-- a start tag is written, and its element is open after it unless it is void
abbrev pub with_element : Name → Token → List Name → After
with_element name tag opened = record { opened = (if is_void name then opened else name ∷ opened); tokens = tag ∷ [] }

-- of a page's open elements, those outside of the washer's
abbrev pub outside : List Name → List Name → List Name
outside names opened = drop (length names) opened

-- a page has a washer's elements innermost open, and others outside of them, where tags may be written
pub record IsInside (names opened outer : List Name) : Type 0 where
  pub openable : are_openable names ≡ true
  pub splits : opened ≡ names ++ outer
  pub tags : takes_tags outer ≡ true

-- tokens were appended to a page, and a washer's elements are `names`; those outside of them are as before
pub record Wrote (a : After) (outer : List Name) (old new : Page) (names : List Name) : Type 0 where
  pub page : new ≡ with_all_tokens old a.tokens
  pub left : names ≡ a.opened
  pub inside : IsInside names new.opened outer

-- the tokens of a step were appended to a page, and the washer's state is the step's
pub record Took (step : Step) (outer : List Name) (old new : Page) (state : State) : Type 0 where
  pub page : new ≡ with_all_tokens old step.tokens
  pub after : state ≡ step.state
  pub inside : IsInside state.opened new.opened outer

-- if the tokens are characters, these pass
abbrev pub IfCharacters : List Token → (List ℕ → Type 0) → Type 0
IfCharacters tokens P = (cs : List ℕ) → tokens ≡ chars cs → P cs
