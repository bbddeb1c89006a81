-- The state of the tokenizer between two characters, and the action of a row of its table.
use Rattle.std.specs.Prelude.{ℕ, Bool, true, false, ◌||◌, ◌==◌, if◌then◌else◌, List, [], ◌∷◌, ◌++◌, codes, bytes_eq}
use Rattle.std.specs.List.{list_any}
use Rattle.html_syntax.specs.Token.{Attribute, Token}
use Rattle.html_syntax.specs.Token.Token.{Start, End}
use Rattle.html_syntax.specs.Characters.{null, replacement, lower}

-- the tag that is being read
pub record Tag : Type 0 where
  pub is_end : Bool
  pub name : List ℕ
  pub attributes : List Attribute

-- The text in which few tags are read: RCDATA, RAWTEXT, script data, and script data escaped. Each has a less-than sign, an
-- end tag open and an end tag name state in the Standard, which differ only in where they go back to.
pub data RawTextKind : Type 0 where
  Rcdata Rawtext Script Escaped : RawTextKind

abbrev pub is_script : RawTextKind → Bool
is_script Script = true
is_script Rcdata = false
is_script Rawtext = false
is_script Escaped = false

-- A state of the Standard, with what is being read in it: `last` is the name of the last start tag, `letters` is the
-- temporary buffer, `name` and `value` are the attribute's, `comment` is the comment's text so far.
pub data State : Type 0 where
  Data Plaintext TagOpen EndTagOpen : State
  -- last
  Raw RawLess RawEndOpen : RawTextKind → List ℕ → State
  -- last, letters
  RawEndName : RawTextKind → List ℕ → List ℕ → State
  -- last
  EscapeStart EscapeStartDash EscapedDash EscapedDashDash EscapedLess : List ℕ → State
  -- last, letters
  DoubleStart : List ℕ → List ℕ → State
  -- last
  DoubleEscaped DoubleDash DoubleDashDash DoubleLess : List ℕ → State
  -- last, letters
  DoubleEnd : List ℕ → List ℕ → State
  TagName BeforeName : Tag → State
  -- name
  AttributeName AfterName BeforeValue : Tag → List ℕ → State
  -- the quote, name, value
  QuotedValue : ℕ → Tag → List ℕ → List ℕ → State
  -- name, value
  UnquotedValue : Tag → List ℕ → List ℕ → State
  AfterValue SelfClosing : Tag → State
  -- comment
  Bogus CommentStart CommentStartDash CommentBody CommentEndDash CommentEnd CommentEndBang : List ℕ → State
  Markup DoctypeBody : State

-- The action of a row for a character. Each emits its tokens. SwitchTo consumes the character and switches to the state.
-- SwitchPast n consumes the n characters after it too. ReconsumeIn switches without consuming it.
pub data Action : Type 0 where
  SwitchTo : State → List Token → Action
  SwitchPast : ℕ → State → List Token → Action
  ReconsumeIn : State → List Token → Action

-- the name equals the word
abbrev pub same : List ℕ → List ℕ → Bool
same word name = bytes_eq name word

abbrev pub is_among : List (List ℕ) → List ℕ → Bool
is_among names name = list_any (λ n. same n name) names

abbrev pub rcdata_names : List (List ℕ)
rcdata_names = codes "title" ∷ codes "textarea" ∷ []

abbrev pub raw_names : List (List ℕ)
raw_names = codes "style" ∷ codes "xmp" ∷ codes "iframe" ∷ codes "noembed" ∷ codes "noframes" ∷ []

-- The state after a start tag of this name. In the Standard tree construction switches the tokenizer (13.2.6); here the name
-- alone does, wherever the tag is. `noscript` is not among the names, as if scripting is disabled.
abbrev pub state_after_start : List ℕ → State
state_after_start name =
    if is_among rcdata_names name then Raw Rcdata name
    else (if is_among raw_names name then Raw Rawtext name
    else (if same (codes "script") name then Raw Script name
    else (if same (codes "plaintext") name then Plaintext
    else Data)))

-- ---- the tag

abbrev pub new_tag : Bool → Tag
new_tag is_end = record { is_end = is_end; name = []; attributes = [] }

-- the tag with one more character of its name
abbrev pub with_name_char : Tag → ℕ → Tag
with_name_char tag c = record { is_end = tag.is_end; name = tag.name ++ lower c ∷ []; attributes = tag.attributes }

abbrev pub has_name : List ℕ → List Attribute → Bool
has_name name [] = false
has_name name (a ∷ rest) = same a.name name || has_name name rest

-- Adds an attribute that was read. Of attributes of one name the first is kept (13.2.5.33).
abbrev pub keep : Tag → List ℕ → List ℕ → Tag
keep tag name value =
    if has_name name tag.attributes then tag
    else record { is_end = tag.is_end; name = tag.name; attributes = tag.attributes ++ record { name = name; value = value } ∷ [] }

-- Adds an attribute without a value. An empty name is no attribute: the row after attribute name is reached from the row before
-- it too.
abbrev pub keep_flag : Tag → List ℕ → Tag
keep_flag tag [] = tag
keep_flag tag (c ∷ name) = keep tag (c ∷ name) []

-- emits the tag at its >
abbrev pub emit : Tag → Action
emit tag =
    if tag.is_end then SwitchTo State.Data (End tag.name ∷ [])
    else SwitchTo (state_after_start tag.name) (Start tag.name tag.attributes ∷ [])

-- ---- characters

-- U+0000 is read as U+FFFD in every state but the data state
abbrev pub replace_null : ℕ → ℕ
replace_null c = if c == null then replacement else c

-- the text of a name, value or comment with one more character
abbrev pub with_char : List ℕ → ℕ → List ℕ
with_char text c = text ++ replace_null c ∷ []

abbrev pub with_lowered : List ℕ → ℕ → List ℕ
with_lowered text c = text ++ lower (replace_null c) ∷ []
