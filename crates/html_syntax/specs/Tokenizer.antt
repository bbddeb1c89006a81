-- The tokens of a text: the HTML Standard's tokenization (13.2.5) as a fold over its characters.
use Rattle.std.specs.Prelude.{ℕ, zero, suc, Bool, false, ◌&&◌, ◌==◌, if◌then◌else◌, List, [], ◌∷◌, ◌++◌}
use Rattle.std.specs.Str.{chars as text_chars}
use Rattle.std.specs.Str.Lossy.{utf8_lossy}
use Rattle.html_syntax.specs.Token.{Token}
use Rattle.html_syntax.specs.Characters.{carriage_return, line_feed}
pub use Rattle.html_syntax.specs.Characters.{is_space, lower}
pub use Rattle.html_syntax.specs.States.{Tag, RawTextKind, State, Action, same, is_among, rcdata_names, raw_names, state_after_start, new_tag, with_name_char, has_name, keep, keep_flag, emit, replace_null, with_char, with_lowered}
pub use Rattle.html_syntax.specs.States.RawTextKind.{Rcdata, Rawtext, Script, Escaped}
pub use Rattle.html_syntax.specs.States.State.{Data, Plaintext, TagOpen, EndTagOpen, Raw, RawLess, RawEndOpen, RawEndName, EscapeStart, EscapeStartDash, EscapedDash, EscapedDashDash, EscapedLess, DoubleStart, DoubleEscaped, DoubleDash, DoubleDashDash, DoubleLess, DoubleEnd, TagName, BeforeName, AttributeName, AfterName, BeforeValue, QuotedValue, UnquotedValue, AfterValue, SelfClosing, Bogus, CommentStart, CommentStartDash, CommentBody, CommentEndDash, CommentEnd, CommentEndBang, Markup, DoctypeBody}
pub use Rattle.html_syntax.specs.States.Action.{SwitchTo, SwitchPast, ReconsumeIn}
pub use Rattle.html_syntax.specs.Rows.{chars, emit_char}
unfoldable pub use Rattle.html_syntax.specs.Rows.{look, tokens_at_end}

-- ---- one character

abbrev pub prepend_tokens : List Token → Action → Action
prepend_tokens out (SwitchTo s more) = SwitchTo s (out ++ more)
prepend_tokens out (SwitchPast n s more) = SwitchPast n s (out ++ more)
prepend_tokens out (ReconsumeIn s more) = ReconsumeIn s (out ++ more)

-- looks again at a character that is reconsumed, in the state that the action names
unfoldable pub look_again : ℕ → List ℕ → Action → Action
look_again c text (SwitchTo s out) = SwitchTo s out
look_again c text (SwitchPast n s out) = SwitchPast n s out
look_again c text (ReconsumeIn s out) = prepend_tokens out (look s c text)

-- The action of a state for a character, after three looks at most (`ThreeLooksSuffice`).
unfoldable pub step : State → ℕ → List ℕ → Action
step s c text = look_again c text (look_again c text (look s c text))

abbrev pub IsRead : Action → Type 0
IsRead (SwitchTo s out) = Unit {0}
IsRead (SwitchPast n s out) = Unit {0}
IsRead (ReconsumeIn s out) = ⊥

-- No step ends with a character that is still to be reconsumed.
abbrev pub ThreeLooksSuffice : Type 0
ThreeLooksSuffice = (s : State) (c : ℕ) (text : List ℕ) → IsRead (step s c text)

abbrev pub next_state : Action → State
next_state (SwitchTo s out) = s
next_state (SwitchPast n s out) = s
next_state (ReconsumeIn s out) = s

abbrev pub emitted_tokens : Action → List Token
emitted_tokens (SwitchTo s out) = out
emitted_tokens (SwitchPast n s out) = out
emitted_tokens (ReconsumeIn s out) = out

abbrev pub skip_count : Action → ℕ
skip_count (SwitchTo s out) = 0
skip_count (SwitchPast n s out) = n
skip_count (ReconsumeIn s out) = 0

-- ---- a text

-- The tokens of a text that is read from a state on. Its first `passing` characters were consumed with an earlier one.
unfoldable pub read : State → ℕ → List ℕ → List Token
read s passing [] = tokens_at_end s
read s (suc passing) (c ∷ text) = read s passing text
read s zero (c ∷ text) = let m = step s c text in emitted_tokens m ++ read (next_state m) (skip_count m) text

-- the normalized character, after a carriage return or not
abbrev pub normalize_char : Bool → ℕ → List ℕ
normalize_char after_return c =
    if c == carriage_return then line_feed ∷ []
    else (if after_return && c == line_feed then []
    else c ∷ [])

-- The preprocessing of the input stream (13.2.3.5): CR LF and CR alone are read as LF.
unfoldable pub normalize_newlines : Bool → List ℕ → List ℕ
normalize_newlines after_return [] = []
normalize_newlines after_return (c ∷ text) = normalize_char after_return c ++ normalize_newlines (c == carriage_return) text

-- the tokens of a text
unfoldable pub tokens : List ℕ → List Token
tokens text = read Data 0 (normalize_newlines false text)

-- The tokens of bytes, which are read as UTF-8 (13.2.3). Bytes that aren't UTF-8 are read as U+FFFD; a byte order mark is a
-- character as any other.
unfoldable pub tokens_of_bytes : List ℕ → List Token
tokens_of_bytes bytes = tokens (text_chars (utf8_lossy bytes))
