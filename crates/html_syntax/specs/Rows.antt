-- The rows of the tokenizer: what each state does with the next character, in the order of the HTML Standard's section 13.2.5.
-- Parse errors are not reported, so a test of the Standard that only reports one is left out here.
use Rattle.std.specs.Prelude.{ℕ, true, false, ◌&&◌, ◌||◌, ◌==◌, if◌then◌else◌, List, [], ◌∷◌, ◌++◌, map, take, codes}
use Rattle.html_syntax.specs.Token.{Token}
use Rattle.html_syntax.specs.Token.Token.{Char, Comment, Doctype}
use Rattle.html_syntax.specs.Characters.{exclamation_mark, quotation_mark, ampersand, apostrophe, hyphen, solidus, less_than, equals_sign, greater_than, question_mark, is_letter, is_space, lower}
use Rattle.html_syntax.specs.References.{reference, begins_with}
use Rattle.html_syntax.specs.States.{Tag, RawTextKind, State, Action, is_script, same, new_tag, with_name_char, keep, keep_flag, emit, replace_null, with_char, with_lowered}
use Rattle.html_syntax.specs.States.RawTextKind.{Rcdata, Rawtext, Script, Escaped}
use Rattle.html_syntax.specs.States.State.{Data, Plaintext, TagOpen, EndTagOpen, Raw, RawLess, RawEndOpen, RawEndName, EscapeStart, EscapeStartDash, EscapedDash, EscapedDashDash, EscapedLess, DoubleStart, DoubleEscaped, DoubleDash, DoubleDashDash, DoubleLess, DoubleEnd, TagName, BeforeName, AttributeName, AfterName, BeforeValue, QuotedValue, UnquotedValue, AfterValue, SelfClosing, Bogus, CommentStart, CommentStartDash, CommentBody, CommentEndDash, CommentEnd, CommentEndBang, Markup, DoctypeBody}
use Rattle.html_syntax.specs.States.Action.{SwitchTo, SwitchPast, ReconsumeIn}

-- a character token for each character
abbrev pub chars : List ℕ → List Token
chars cs = map (λ c. Char c) cs

-- the character token that every state but the data state emits
abbrev pub emit_char : ℕ → List Token
emit_char c = Char (replace_null c) ∷ []

-- The end tag names of RCDATA, RAWTEXT, script data and escaped script data. An end tag is read if its name is the last
-- start tag's ('appropriate end tag token'); else its characters are text.
abbrev pub raw_end_name : RawTextKind → List ℕ → List ℕ → ℕ → Action
raw_end_name kind last letters c =
    let tag : Tag = record { is_end = true; name = map lower letters; attributes = [] } in
    let is_end = same last (map lower letters) in
    if is_letter c then SwitchTo (RawEndName kind last (letters ++ c ∷ [])) []
    else (if is_end && is_space c then SwitchTo (BeforeName tag) []
    else (if is_end && c == solidus then SwitchTo (SelfClosing tag) []
    else (if is_end && c == greater_than then emit tag
    else ReconsumeIn (Raw kind last) (chars (less_than ∷ solidus ∷ letters)))))

-- the state after the letters of a double escape: the first if they are `script`, else the second
abbrev pub double_escape_state : State → State → List ℕ → State
double_escape_state script other letters = if same (codes "script") (map lower letters) then script else other

-- The row of a state for a character and the text after it.
unfoldable pub look : State → ℕ → List ℕ → Action
-- 13.2.5.1 Data state. U+0000 is emitted unchanged.
look Data c text =
    if c == ampersand then (let r = reference false text in SwitchPast r.len Data (chars r.chars))
    else (if c == less_than then SwitchTo TagOpen []
    else SwitchTo Data (Char c ∷ []))
--
-- 13.2.5.2 RCDATA state
look (Raw Rcdata last) c text =
    if c == ampersand then (let r = reference false text in SwitchPast r.len (Raw Rcdata last) (chars r.chars))
    else (if c == less_than then SwitchTo (RawLess Rcdata last) []
    else SwitchTo (Raw Rcdata last) (emit_char c))
--
-- 13.2.5.3 RAWTEXT state
look (Raw Rawtext last) c text =
    if c == less_than then SwitchTo (RawLess Rawtext last) []
    else SwitchTo (Raw Rawtext last) (emit_char c)
--
-- 13.2.5.4 Script data state
look (Raw Script last) c text =
    if c == less_than then SwitchTo (RawLess Script last) []
    else SwitchTo (Raw Script last) (emit_char c)
--
-- 13.2.5.5 PLAINTEXT state
look Plaintext c text = SwitchTo Plaintext (emit_char c)
--
-- 13.2.5.6 Tag open state
look TagOpen c text =
    if c == exclamation_mark then SwitchTo Markup []
    else (if c == solidus then SwitchTo EndTagOpen []
    else (if is_letter c then ReconsumeIn (TagName (new_tag false)) []
    else (if c == question_mark then ReconsumeIn (Bogus []) []
    else ReconsumeIn Data (Char less_than ∷ []))))
--
-- 13.2.5.7 End tag open state
look EndTagOpen c text =
    if is_letter c then ReconsumeIn (TagName (new_tag true)) []
    else (if c == greater_than then SwitchTo Data []
    else ReconsumeIn (Bogus []) [])
--
-- 13.2.5.8 Tag name state
look (TagName tag) c text =
    if is_space c then SwitchTo (BeforeName tag) []
    else (if c == solidus then SwitchTo (SelfClosing tag) []
    else (if c == greater_than then emit tag
    else SwitchTo (TagName (with_name_char tag (replace_null c))) []))
--
-- 13.2.5.9 RCDATA, 13.2.5.12 RAWTEXT and 13.2.5.15 script data less-than sign state. Escaped script data has a row of its own
-- in place of this one, EscapedLess.
look (RawLess kind last) c text =
    if c == solidus then SwitchTo (RawEndOpen kind last) []
    else (if is_script kind && c == exclamation_mark then SwitchTo (EscapeStart last) (chars (less_than ∷ exclamation_mark ∷ []))
    else ReconsumeIn (Raw kind last) (Char less_than ∷ []))
--
-- 13.2.5.10 RCDATA, 13.2.5.13 RAWTEXT, 13.2.5.16 script data and 13.2.5.24 script data escaped end tag open state
look (RawEndOpen kind last) c text =
    if is_letter c then ReconsumeIn (RawEndName kind last []) []
    else ReconsumeIn (Raw kind last) (chars (less_than ∷ solidus ∷ []))
--
-- 13.2.5.11 RCDATA, 13.2.5.14 RAWTEXT, 13.2.5.17 script data and 13.2.5.25 script data escaped end tag name state
look (RawEndName kind last letters) c text = raw_end_name kind last letters c
--
-- 13.2.5.18 Script data escape start state
look (EscapeStart last) c text =
    if c == hyphen then SwitchTo (EscapeStartDash last) (emit_char c)
    else ReconsumeIn (Raw Script last) []
--
-- 13.2.5.19 Script data escape start dash state
look (EscapeStartDash last) c text =
    if c == hyphen then SwitchTo (EscapedDashDash last) (emit_char c)
    else ReconsumeIn (Raw Script last) []
--
-- 13.2.5.20 Script data escaped state
look (Raw Escaped last) c text =
    if c == hyphen then SwitchTo (EscapedDash last) (emit_char c)
    else (if c == less_than then SwitchTo (EscapedLess last) []
    else SwitchTo (Raw Escaped last) (emit_char c))
--
-- 13.2.5.21 Script data escaped dash state
look (EscapedDash last) c text =
    if c == hyphen then SwitchTo (EscapedDashDash last) (emit_char c)
    else (if c == less_than then SwitchTo (EscapedLess last) []
    else SwitchTo (Raw Escaped last) (emit_char c))
--
-- 13.2.5.22 Script data escaped dash dash state
look (EscapedDashDash last) c text =
    if c == hyphen then SwitchTo (EscapedDashDash last) (emit_char c)
    else (if c == less_than then SwitchTo (EscapedLess last) []
    else (if c == greater_than then SwitchTo (Raw Script last) (emit_char c)
    else SwitchTo (Raw Escaped last) (emit_char c)))
--
-- 13.2.5.23 Script data escaped less-than sign state
look (EscapedLess last) c text =
    if c == solidus then SwitchTo (RawEndOpen Escaped last) []
    else (if is_letter c then ReconsumeIn (DoubleStart last []) (Char less_than ∷ [])
    else ReconsumeIn (Raw Escaped last) (Char less_than ∷ []))
--
-- 13.2.5.26 Script data double escape start state
look (DoubleStart last letters) c text =
    if is_letter c then SwitchTo (DoubleStart last (letters ++ c ∷ [])) (emit_char c)
    else (if is_space c || c == solidus || c == greater_than then SwitchTo (double_escape_state (DoubleEscaped last) (Raw Escaped last) letters) (emit_char c)
    else ReconsumeIn (Raw Escaped last) [])
--
-- 13.2.5.27 Script data double escaped state
look (DoubleEscaped last) c text =
    if c == hyphen then SwitchTo (DoubleDash last) (emit_char c)
    else (if c == less_than then SwitchTo (DoubleLess last) (emit_char c)
    else SwitchTo (DoubleEscaped last) (emit_char c))
--
-- 13.2.5.28 Script data double escaped dash state
look (DoubleDash last) c text =
    if c == hyphen then SwitchTo (DoubleDashDash last) (emit_char c)
    else (if c == less_than then SwitchTo (DoubleLess last) (emit_char c)
    else SwitchTo (DoubleEscaped last) (emit_char c))
--
-- 13.2.5.29 Script data double escaped dash dash state
look (DoubleDashDash last) c text =
    if c == hyphen then SwitchTo (DoubleDashDash last) (emit_char c)
    else (if c == less_than then SwitchTo (DoubleLess last) (emit_char c)
    else (if c == greater_than then SwitchTo (Raw Script last) (emit_char c)
    else SwitchTo (DoubleEscaped last) (emit_char c)))
--
-- 13.2.5.30 Script data double escaped less-than sign state
look (DoubleLess last) c text =
    if c == solidus then SwitchTo (DoubleEnd last []) (emit_char c)
    else ReconsumeIn (DoubleEscaped last) []
--
-- 13.2.5.31 Script data double escape end state
look (DoubleEnd last letters) c text =
    if is_letter c then SwitchTo (DoubleEnd last (letters ++ c ∷ [])) (emit_char c)
    else (if is_space c || c == solidus || c == greater_than then SwitchTo (double_escape_state (Raw Escaped last) (DoubleEscaped last) letters) (emit_char c)
    else ReconsumeIn (DoubleEscaped last) [])
--
-- 13.2.5.32 Before attribute name state. An = begins a name here.
look (BeforeName tag) c text =
    if is_space c then SwitchTo (BeforeName tag) []
    else (if c == solidus || c == greater_than then ReconsumeIn (AfterName tag []) []
    else (if c == equals_sign then SwitchTo (AttributeName tag (equals_sign ∷ [])) []
    else ReconsumeIn (AttributeName tag []) []))
--
-- 13.2.5.33 Attribute name state
look (AttributeName tag name) c text =
    if is_space c || c == solidus || c == greater_than then ReconsumeIn (AfterName tag name) []
    else (if c == equals_sign then SwitchTo (BeforeValue tag name) []
    else SwitchTo (AttributeName tag (with_lowered name c)) [])
--
-- 13.2.5.34 After attribute name state
look (AfterName tag name) c text =
    if is_space c then SwitchTo (AfterName tag name) []
    else (if c == solidus then SwitchTo (SelfClosing (keep_flag tag name)) []
    else (if c == equals_sign then SwitchTo (BeforeValue tag name) []
    else (if c == greater_than then emit (keep_flag tag name)
    else ReconsumeIn (AttributeName (keep_flag tag name) []) [])))
--
-- 13.2.5.35 Before attribute value state
look (BeforeValue tag name) c text =
    if is_space c then SwitchTo (BeforeValue tag name) []
    else (if c == quotation_mark || c == apostrophe then SwitchTo (QuotedValue c tag name []) []
    else (if c == greater_than then emit (keep tag name [])
    else ReconsumeIn (UnquotedValue tag name []) []))
--
-- 13.2.5.36 Attribute value (double-quoted) and 13.2.5.37 attribute value (single-quoted) state
look (QuotedValue quote tag name value) c text =
    if c == quote then SwitchTo (AfterValue (keep tag name value)) []
    else (if c == ampersand then (let r = reference true text in SwitchPast r.len (QuotedValue quote tag name (value ++ r.chars)) [])
    else SwitchTo (QuotedValue quote tag name (with_char value c)) [])
--
-- 13.2.5.38 Attribute value (unquoted) state
look (UnquotedValue tag name value) c text =
    if is_space c then SwitchTo (BeforeName (keep tag name value)) []
    else (if c == ampersand then (let r = reference true text in SwitchPast r.len (UnquotedValue tag name (value ++ r.chars)) [])
    else (if c == greater_than then emit (keep tag name value)
    else SwitchTo (UnquotedValue tag name (with_char value c)) []))
--
-- 13.2.5.39 After attribute value (quoted) state
look (AfterValue tag) c text =
    if is_space c then SwitchTo (BeforeName tag) []
    else (if c == solidus then SwitchTo (SelfClosing tag) []
    else (if c == greater_than then emit tag
    else ReconsumeIn (BeforeName tag) []))
--
-- 13.2.5.40 Self-closing start tag state. The flag is not kept.
look (SelfClosing tag) c text =
    if c == greater_than then emit tag
    else ReconsumeIn (BeforeName tag) []
--
-- 13.2.5.41 Bogus comment state
look (Bogus comment) c text =
    if c == greater_than then SwitchTo Data (Comment comment ∷ [])
    else SwitchTo (Bogus (with_char comment c)) []
--
-- 13.2.5.42 Markup declaration open state. `[CDATA[` begins a bogus comment, as everywhere outside of SVG and MathML.
look Markup c text =
    if begins_with (codes "--") (c ∷ text) then SwitchPast 1 (CommentStart []) []
    else (if begins_with (codes "doctype") (map lower (c ∷ take 6 text)) then SwitchPast 6 DoctypeBody []
    else ReconsumeIn (Bogus []) [])
--
-- 13.2.5.43 Comment start state
look (CommentStart comment) c text =
    if c == hyphen then SwitchTo (CommentStartDash comment) []
    else (if c == greater_than then SwitchTo Data (Comment comment ∷ [])
    else ReconsumeIn (CommentBody comment) [])
--
-- 13.2.5.44 Comment start dash state
look (CommentStartDash comment) c text =
    if c == hyphen then SwitchTo (CommentEnd comment) []
    else (if c == greater_than then SwitchTo Data (Comment comment ∷ [])
    else ReconsumeIn (CommentBody (comment ++ hyphen ∷ [])) [])
--
-- 13.2.5.45 Comment state, and 13.2.5.46 to 13.2.5.49, the less-than sign states within: after `<!` the Standard reads `-` and
-- `--` to report a nested comment, and then goes on as the rows below do.
look (CommentBody comment) c text =
    if c == hyphen then SwitchTo (CommentEndDash comment) []
    else SwitchTo (CommentBody (with_char comment c)) []
--
-- 13.2.5.50 Comment end dash state
look (CommentEndDash comment) c text =
    if c == hyphen then SwitchTo (CommentEnd comment) []
    else ReconsumeIn (CommentBody (comment ++ hyphen ∷ [])) []
--
-- 13.2.5.51 Comment end state
look (CommentEnd comment) c text =
    if c == greater_than then SwitchTo Data (Comment comment ∷ [])
    else (if c == exclamation_mark then SwitchTo (CommentEndBang comment) []
    else (if c == hyphen then SwitchTo (CommentEnd (comment ++ hyphen ∷ [])) []
    else ReconsumeIn (CommentBody (comment ++ codes "--")) []))
--
-- 13.2.5.52 Comment end bang state
look (CommentEndBang comment) c text =
    if c == hyphen then SwitchTo (CommentEndDash (comment ++ codes "--!")) []
    else (if c == greater_than then SwitchTo Data (Comment comment ∷ [])
    else ReconsumeIn (CommentBody (comment ++ codes "--!")) [])
--
-- 13.2.5.53 DOCTYPE state to 13.2.5.68 bogus DOCTYPE state: each of them ends at the first >, in a quoted identifier too, and
-- what a DOCTYPE says is not kept.
look DoctypeBody c text =
    if c == greater_than then SwitchTo Data (Doctype ∷ [])
    else SwitchTo DoctypeBody []

-- The tokens that the end of the text gives in each state. A tag that is not ended gives nothing (13.2.5.8 and others, 'eof-in-tag').
unfoldable pub tokens_at_end : State → List Token
tokens_at_end Data = []
tokens_at_end Plaintext = []
tokens_at_end TagOpen = Char less_than ∷ []
tokens_at_end EndTagOpen = chars (less_than ∷ solidus ∷ [])
tokens_at_end (Raw kind last) = []
tokens_at_end (RawLess kind last) = Char less_than ∷ []
tokens_at_end (RawEndOpen kind last) = chars (less_than ∷ solidus ∷ [])
tokens_at_end (RawEndName kind last letters) = chars (less_than ∷ solidus ∷ letters)
tokens_at_end (EscapeStart last) = []
tokens_at_end (EscapeStartDash last) = []
tokens_at_end (EscapedDash last) = []
tokens_at_end (EscapedDashDash last) = []
tokens_at_end (EscapedLess last) = Char less_than ∷ []
tokens_at_end (DoubleStart last letters) = []
tokens_at_end (DoubleEscaped last) = []
tokens_at_end (DoubleDash last) = []
tokens_at_end (DoubleDashDash last) = []
tokens_at_end (DoubleLess last) = []
tokens_at_end (DoubleEnd last letters) = []
tokens_at_end (TagName tag) = []
tokens_at_end (BeforeName tag) = []
tokens_at_end (AttributeName tag name) = []
tokens_at_end (AfterName tag name) = []
tokens_at_end (BeforeValue tag name) = []
tokens_at_end (QuotedValue quote tag name value) = []
tokens_at_end (UnquotedValue tag name value) = []
tokens_at_end (AfterValue tag) = []
tokens_at_end (SelfClosing tag) = []
tokens_at_end (Bogus comment) = Comment comment ∷ []
tokens_at_end Markup = Comment [] ∷ []
tokens_at_end (CommentStart comment) = Comment comment ∷ []
tokens_at_end (CommentStartDash comment) = Comment comment ∷ []
tokens_at_end (CommentBody comment) = Comment comment ∷ []
tokens_at_end (CommentEndDash comment) = Comment comment ∷ []
tokens_at_end (CommentEnd comment) = Comment comment ∷ []
tokens_at_end (CommentEndBang comment) = Comment comment ∷ []
tokens_at_end DoctypeBody = Doctype ∷ []
