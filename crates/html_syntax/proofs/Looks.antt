-- A character is looked at three times at most.
use Rattle.std.proofs.Common.{ℕ, Bool, true, false, ◌||◌, ◌==◌, if◌then◌else◌, List, [], ◌∷◌, ◌++◌, arith}
use Rattle.html_syntax.specs.Token.{Token}
use Rattle.html_syntax.specs.Characters.{solidus, greater_than, is_letter, is_space}
use Rattle.html_syntax.specs.States.{State}
use Rattle.html_syntax.specs.States.Action.{SwitchTo, ReconsumeIn}
use Rattle.html_syntax.specs.Rows.{double_escape_state, emit_char}
use Rattle.html_syntax.specs.States.RawTextKind.{Rcdata, Rawtext, Script, Escaped}
use Rattle.html_syntax.specs.States.State.{Data, Plaintext, TagOpen, EndTagOpen, Raw, RawLess, RawEndOpen, RawEndName, EscapeStart, EscapeStartDash, EscapedDash, EscapedDashDash, EscapedLess, DoubleStart, DoubleEscaped, DoubleDash, DoubleDashDash, DoubleLess, DoubleEnd, TagName, BeforeName, AttributeName, AfterName, BeforeValue, QuotedValue, UnquotedValue, AfterValue, SelfClosing, Bogus, CommentStart, CommentStartDash, CommentBody, CommentEndDash, CommentEnd, CommentEndBang, Markup, DoctypeBody}
use Rattle.html_syntax.specs.Tokenizer.{look, prepend_tokens, look_again, step, IsRead}

-- A row with two tests that consume the character: its last case is left, which reconsumes it.
reads : (a b : Bool) (s t back : State) (out : List Token) (c : ℕ) (text : List ℕ) → IsRead (look_again c text (prepend_tokens [] (look back c text)))
    → IsRead (look_again c text (look_again c text (if a then SwitchTo s out else (if b then SwitchTo t out else ReconsumeIn back []))))
unfolding look_again
reads true b s t back out c text h = tt
reads false true s t back out c text h = tt
reads false false s t back out c text h = h

escaped : (last : List ℕ) (c : ℕ) (text : List ℕ) → IsRead (look_again c text (prepend_tokens [] (look (Raw Escaped last) c text)))
unfolding look look_again
escaped last c text = grind arith

double_escaped : (last : List ℕ) (c : ℕ) (text : List ℕ) → IsRead (look_again c text (prepend_tokens [] (look (DoubleEscaped last) c text)))
unfolding look look_again
double_escaped last c text = grind arith

pub three_looks : (s : State) (c : ℕ) (text : List ℕ) → IsRead (step s c text)
unfolding look look_again step
three_looks Data c text = grind arith
three_looks Plaintext c text = grind arith
three_looks TagOpen c text = grind arith
three_looks EndTagOpen c text = grind arith
three_looks (Raw Rcdata last) c text = grind arith
three_looks (Raw Rawtext last) c text = grind arith
three_looks (Raw Script last) c text = grind arith
three_looks (Raw Escaped last) c text = grind arith
three_looks (RawLess Rcdata last) c text = grind arith
three_looks (RawLess Rawtext last) c text = grind arith
three_looks (RawLess Script last) c text = grind arith
three_looks (RawLess Escaped last) c text = grind arith
three_looks (RawEndOpen Rcdata last) c text = grind arith
three_looks (RawEndOpen Rawtext last) c text = grind arith
three_looks (RawEndOpen Script last) c text = grind arith
three_looks (RawEndOpen Escaped last) c text = grind arith
three_looks (RawEndName Rcdata last letters) c text = grind arith
three_looks (RawEndName Rawtext last letters) c text = grind arith
three_looks (RawEndName Script last letters) c text = grind arith
three_looks (RawEndName Escaped last letters) c text = grind arith
three_looks (EscapeStart last) c text = grind arith
three_looks (EscapeStartDash last) c text = grind arith
three_looks (EscapedDash last) c text = grind arith
three_looks (EscapedDashDash last) c text = grind arith
three_looks (EscapedLess last) c text = grind arith
three_looks (DoubleStart last letters) c text =
    reads (is_letter c) (is_space c || c == solidus || c == greater_than) (DoubleStart last (letters ++ c ∷ [])) (double_escape_state (DoubleEscaped last) (Raw Escaped last) letters) (Raw Escaped last) (emit_char c) c text (escaped last c text)
three_looks (DoubleEscaped last) c text = grind arith
three_looks (DoubleDash last) c text = grind arith
three_looks (DoubleDashDash last) c text = grind arith
three_looks (DoubleLess last) c text = grind arith
three_looks (DoubleEnd last letters) c text =
    reads (is_letter c) (is_space c || c == solidus || c == greater_than) (DoubleEnd last (letters ++ c ∷ [])) (double_escape_state (Raw Escaped last) (DoubleEscaped last) letters) (DoubleEscaped last) (emit_char c) c text (double_escaped last c text)
three_looks (TagName tag) c text = grind arith
three_looks (BeforeName tag) c text = grind arith
three_looks (AttributeName tag name) c text = grind arith
three_looks (AfterName tag name) c text = grind arith
three_looks (BeforeValue tag name) c text = grind arith
three_looks (QuotedValue quote tag name value) c text = grind arith
three_looks (UnquotedValue tag name value) c text = grind arith
three_looks (AfterValue tag) c text = grind arith
three_looks (SelfClosing tag) c text = grind arith
three_looks (Bogus comment) c text = grind arith
three_looks (CommentStart comment) c text = grind arith
three_looks (CommentStartDash comment) c text = grind arith
three_looks (CommentBody comment) c text = grind arith
three_looks (CommentEndDash comment) c text = grind arith
three_looks (CommentEnd comment) c text = grind arith
three_looks (CommentEndBang comment) c text = grind arith
three_looks Markup c text = grind arith
three_looks DoctypeBody c text = grind arith
