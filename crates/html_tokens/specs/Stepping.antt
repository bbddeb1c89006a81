-- The step to the next token.
use Rattle.std.specs.Prelude.{◌≡◌, ◌≢◌, ℕ, true, false, ◌<◌, ◌≤◌, List, [], ◌++◌, Option, Some, None, length, drop, IsCharBoundary}
use Rattle.html_syntax.specs.Token.{Token}
use Rattle.html_syntax.specs.Tokenizer.{read}
use Rattle.html_references.specs.Input.{input}
use Rattle.html_tokens.specs.Scanned.{state_in, span_tokens, IsSpan, opens_markup}
use Rattle.html_tokens.specs.declared.mode.Mode.{Mode}
use Rattle.html_tokens.specs.declared.mode.Mode.TheVariants as mode
use Rattle.html_tokens.specs.declared.span.Part.{Part}
use Rattle.html_tokens.specs.declared.span.Part.TheVariants as part
use Rattle.html_references.specs.declared.stretch.ReadAs.{ReadAs}
use Rattle.html_tokens.specs.declared.step.Step.{Step}

-- the tokens of a text that is read in a mode
abbrev pub tokens_in : Mode → List ℕ → List Token
tokens_in mode text = read (state_in mode) 0 (input text)

-- A run of characters ends before markup or at the text's end.
abbrev pub RunEndsAtMarkup : List ℕ → Part → ℕ → Type 0
RunEndsAtMarkup text (part.Run r) end = end < length text → opens_markup (drop end text) ≡ true
RunEndsAtMarkup text part.StartTag end = Unit {0}
RunEndsAtMarkup text part.EndTag end = Unit {0}
RunEndsAtMarkup text (part.Comment from to) end = Unit {0}
RunEndsAtMarkup text part.Doctype end = Unit {0}

-- in data mode, the text does not begin with markup
abbrev pub BeginsOutsideMarkup : Mode → List ℕ → Type 0
BeginsOutsideMarkup mode.Data text = opens_markup text ≡ false
BeginsOutsideMarkup (mode.Inside c) text = Unit {0}
BeginsOutsideMarkup mode.Plaintext text = Unit {0}

-- A run in data mode does not begin at markup.
abbrev pub RunBeginsOutsideMarkup : List ℕ → Mode → Part → ℕ → Type 0
RunBeginsOutsideMarkup text mode (part.Run r) start = BeginsOutsideMarkup mode (drop start text)
RunBeginsOutsideMarkup text mode part.StartTag start = Unit {0}
RunBeginsOutsideMarkup text mode part.EndTag start = Unit {0}
RunBeginsOutsideMarkup text mode (part.Comment from to) start = Unit {0}
RunBeginsOutsideMarkup text mode part.Doctype start = Unit {0}

-- After a run the mode is data.
abbrev pub RunLeavesData : Part → Mode → Type 0
RunLeavesData (part.Run r) after = after ≡ mode.Data
RunLeavesData part.StartTag after = Unit {0}
RunLeavesData part.EndTag after = Unit {0}
RunLeavesData (part.Comment from to) after = Unit {0}
RunLeavesData part.Doctype after = Unit {0}

-- In data mode, the bytes that are skipped before a span give no token.
abbrev pub SkipsNoToken : List ℕ → ℕ → Mode → ℕ → Type 0
SkipsNoToken text place mode.Data start = tokens_in mode.Data (drop start text) ≡ tokens_in mode.Data (drop place text)
SkipsNoToken text place (mode.Inside c) start = Unit {0}
SkipsNoToken text place mode.Plaintext start = Unit {0}

-- The step to the first token of the text, and to the place after it.
pub record IsStepTo (text : List ℕ) (mode : Mode) (step : Step) : Type 0 where
  pub reads : tokens_in mode text ≡ span_tokens text step.span ++ tokens_in step.mode (drop step.at text)
  pub span : IsSpan text step.span
  pub at : IsCharBoundary text step.at
  pub start : step.span.start ≡ 0
  pub ends_at_place : step.span.end ≡ step.at
  pub run_ends_at_markup : RunEndsAtMarkup text step.span.part step.span.end
  pub run_begins_outside_markup : RunBeginsOutsideMarkup text mode step.span.part step.span.start
  pub run_leaves_data : RunLeavesData step.span.part step.mode

-- no token remains, or the step to the first token
abbrev pub IsNextStep : List ℕ → Mode → Option Step → Type 0
IsNextStep text mode None = tokens_in mode text ≡ []
IsNextStep text mode (Some step) = IsStepTo text mode step

-- the step to a run of characters up to an offset
abbrev pub run_step : ReadAs → ℕ → Step
run_step read_as end = record { span = record { start = 0; end = end; part = part.Run read_as }; at = end; mode = mode.Data }

-- ---- from an offset on

-- The step to the first token from an offset on, and to the place after it.
pub record IsStepAt (text : List ℕ) (place : ℕ) (mode : Mode) (step : Step) : Type 0 where
  pub reads : tokens_in mode (drop place text) ≡ span_tokens text step.span ++ tokens_in step.mode (drop step.at text)
  pub token_remains : tokens_in mode (drop place text) ≢ []
  pub nonempty : span_tokens text step.span ≢ []
  pub span : IsSpan text step.span
  pub at : IsCharBoundary text step.at
  pub advances : place ≤ step.span.start
  pub skips_no_token : SkipsNoToken text place mode step.span.start
  pub ends_at_place : step.span.end ≡ step.at
  pub run_ends_at_markup : RunEndsAtMarkup text step.span.part step.span.end
  pub run_begins_outside_markup : RunBeginsOutsideMarkup text mode step.span.part step.span.start
  pub run_leaves_data : RunLeavesData step.span.part step.mode

-- no token remains, or the step to the first token from the offset on
abbrev pub IsNextStepAt : List ℕ → ℕ → Mode → Option Step → Type 0
IsNextStepAt text place mode None = tokens_in mode (drop place text) ≡ []
IsNextStepAt text place mode (Some step) = IsStepAt text place mode step

-- Of two spans one after the other that are runs of characters, the second begins after the end of the first.
abbrev pub RunsAreSeparate : Type 0
RunsAreSeparate =
    (text : List ℕ) (place : ℕ) (mode : Mode) (first second : Step) (r s : ReadAs)
    → IsStepAt text place mode first → IsStepAt text first.at first.mode second
    → first.span.part ≡ part.Run r → second.span.part ≡ part.Run s → first.span.end < second.span.start
