-- The tokens that remain for a scanner, and the tokens of its spans.
use Rattle.std.specs.Prelude.{◌≡◌, ℕ, ◌+◌, ◌-◌, ◌<◌, ◌≤◌, Bool, true, false, not, ◌&&◌, ◌||◌, ◌==◌, List, [], ◌∷◌, take, drop, map, codes, max, IsCharBoundary}
use Rattle.html_syntax.specs.Token.{Token}
use Rattle.html_syntax.specs.Token.Token.{Comment, Doctype}
use Rattle.html_syntax.specs.Characters.{less_than, solidus, exclamation_mark, question_mark, is_letter}
use Rattle.html_syntax.specs.States.{RawTextKind, State, replace_null}
use Rattle.html_syntax.specs.States.State.{Data, Plaintext, Raw}
use Rattle.html_syntax.specs.States.RawTextKind.{Rcdata, Rawtext, Script}
use Rattle.html_syntax.specs.Tokenizer.{read, chars}
use Rattle.html_references.specs.Input.{input, read_as}
use Rattle.html_tokens.specs.declared.mode.Content.{Content}
use Rattle.html_tokens.specs.declared.mode.Content.TheVariants as content
use Rattle.html_tokens.specs.declared.mode.Mode.{Mode}
use Rattle.html_tokens.specs.declared.mode.Mode.TheVariants as mode
use Rattle.html_tokens.specs.declared.span.Part.{Part}
use Rattle.html_tokens.specs.declared.span.Part.TheVariants as part
use Rattle.html_tokens.specs.declared.span.Span.{Span}

-- ---- the state of a scanner

-- the name of the element whose content is read
abbrev pub element_name : Content → List ℕ
element_name content.Title = codes "title"
element_name content.Textarea = codes "textarea"
element_name content.Style = codes "style"
element_name content.Xmp = codes "xmp"
element_name content.Iframe = codes "iframe"
element_name content.Noembed = codes "noembed"
element_name content.Noframes = codes "noframes"
element_name content.Script = codes "script"

abbrev pub raw_text_kind : Content → RawTextKind
raw_text_kind content.Title = Rcdata
raw_text_kind content.Textarea = Rcdata
raw_text_kind content.Style = Rawtext
raw_text_kind content.Xmp = Rawtext
raw_text_kind content.Iframe = Rawtext
raw_text_kind content.Noembed = Rawtext
raw_text_kind content.Noframes = Rawtext
raw_text_kind content.Script = Script

abbrev pub state_in : Mode → State
state_in mode.Data = Data
state_in (mode.Inside c) = Raw (raw_text_kind c) (element_name c)
state_in mode.Plaintext = Plaintext

-- the text, the offset of the next byte, and how the text is read from there
pub record ScannerState : Type 0 where
  pub text : List ℕ
  pub at : ℕ
  pub mode : Mode

-- the tokens that remain
abbrev pub tokens_left : ScannerState → List Token
tokens_left p = read (state_in p.mode) 0 (input (drop p.at p.text))

-- ---- spans

abbrev pub slice_between : ℕ → ℕ → List ℕ → List ℕ
slice_between start end text = take (end - start) (drop start text)

-- The tokens of a span: the characters of a run, a comment, a DOCTYPE, or the tag at its start.
abbrev pub part_tokens : List ℕ → ℕ → ℕ → Part → List Token
part_tokens text start end (part.Run r) = chars (read_as r (input (slice_between start end text)))
part_tokens text start end part.StartTag = take 1 (read Data 0 (input (drop start text)))
part_tokens text start end part.EndTag = take 1 (read Data 0 (input (drop start text)))
part_tokens text start end (part.Comment from to) = Comment (map replace_null (input (slice_between from to text))) ∷ []
part_tokens text start end part.Doctype = Doctype ∷ []

abbrev pub span_tokens : List ℕ → Span → List Token
span_tokens text span = part_tokens text span.start span.end span.part

-- the text has a token
abbrev pub GivesToken : List ℕ → Type 0
GivesToken text = (t : Token) × (more : List Token) × (read Data 0 (input text) ≡ t ∷ more)

-- the text begins with `<` and a letter
abbrev pub opens_start : List ℕ → Bool
opens_start (a ∷ b ∷ text) = a == less_than && is_letter b
opens_start (a ∷ []) = false
opens_start [] = false

-- the text begins with `</` and a letter
abbrev pub opens_end : List ℕ → Bool
opens_end (a ∷ b ∷ c ∷ text) = a == less_than && b == solidus && is_letter c
opens_end (a ∷ b ∷ []) = false
opens_end (a ∷ []) = false
opens_end [] = false

abbrev pub HoldsPart : List ℕ → ℕ → Part → Type 0
HoldsPart text start (part.Run r) = Unit {0}
HoldsPart text start part.StartTag = (opens_start (drop start text) ≡ true) × GivesToken (drop start text)
HoldsPart text start part.EndTag = (opens_end (drop start text) ≡ true) × GivesToken (drop start text)
HoldsPart text start (part.Comment from to) = (from ≤ to) × IsCharBoundary text from × IsCharBoundary text to
HoldsPart text start part.Doctype = Unit {0}

-- the span is a span of the text
pub record IsSpan (text : List ℕ) (span : Span) : Type 0 where
  pub nonempty : span.start < span.end
  pub begins : IsCharBoundary text span.start
  pub ends : IsCharBoundary text span.end
  pub holds : HoldsPart text span.start span.part

-- ---- markup

abbrev pub is_nil : List ℕ → Bool
is_nil [] = true
is_nil (c ∷ text) = false

-- the text opens markup: `<` and a letter, `!` or `?`, or `</` and anything
abbrev pub opens_markup : List ℕ → Bool
opens_markup (a ∷ b ∷ text) = a == less_than && (is_letter b || b == exclamation_mark || b == question_mark || (b == solidus && not (is_nil text)))
opens_markup (a ∷ []) = false
opens_markup [] = false

-- ---- spans in a longer text

-- the greatest offset of the part
abbrev pub part_bound : Part → ℕ
part_bound (part.Run r) = 0
part_bound part.StartTag = 0
part_bound part.EndTag = 0
part_bound (part.Comment from to) = max from to
part_bound part.Doctype = 0

abbrev pub shift_part : ℕ → Part → Part
shift_part by (part.Run r) = part.Run r
shift_part by part.StartTag = part.StartTag
shift_part by part.EndTag = part.EndTag
shift_part by (part.Comment from to) = part.Comment (by + from) (by + to)
shift_part by part.Doctype = part.Doctype
