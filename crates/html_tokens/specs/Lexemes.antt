-- The pieces of a text that the scanner lends or makes.
use Rattle.std.specs.Prelude.{◌≡◌, ℕ, Bool, true, false, List}
use Rattle.std.specs.Str.{chars as text_chars}
use Rattle.html_syntax.specs.Token.{Token}
use Rattle.html_syntax.specs.Tokenizer.{chars}
use Rattle.html_syntax.specs.Held.{meaning}
use Rattle.html_references.specs.Input.{no_special}
use Rattle.html_tokens.specs.Scanned.{slice_between}
use Rattle.html_tokens.specs.declared.lexeme.Lexeme.{Lexeme}
use Rattle.html_tokens.specs.declared.lexeme.Lexeme.TheVariants as lexeme
use Rattle.html_tokens.specs.declared.span.Part.{Part}
use Rattle.html_tokens.specs.declared.span.Part.TheVariants as part
use Rattle.html_tokens.specs.declared.span.Span.{Span}

-- a text that is lent has one token for each of its characters
abbrev pub lexeme_tokens : Lexeme → List Token
lexeme_tokens (lexeme.Lent text) = chars (text_chars text.now)
lexeme_tokens (lexeme.Made token) = meaning token

abbrev pub is_lent : Lexeme → Bool
is_lent (lexeme.Lent text) = true
is_lent (lexeme.Made token) = false

abbrev pub is_plain_part : List ℕ → Part → Bool
is_plain_part bytes (part.Run r) = no_special bytes
is_plain_part bytes part.StartTag = false
is_plain_part bytes part.EndTag = false
is_plain_part bytes (part.Comment from to) = false
is_plain_part bytes part.Doctype = false

-- the bytes of the span
abbrev pub span_bytes : List ℕ → Span → List ℕ
span_bytes text span = slice_between span.start span.end text

-- the span is a run of characters without `&`, CR and U+0000
abbrev pub is_plain_run : List ℕ → Span → Bool
is_plain_run text span = is_plain_part (span_bytes text span) span.part

-- A text that is lent is these bytes.
abbrev pub LendsBytes : List ℕ → Lexeme → Type 0
LendsBytes bytes (lexeme.Lent text) = text.now ≡ bytes
LendsBytes bytes (lexeme.Made token) = Unit {0}
