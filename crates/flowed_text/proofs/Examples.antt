-- Worked examples of flowed text.
use Rattle.std.proofs.Common.{◌≡◌, ℕ, true, false, List, [], ◌∷◌, ◌++◌, refl}
use Rattle.std.specs.Prelude.{codes, replicate}
use Rattle.std.specs.List.{flat_map}
use Rattle.flowed_text.specs.declared.Para.{Para}
use Rattle.flowed_text.specs.Lines.{lines}
use Rattle.flowed_text.specs.Paragraphs.{paras_of}
use Rattle.flowed_text.specs.Flow.{line_break, flow, width}

abbrev crlf : List ℕ
crlf = 13 ∷ 10 ∷ []

abbrev para : ℕ → List ℕ → Para
para depth text = record { depth = depth; text = text }

-- ---- reading

-- quoted lines that flow, a deeper one, plain lines that flow, a stuffed one, and a signature line, which doesn't flow
letter : List ℕ
letter = codes "> quoted one " ++ crlf ++ codes "> goes on" ++ crlf ++ codes ">> deep" ++ crlf ++ codes "plain " ++ crlf ++ codes "text" ++ crlf
    ++ codes " stuffed" ++ crlf ++ codes "-- " ++ crlf ++ codes "sig" ++ crlf

letter_read : paras_of letter false ≡ para 1 (codes "quoted one goes on") ∷ para 2 (codes "deep") ∷ para 0 (codes "plain text") ∷ para 0 (codes "stuffed") ∷ para 0 (codes "-- ") ∷ para 0 (codes "sig") ∷ []
unfolding letter paras_of lines
letter_read = refl

letter_read_del_sp : paras_of letter true ≡ para 1 (codes "quoted onegoes on") ∷ para 2 (codes "deep") ∷ para 0 (codes "plaintext") ∷ para 0 (codes "stuffed") ∷ para 0 (codes "-- ") ∷ para 0 (codes "sig") ∷ []
unfolding letter paras_of lines
letter_read_del_sp = refl

-- a signature inside a quote, with and without a space after the mark
quoted_signature : paras_of (codes "> -- " ++ crlf ++ codes "> Ann" ++ crlf ++ codes ">-- " ++ crlf ++ codes ">Bo") false
    ≡ para 1 (codes "-- ") ∷ para 1 (codes "Ann") ∷ para 1 (codes "-- ") ∷ para 1 (codes "Bo") ∷ []
unfolding paras_of lines
quoted_signature = refl

-- where the depth changes the paragraph ends, and the line keeps its space, as a fixed line does (section 4.5)
depth_changes : paras_of (codes "> one " ++ crlf ++ codes "two " ++ crlf ++ codes "three") true ≡ para 1 (codes "one ") ∷ para 0 (codes "twothree") ∷ []
unfolding paras_of lines
depth_changes = refl

-- one space goes after all the marks: what follows it is text
stuffed_mark : paras_of (codes " >no mark" ++ crlf ++ codes ">  > text" ++ crlf) false ≡ para 0 (codes ">no mark") ∷ para 1 (codes " > text") ∷ []
unfolding paras_of lines
stuffed_mark = refl

-- a line that holds a space alone is stuffed and empty, and one that holds two flows
spaces : paras_of (codes " " ++ crlf ++ codes "  " ++ crlf ++ codes "x") false ≡ para 0 [] ∷ para 0 (codes " x") ∷ []
unfolding paras_of lines
spaces = refl

-- empty lines are paragraphs
empty_lines : paras_of (crlf ++ codes "> " ++ crlf ++ codes ">" ++ crlf) false ≡ para 0 [] ∷ para 1 [] ∷ para 1 [] ∷ []
unfolding paras_of lines
empty_lines = refl

-- a lone CR ends a line, and so does a lone LF; a last line needs no ending
endings : lines (codes "a" ++ 13 ∷ codes "b" ++ 10 ∷ 13 ∷ 13 ∷ 10 ∷ 10 ∷ codes "c") ≡ codes "a" ∷ codes "b" ∷ [] ∷ [] ∷ [] ∷ codes "c" ∷ []
unfolding lines
endings = refl

no_lines : lines [] ≡ []
unfolding lines
no_lines = refl

-- ---- writing

-- stuffing: after marks, and before a space, a `>` and `From `
stuffed : flow (para 2 (codes "deep") ∷ para 0 (codes " x") ∷ para 0 (codes ">x") ∷ para 0 (codes "From here") ∷ para 0 (codes "From") ∷ [])
    ≡ codes ">> deep" ++ crlf ++ codes "  x" ++ crlf ++ codes " >x" ++ crlf ++ codes " From here" ++ crlf ++ codes "From" ++ crlf
unfolding flow line_break
stuffed = refl

-- an empty paragraph is an empty line
empty : flow (para 0 [] ∷ para 1 [] ∷ para 0 (codes "-- ") ∷ []) ≡ crlf ++ codes "> " ++ crlf ++ codes "-- " ++ crlf
unfolding flow line_break
empty = refl

abbrev x's : ℕ → List ℕ
x's n = replicate n 120

-- a word of 100 characters has a line of its own
long_word : flow (para 0 (codes "a " ++ x's 100 ++ codes " b") ∷ []) ≡ codes "a " ++ crlf ++ x's 100 ++ codes " " ++ crlf ++ codes "b" ++ crlf
unfolding flow line_break
long_word = refl

-- a line that goes on with `From ` is stuffed too
from_here : flow (para 0 (x's 74 ++ codes " From here") ∷ []) ≡ x's 74 ++ codes " " ++ crlf ++ codes " From here" ++ crlf
unfolding flow line_break
from_here = refl

-- 76 characters precede the flowing space, and two spaces at a break are a flowing one and a stuffed line
two_spaces : flow (para 0 (x's 76 ++ codes "  b") ∷ []) ≡ x's 76 ++ codes " " ++ crlf ++ codes "  b" ++ crlf
unfolding flow line_break
two_spaces = refl

-- characters of four, three, two bytes and one
four_characters : width (240 ∷ 159 ∷ 152 ∷ 128 ∷ 226 ∷ 130 ∷ 172 ∷ 195 ∷ 169 ∷ 97 ∷ []) ≡ 4
four_characters = refl

-- a character of two bytes counts as one
abbrev accented : ℕ → List ℕ
accented n = flat_map (λ _. 195 ∷ 169 ∷ []) (x's n)

characters : flow (para 0 (codes "a " ++ accented 74 ++ codes " b") ∷ []) ≡ codes "a " ++ accented 74 ++ codes " " ++ crlf ++ codes "b" ++ crlf
unfolding flow line_break
characters = refl

-- marks and the space after them are among the 76
quoted : flow (para 3 (codes "a " ++ x's 70 ++ codes " b") ∷ para 3 (codes "a " ++ x's 71 ++ codes " b") ∷ [])
    ≡ codes ">>> a " ++ x's 70 ++ codes " " ++ crlf ++ codes ">>> b" ++ crlf ++ codes ">>> a " ++ crlf ++ codes ">>> " ++ x's 71 ++ codes " " ++ crlf ++ codes ">>> b" ++ crlf
unfolding flow line_break
quoted = refl

-- no line that flows is `-- `
dashes : flow (para 0 (codes "-- " ++ x's 80) ∷ para 0 (codes "a -- " ++ x's 72) ∷ []) ≡ codes "-- " ++ x's 80 ++ crlf ++ codes "a -- " ++ crlf ++ x's 72 ++ crlf
unfolding flow line_break
dashes = refl
