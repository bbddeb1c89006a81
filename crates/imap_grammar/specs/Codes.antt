-- The code in the brackets of a status response (RFC 9051 §7.1, RFC 7162 §3.1.2).
use Rattle.std.specs.Prelude.{ℕ, ◌==◌, if◌then◌else◌, List, [], ◌∷◌, codes, Option, Some, None}
use Rattle.imap_commands.specs.Bytes.{space, left_bracket, right_bracket}
use Rattle.imap_grammar.specs.declared.response.Code.{Code}
use Rattle.imap_grammar.specs.declared.response.Code.TheVariants as coding
use Rattle.imap_grammar.specs.declared.codes.CodeName.{CodeName}
use Rattle.imap_grammar.specs.declared.codes.CodeName.TheVariants as names
use Rattle.imap_values.specs.declared.words.Class.TheVariants as classes
use Rattle.imap_values.specs.Words.{◌>>=◌, eq_ignore_case, take_while_at, take_while1_at, byte_at, end_at, number_at, positive_at}

unfoldable pub code_name_of : List ℕ → CodeName
code_name_of word =
    if eq_ignore_case (codes "uidvalidity") word then names.Uidvalidity
    else (if eq_ignore_case (codes "highestmodseq") word then names.Highestmodseq
    else (if eq_ignore_case (codes "nomodseq") word then names.Nomodseq
    else (if eq_ignore_case (codes "closed") word then names.Closed
    else names.Other)))

abbrev pub validity_of : List ℕ → Option Code
validity_of argument = do
  n ← number_at 4294967295 argument
  u ← end_at n.1
  Some (coding.Uidvalidity n.0)

abbrev pub modseq_of : List ℕ → Option Code
modseq_of argument = do
  n ← positive_at 9223372036854775807 argument
  u ← end_at n.1
  Some (coding.Highestmodseq n.0)

abbrev pub code_value_of : CodeName → List ℕ → Option Code
code_value_of names.Uidvalidity argument = validity_of argument
code_value_of names.Highestmodseq argument = modseq_of argument
code_value_of names.Nomodseq argument = Some coding.Nomodseq
code_value_of names.Closed argument = Some coding.Closed
code_value_of names.Other argument = Some coding.Unread

-- the argument of a code after its word: none before the ], or the bytes between a space and the ]
abbrev pub argument_at : List ℕ → Option (List ℕ × List ℕ)
argument_at [] = None
argument_at (c ∷ rest) = if c == right_bracket then Some ([], rest) else (let a = take_while_at classes.CodeText rest in byte_at right_bracket a.1 >>= (λ after. Some (a.0, after)))

abbrev pub skip_space : List ℕ → List ℕ
skip_space [] = []
skip_space (c ∷ text) = if c == space then text else c ∷ text

unfoldable pub code_at : List ℕ → Option (Code × List ℕ)
code_at text = do
  inner ← byte_at left_bracket text
  word ← take_while1_at classes.CodeWord inner
  a ← argument_at word.1
  code ← code_value_of (code_name_of word.0) a.0
  Some (code, skip_space a.1)

abbrev pub code_or_text : Option (Code × List ℕ) → List ℕ → Option Code × List ℕ
code_or_text None text = (None, text)
code_or_text (Some c) text = (Some c.0, c.1)

-- the code of a status response and the text after it; a code that does not read is part of the text
abbrev pub code_and_text : List ℕ → Option Code × List ℕ
code_and_text text = code_or_text (code_at text) text
