-- The lexer of commands: bytes as single bytes and strings (RFC 9051 §4.3, §9: `command`, `quoted`, `literal`).
use Rattle.std.specs.Prelude.{ℕ, zero, suc, ◌+◌, ◌-◌, ◌*◌, ◌==◌, ◌||◌, if◌then◌else◌, Option, Some, None, List, [], ◌∷◌, ◌++◌}
use Rattle.imap_commands.specs.Bytes.{line_feed, carriage_return, quotation_mark, backslash, left_brace, right_brace, is_digit}
use Rattle.imap_commands.specs.Pieces.{line_end}

-- a byte outside of strings, or a string, quoted or literal
pub data Item : Type 0 where
  Byte : ℕ → Item
  Str : List ℕ → Item

-- the state of a lexer
pub data LexState : Type 0 where
  -- outside of strings: the items so far
  Between : List Item → LexState
  -- in a quoted string: the items before it and its bytes so far; and after a `\` in one
  Quoted : List Item → List ℕ → LexState
  Escaped : List Item → List ℕ → LexState
  -- after the `{` of a literal, and in its size
  Brace : List Item → LexState
  Size : List Item → ℕ → LexState
  -- in a literal: the bytes to come, and those so far
  Octets : List Item → ℕ → List ℕ → LexState
  -- certain bytes have to come before the next state
  Expect : List ℕ → LexState → LexState
  -- after the end of a command
  Whole : List Item → LexState
  Wrong : LexState

abbrev pub literal_state : List Item → ℕ → List ℕ → LexState
literal_state items zero text = Between (items ++ Str text ∷ [])
literal_state items (suc left) text = Octets items (suc left) text

abbrev pub expect_state : List ℕ → LexState → LexState
expect_state [] next = next
expect_state (byte ∷ more) next = Expect (byte ∷ more) next

-- the state after one more byte
unfoldable pub lex_step : LexState → ℕ → LexState
lex_step (Between items) c =
    if c == quotation_mark then Quoted items []
    else if c == left_brace then Brace items
    else if c == carriage_return then Expect (line_feed ∷ []) (Whole items)
    else Between (items ++ Byte c ∷ [])
lex_step (Quoted items text) c =
    if c == quotation_mark then Between (items ++ Str text ∷ [])
    else if c == backslash then Escaped items text
    else if c == carriage_return || c == line_feed then Wrong
    else Quoted items (text ++ c ∷ [])
lex_step (Escaped items text) c = if c == quotation_mark || c == backslash then Quoted items (text ++ c ∷ []) else Wrong
lex_step (Brace items) c = if is_digit c then Size items (c - 48) else Wrong
lex_step (Size items size) c =
    if is_digit c then Size items (10 * size + (c - 48))
    else if c == right_brace then Expect line_end (literal_state items size [])
    else Wrong
lex_step (Octets items zero text) c = Wrong
lex_step (Octets items (suc left) text) c = literal_state items left (text ++ c ∷ [])
lex_step (Expect [] next) c = Wrong
lex_step (Expect (byte ∷ more) next) c = if c == byte then expect_state more next else Wrong
lex_step (Whole items) c = Wrong
lex_step Wrong c = Wrong

unfoldable pub lex_from : LexState → List ℕ → LexState
lex_from place [] = place
lex_from place (c ∷ bytes) = lex_from (lex_step place c) bytes

-- the items of one whole command: it ends at its first line end outside of strings, and nothing follows
abbrev pub items_if_whole : LexState → Option (List Item)
items_if_whole (Whole items) = Some items
items_if_whole _ = None

unfoldable pub items_of : List ℕ → Option (List Item)
items_of bytes = items_if_whole (lex_from (Between []) bytes)
