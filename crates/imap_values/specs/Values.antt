-- Values of any kind: a string, an atom, or a parenthesized list of values (RFC 9051 §4).
use Rattle.std.specs.Prelude.{ℕ, zero, suc, ◌+◌, ◌-◌, ◌==◌, if◌then◌else◌, List, [], ◌∷◌, length, Option, Some, None}
use Rattle.imap_commands.specs.Bytes.{space, quotation_mark, left_parenthesis, right_parenthesis, left_brace, tilde}
use Rattle.imap_values.specs.declared.values.Token.{Token}
use Rattle.imap_values.specs.declared.values.Token.TheVariants as tokens
use Rattle.imap_values.specs.declared.words.Class.TheVariants as classes
use Rattle.imap_values.specs.Words.{◌>>=◌, take_while1_at}
use Rattle.imap_values.specs.Strings.{quoted_raw_at, literal_at}

abbrev pub text_token : Option (List ℕ × List ℕ) → Option (Token × List ℕ)
text_token text = text >>= λ x. Some (tokens.Text, x.1)

abbrev pub atom_token_at : List ℕ → Option (Token × List ℕ)
atom_token_at bytes = text_token (take_while1_at classes.Atom bytes)

abbrev pub literal_token_at : List ℕ → Option (Token × List ℕ)
literal_token_at bytes = text_token (literal_at bytes)

-- a literal8, or an atom that begins with ~
abbrev pub tilde_token_at : List ℕ → List ℕ → Option (Token × List ℕ)
tilde_token_at whole [] = atom_token_at whole
tilde_token_at whole (c ∷ bytes) = if c == left_brace then literal_token_at bytes else atom_token_at whole

unfoldable pub token_at : List ℕ → Option (Token × List ℕ)
token_at [] = None
token_at (c ∷ bytes) =
    if c == left_parenthesis then Some (tokens.Open, bytes)
    else (if c == right_parenthesis then Some (tokens.Close, bytes)
    else (if c == space then Some (tokens.Space, bytes)
    else (if c == quotation_mark then text_token (quoted_raw_at bytes)
    else (if c == left_brace then literal_token_at bytes
    else (if c == tilde then tilde_token_at (c ∷ bytes) bytes
    else atom_token_at (c ∷ bytes))))))

-- the number of open lists after a token; outside of all lists there is no space and no )
abbrev pub depth_after : ℕ → Token → Option ℕ
depth_after depth tokens.Open = Some (depth + 1)
depth_after depth tokens.Close = if depth == 0 then None else Some (depth - 1)
depth_after depth tokens.Space = if depth == 0 then None else Some depth
depth_after depth tokens.Text = Some depth

-- the rest after the first of at most n tokens that leaves no list open
unfoldable pub tokens_end_at : ℕ → ℕ → List ℕ → Option (List ℕ)
tokens_end_at zero depth bytes = None
tokens_end_at (suc n) depth bytes = token_at bytes >>= λ t. depth_after depth t.0 >>= λ d. if d == 0 then Some t.1 else tokens_end_at n d t.1

-- the rest after a value
abbrev pub value_end_at : List ℕ → Option (List ℕ)
value_end_at bytes = tokens_end_at (length bytes) 0 bytes
