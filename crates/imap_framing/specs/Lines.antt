-- The lines of a unit: which lines end with the size of a literal, `{n}`, and which units have literals (RFC 9051 §2.2.2, §4.3, §7).
use Rattle.std.specs.Prelude.{ℕ, ◌+◌, ◌-◌, ◌*◌, Bool, false, not, ◌&&◌, ◌==◌, if◌then◌else◌, List, [], ◌∷◌, codes}
use Rattle.std.specs.List.{list_any, fold, take_while}
use Rattle.std.specs.Str.{str_eq_ignore_ascii_case}
pub use Rattle.imap_framing.specs.Bytes.{is_digit}
use Rattle.imap_framing.specs.Bytes.{space, asterisk, digit_zero, left_brace, right_brace}

-- ---- how a line ends, byte by byte

pub data Tail : Type 0 where
  -- without any part of a size; with `{`
  Out Open : Tail
  -- with `{` and digits; with `{`, digits and `}`
  Number : ℕ → Tail
  Size : ℕ → Tail

abbrev pub tail_else : Tail → ℕ → Tail
tail_else Out c = Out
tail_else Open c = if is_digit c then Number (c - digit_zero) else Out
tail_else (Number n) c = if is_digit c then Number (n * 10 + (c - digit_zero)) else (if c == right_brace then Size n else Out)
tail_else (Size n) c = Out

abbrev pub tail_with : Tail → ℕ → Tail
tail_with tail c = if c == left_brace then Open else tail_else tail c

abbrev pub tail_of : List ℕ → Tail
tail_of line = fold tail_with Out line

-- ---- untagged units have literals, except the five kinds of status response, whose text may end with anything (RFC 9051 §7.1)

abbrev pub is_status : List ℕ → Bool
is_status word = list_any (λ w. str_eq_ignore_ascii_case word w) (codes "ok" ∷ codes "no" ∷ codes "bad" ∷ codes "bye" ∷ codes "preauth" ∷ [])

abbrev pub not_space : ℕ → Bool
not_space c = not (c == space)

-- whether a unit with this first line has literals: it begins with `* `, and its word is no status
abbrev pub has_literals : List ℕ → Bool
has_literals [] = false
has_literals (a ∷ []) = false
has_literals (a ∷ b ∷ text) = a == asterisk && b == space && not (is_status (take_while not_space text))
