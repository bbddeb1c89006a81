-- The response to an extended search (RFC 4731 §3.1, RFC 9051 §7.3.4).
use Rattle.std.specs.Prelude.{ℕ, zero, suc, Bool, true, ◌&&◌, ◌==◌, if◌then◌else◌, List, [], ◌∷◌, length, drop, codes, Option, Some, None}
use Rattle.imap_commands.specs.Bytes.{space, right_parenthesis}
use Rattle.imap_values.specs.declared.words.Class.TheVariants as classes
use Rattle.imap_values.specs.Words.{◌>>=◌, eq_ignore_case, starts_with_ignore_case, take_while1_at, byte_at, end_at}
use Rattle.imap_values.specs.Strings.{begins_string, string_at}
use Rattle.imap_values.specs.Values.{value_end_at}
use Rattle.imap_values.specs.Sets.{uid_set_at}

-- the rest after a text, whatever the case of its letters
abbrev pub skip_prefix_at : List ℕ → List ℕ → Option (List ℕ)
skip_prefix_at text bytes = if starts_with_ignore_case text bytes then Some (drop (length text) bytes) else None

-- the tag of a command: a string, or the bytes of a tag
unfoldable pub tag_at : List ℕ → Option (List ℕ × List ℕ)
tag_at bytes = if begins_string bytes then string_at bytes else take_while1_at classes.Tag bytes

-- the search correlator, (TAG "t")
unfoldable pub correlator_at : List ℕ → Option (List ℕ × List ℕ)
correlator_at bytes = do
  inner ← skip_prefix_at (codes " (tag ") bytes
  tag ← tag_at inner
  rest ← byte_at right_parenthesis tag.1
  Some (tag.0, rest)

-- a word ends here
abbrev pub is_word_end : List ℕ → Bool
is_word_end [] = true
is_word_end (c ∷ bytes) = c == space

-- the rest after UID, which may be missing
unfoldable pub skip_uid : List ℕ → List ℕ
skip_uid bytes = if starts_with_ignore_case (codes " uid") bytes && is_word_end (drop 4 bytes) then drop 4 bytes else bytes

-- a pair: its name, the bytes from its value on, and the rest
unfoldable pub pair_at : List ℕ → Option (List ℕ × List ℕ × List ℕ)
pair_at bytes = do
  pair ← byte_at space bytes
  name ← take_while1_at classes.Atom pair
  value ← byte_at space name.1
  rest ← value_end_at value
  Some (name.0, value, rest)

abbrev pub all_value_or : Option (List ℕ) → List ℕ → List ℕ → Option (List ℕ)
all_value_or found name value = if eq_ignore_case (codes "all") name then Some value else found

-- at most n pairs up to the end: the bytes from the value of the last ALL on
unfoldable pub last_all_at : ℕ → Option (List ℕ) → List ℕ → Option (Option (List ℕ))
last_all_at zero found bytes = end_at bytes >>= λ u. Some found
last_all_at (suc n) found bytes = if length bytes == 0 then Some found else (pair_at bytes >>= (λ p. last_all_at n (all_value_or found p.0 p.1) p.2))

-- the set of ALL, if there is one
unfoldable pub all_set_of : Option (List ℕ) → Option (Option (ℕ → Bool))
all_set_of None = Some None
all_set_of (Some value) = uid_set_at value >>= λ set. if is_word_end set.1 then Some (Some set.0) else None

-- the tag, and the set of ALL
unfoldable pub search_of : List ℕ → Option (List ℕ × Option (ℕ → Bool))
search_of rest = do
  tag ← correlator_at rest
  let pairs = skip_uid tag.1
  all ← last_all_at (length pairs) None pairs
  set ← all_set_of all
  Some (tag.0, set)
