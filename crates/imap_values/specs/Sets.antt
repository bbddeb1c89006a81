-- Sets of UIDs (RFC 9051 §9, uid-set). A server sends no `*`, and none is read.
use Rattle.std.specs.Prelude.{ℕ, zero, suc, min, max, Bool, true, false, ◌==◌, if◌then◌else◌, List, [], ◌∷◌, length, Option, Some, None}
use Rattle.imap_commands.specs.Bytes.{comma, colon}
use Rattle.imap_commands.specs.declared.uid_set.UidRange.{UidRange}
use Rattle.imap_commands.specs.UidSets.{contains_uid}
use Rattle.imap_values.specs.Words.{◌>>=◌, positive_at}

abbrev pub range_between : ℕ → ℕ → UidRange
range_between one other = record { first = min one other; last = max one other }

abbrev pub range_from_at : ℕ → List ℕ → Option (UidRange × List ℕ)
range_from_at one [] = Some (range_between one one, [])
range_from_at one (c ∷ rest) = if c == colon then (positive_at 4294967295 rest >>= (λ other. Some (range_between one other.0, other.1))) else Some (range_between one one, c ∷ rest)

-- a UID, or two with a colon between them, in either order
unfoldable pub range_at : List ℕ → Option (UidRange × List ℕ)
range_at bytes = positive_at 4294967295 bytes >>= λ one. range_from_at one.0 one.1

abbrev pub comma_at : List ℕ → Bool × List ℕ
comma_at [] = (false, [])
comma_at (c ∷ rest) = if c == comma then (true, rest) else (false, c ∷ rest)

abbrev pub prepend_range : UidRange → Option (List UidRange × List ℕ) → Option (List UidRange × List ℕ)
prepend_range r None = None
prepend_range r (Some x) = Some (r ∷ x.0, x.1)

abbrev pub continue_ranges : UidRange → Bool → List ℕ → Option (List UidRange × List ℕ) → Option (List UidRange × List ℕ)
continue_ranges r true rest more = prepend_range r more
continue_ranges r false rest more = Some (r ∷ [], rest)

-- at most n ranges with a comma between each two
unfoldable pub ranges_at : ℕ → List ℕ → Option (List UidRange × List ℕ)
ranges_at zero bytes = None
ranges_at (suc n) bytes = range_at bytes >>= λ r. let c = comma_at r.1 in continue_ranges r.0 c.0 c.1 (ranges_at n c.1)

-- a set as its membership test: a set has many spellings
abbrev pub membership : List UidRange → ℕ → Bool
membership ranges = λ uid. contains_uid uid ranges

abbrev pub membership_or_none : Option (List UidRange) → Option (ℕ → Bool)
membership_or_none None = None
membership_or_none (Some set) = Some (membership set)

unfoldable pub uid_set_at : List ℕ → Option ((ℕ → Bool) × List ℕ)
uid_set_at bytes = ranges_at (length bytes) bytes >>= λ r. Some (membership r.0, r.1)
