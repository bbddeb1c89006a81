-- Sets of UIDs as lists of ranges (RFC 9051 §9, `uid-set`).
use Rattle.std.specs.Prelude.{ℕ, ◌+◌, ◌≤◌, max, Bool, ◌&&◌, nat_le, if◌then◌else◌, List, [], ◌∷◌}
use Rattle.std.specs.List.{list_any, AllByRecursion}
use Rattle.imap_commands.specs.declared.uid_set.UidRange.{UidRange}

-- whether a UID is in a range
abbrev pub in_range : ℕ → UidRange → Bool
in_range uid range = nat_le range.first uid && nat_le uid range.last

-- whether a UID is in any of some ranges
abbrev pub contains_uid : ℕ → List UidRange → Bool
contains_uid uid ranges = list_any (in_range uid) ranges

-- the ranges begin at `least` or later, none is empty, and at least one UID is missing between each two
abbrev pub AscendFrom : ℕ → List UidRange → Type 0
AscendFrom least [] = Unit
AscendFrom least (range ∷ more) = (least ≤ range.first) × (range.first ≤ range.last) × AscendFrom (range.last + 2) more

-- ascending ranges that neither touch nor overlap
abbrev pub AreApart : List UidRange → Type 0
AreApart = AscendFrom 0

-- no range begins after `latest`
abbrev pub BeginBy : ℕ → List UidRange → Type 0
BeginBy latest ranges = AllByRecursion (λ range. range.first ≤ latest) ranges

-- two ranges in ascending order, joined into one if they touch or overlap
abbrev pub joined : UidRange → UidRange → List UidRange
joined before after =
    if nat_le after.first (before.last + 1) then record { first = before.first; last = max before.last after.last } ∷ [] else before ∷ after ∷ []
