-- The order of messages by the date of sending (RFC 5256, REFERENCES, steps 4 and 6).
use Rattle.std.specs.Prelude.{ℕ, ℤ, suc, List, [], ◌∷◌, map, get_or, if◌then◌else◌}
use Rattle.std.specs.Ordering.{is_lt, int_cmp, nat_cmp, ordering_then}
use Rattle.std.specs.declared.cmp.Ordering.{Ordering}
use Rattle.thread_places.specs.declared.facts.Facts.{Facts}

-- when a message was sent, and its place among the messages by UID
abbrev pub Dated : Type 0
Dated = ℤ × ℕ

abbrev pub compare_dates : Dated → Dated → Ordering
compare_dates a b = ordering_then (int_cmp a.0 b.0) (nat_cmp a.1 b.1)

unfoldable pub insert_by_date : Dated → List Dated → List Dated
insert_by_date a [] = a ∷ []
insert_by_date a (b ∷ more) = if is_lt (compare_dates b a) then b ∷ insert_by_date a more else a ∷ b ∷ more

unfoldable pub by_date : List Dated → List Dated
by_date [] = []
by_date (a ∷ more) = insert_by_date a (by_date more)

unfoldable pub dates_from : ℕ → List Facts → List Dated
dates_from place [] = []
dates_from place (facts ∷ more) = (facts.sent, place) ∷ dates_from (suc place) more

-- the places by UID of the messages, in order of date; ties go by UID
unfoldable pub date_order : List Facts → List ℕ
date_order facts = map (λ d. d.1) (by_date (dates_from 0 facts))

-- what the messages have, in that order
abbrev pub in_order : {X : Type 0} → X → List X → List ℕ → List X
in_order none values order = map (λ place. get_or values place none) order
