-- The numbers and lines of the definitions, each said once more.
use Rattle.std.proofs.Common.{◌≡◌, ◌*◌, ℕ, [], ◌∷◌, map, codes, refl}
use Rattle.webmail_runs.specs.Outcomes.{Outcome, done, wrong_words, read_fault, write_fault, out_of_memory, too_long, not_built, no_such_part, outcomes, status_text, line_among}
use Rattle.webmail_runs.specs.Run.{message_limit}

-- 25 MiB
limit : message_limit ≡ 25 * 1024 * 1024
limit = refl

status_of : Outcome → ℕ
status_of outcome = outcome.status

statuses : map status_of outcomes ≡ 0 ∷ 2 ∷ 3 ∷ 4 ∷ 5 ∷ 6 ∷ 7 ∷ 8 ∷ []
unfolding status_of
statuses = refl

named : map status_of (done ∷ wrong_words ∷ read_fault ∷ write_fault ∷ out_of_memory ∷ too_long ∷ not_built ∷ no_such_part ∷ []) ≡ 0 ∷ 2 ∷ 3 ∷ 4 ∷ 5 ∷ 6 ∷ 7 ∷ 8 ∷ []
unfolding status_of
named = refl

-- each line, and none at status 0 and at one that no run has
lines : map status_text (0 ∷ 1 ∷ 2 ∷ 3 ∷ 4 ∷ 5 ∷ 6 ∷ 7 ∷ 8 ∷ 9 ∷ [])
    ≡ [] ∷ [] ∷ codes "webmail: wrong words" ∷ codes "webmail: read fault" ∷ codes "webmail: write fault" ∷ codes "webmail: out of memory" ∷ codes "webmail: message too long"
    ∷ codes "webmail: not built" ∷ codes "webmail: no such part" ∷ [] ∷ []
unfolding status_text line_among
lines = refl
