-- How a run of the program ends. This is the one list of the program's statuses and lines.
use Rattle.std.specs.Prelude.{ℕ, ◌==◌, if◌then◌else◌, List, [], ◌∷◌, codes}

-- the exit status of the process, and the line that it writes to standard error
pub record Outcome : Type 0 where
  pub status : ℕ
  pub line : List ℕ

-- the whole page was written; there is no line
abbrev pub done : Outcome
done = record { status = 0; line = [] }

-- the words of the command line have no form that the program knows
abbrev pub wrong_words : Outcome
wrong_words = record { status = 2; line = codes "webmail: wrong words" }

-- the source of the message failed
abbrev pub read_fault : Outcome
read_fault = record { status = 3; line = codes "webmail: read fault" }

-- the sink of the page failed; a prefix of the page was written
abbrev pub write_fault : Outcome
write_fault = record { status = 4; line = codes "webmail: write fault" }

-- memory was refused
abbrev pub out_of_memory : Outcome
out_of_memory = record { status = 5; line = codes "webmail: out of memory" }

-- the message is longer than the limit
abbrev pub too_long : Outcome
too_long = record { status = 6; line = codes "webmail: message too long" }

-- what was requested isn't built; no run ends so
abbrev pub not_built : Outcome
not_built = record { status = 7; line = codes "webmail: not built" }

-- the message has no text of that section
abbrev pub no_such_part : Outcome
no_such_part = record { status = 8; line = codes "webmail: no such part" }

abbrev pub outcomes : List Outcome
outcomes = done ∷ wrong_words ∷ read_fault ∷ write_fault ∷ out_of_memory ∷ too_long ∷ not_built ∷ no_such_part ∷ []

-- the line of the outcome with the status, or none
unfoldable pub line_among : List Outcome → ℕ → List ℕ
line_among [] status = []
line_among (outcome ∷ more) status = if outcome.status == status then outcome.line else line_among more status

unfoldable pub status_text : ℕ → List ℕ
status_text status = line_among outcomes status
