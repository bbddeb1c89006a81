-- Worked examples of headers.
use Rattle.std.proofs.Common.{◌≡◌, ℕ, List, [], ◌∷◌, ◌++◌, Some, refl, codes}
use Rattle.header_words.specs.Fields.{FieldValue, header_of, first_of}
use Rattle.header_words.specs.Value.{trimmed, unfolded}

abbrev crlf : List ℕ
crlf = 13 ∷ 10 ∷ []

abbrev field : List ℕ → List (List ℕ) → FieldValue
field name lines = record { name = name; lines = lines }

-- a field, its continuations on both sides of a line that is none, and the body after the empty line
folded : header_of (codes "Subject: a" ++ crlf ++ codes " b" ++ crlf ++ codes "no field" ++ crlf ++ 9 ∷ codes "c" ++ crlf ++ codes "To:d" ++ crlf ++ crlf ++ codes "body")
    ≡ record { fields = field (codes "Subject") (codes " a" ∷ codes " b" ∷ (9 ∷ codes "c") ∷ []) ∷ field (codes "To") (codes "d" ∷ []) ∷ []; body = 38 }
unfolding header_of
folded = refl

-- a line with a space in its name, and one without a name, are no fields; a last line needs no ending
no_fields : header_of (codes "a b: c" ++ 10 ∷ codes ": d" ++ 10 ∷ codes "E: f") ≡ record { fields = field (codes "E") (codes " f" ∷ []) ∷ []; body = 15 }
unfolding header_of
no_fields = refl

-- a message that begins with its body, and one of nothing
no_header : header_of (10 ∷ codes "A: b") ≡ record { fields = []; body = 1 }
unfolding header_of
no_header = refl

nothing : header_of [] ≡ record { fields = []; body = 0 }
unfolding header_of
nothing = refl

-- the first field of a name, whatever the case of its letters
first_named : first_of (codes "to") (field (codes "Cc") (codes "x" ∷ []) ∷ field (codes "TO") (codes "y" ∷ []) ∷ field (codes "To") (codes "z" ∷ []) ∷ []) ≡ Some (field (codes "TO") (codes "y" ∷ []))
first_named = refl

-- folds are single spaces, and blanks at the ends go
one_space : trimmed (unfolded (codes "  a " ∷ (9 ∷ codes "  b") ∷ codes " " ∷ codes " c " ∷ [])) ≡ codes "a  b  c"
one_space = refl

-- a continuation without a field before it, and names with other bytes than 0x21 to 0x7E
first_continuation : header_of (codes " a" ++ 10 ∷ codes "B: c" ++ 10 ∷ []) ≡ record { fields = field (codes "B") (codes " c" ∷ []) ∷ []; body = 8 }
unfolding header_of
first_continuation = refl

other_names : header_of (codes "A" ++ 127 ∷ codes ": b" ++ 10 ∷ codes "C" ++ 200 ∷ codes ": d" ++ 10 ∷ codes "!~: e") ≡ record { fields = field (codes "!~") (codes " e" ∷ []) ∷ []; body = 17 }
unfolding header_of
other_names = refl

-- a line ends at LF alone; other CR stay
returns : header_of (codes "A: b" ++ 13 ∷ 13 ∷ 10 ∷ codes "C:" ++ 13 ∷ codes "d" ++ 10 ∷ 13 ∷ 10 ∷ codes "e") ≡ record { fields = field (codes "A") ((codes " b" ++ 13 ∷ []) ∷ []) ∷ field (codes "C") ((13 ∷ codes "d") ∷ []) ∷ []; body = 14 }
unfolding header_of
returns = refl

second_colon : header_of (codes "A: b:c") ≡ record { fields = field (codes "A") (codes " b:c" ∷ []) ∷ []; body = 6 }
unfolding header_of
second_colon = refl
