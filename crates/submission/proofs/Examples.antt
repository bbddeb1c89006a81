-- Replies and lines of a submission, computed.
use Rattle.std.proofs.Common.{◌≡◌, [], ◌++◌, refl}
use Rattle.std.specs.Prelude.{codes}
use Rattle.submission.specs.declared.replies.Verdict.TheVariants.{Awaited, Whole, Wrong}
use Rattle.submission.specs.Replies.{last, more, no_reply, line_of, hear, read, dialled, next_reply}
use Rattle.submission.specs.Script.{dotted, line_end}

whole_line : line_of (codes "250 ok") ≡ last 250
unfolding line_of
whole_line = refl

bare_code : line_of (codes "250") ≡ last 250
unfolding line_of
bare_code = refl

line_before : line_of (codes "250-size 1") ≡ more
unfolding line_of
line_before = refl

no_separator : line_of (codes "250ok") ≡ no_reply
unfolding line_of
no_separator = refl

two_digits : line_of (codes "25 ok") ≡ no_reply
unfolding line_of
two_digits = refl

-- a reply of two lines, and bytes after it
two_lines : hear dialled (codes "250-a" ++ line_end ++ codes "250 b" ++ line_end ++ codes "3") ≡ record { reading = record { line = codes "250 b"; size = 14; at = 0; verdict = Whole 250 }; rest = codes "3" }
unfolding read line_of
two_lines = refl

-- the next reply begins with the bytes that have come
next_begins : next_reply (hear dialled (codes "250 b" ++ line_end ++ codes "354")) ≡ record { reading = record { line = codes "354"; size = 3; at = 7; verdict = Awaited }; rest = [] }
unfolding read line_of
next_begins = refl

damaged : (hear dialled (codes "hello" ++ line_end)).reading.verdict ≡ Wrong
unfolding read line_of
damaged = refl

-- dots that begin lines are doubled, and no others
doubled : dotted (codes ".x" ++ line_end ++ codes "a.b" ++ line_end ++ codes "." ++ line_end) ≡ codes "..x" ++ line_end ++ codes "a.b" ++ line_end ++ codes ".." ++ line_end
unfolding dotted
doubled = refl
