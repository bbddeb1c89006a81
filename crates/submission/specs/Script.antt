-- What is said to a submission server, and which replies go on (RFC 5321, RFC 4954).
use Rattle.std.specs.Prelude.{ℕ, Bool, ◌==◌, ◌||◌, List, [], ◌∷◌, ◌++◌, map, codes, if◌then◌else◌}
use Rattle.std.specs.List.{slice_split, join_with_byte}
use Rattle.base64.specs.Engines.{standard}
use Rattle.base64.specs.GeneralPurpose.{encode_of}
use Rattle.submission.specs.declared.steps.Opening.TheVariants.{Dial, Say}
use Rattle.submission.specs.declared.steps.Step.{Step}
use Rattle.submission.specs.declared.steps.Wanted.{Wanted}
use Rattle.submission.specs.declared.steps.Wanted.TheVariants.{Greeting, Done, SignedIn, Recipient, Data}

abbrev pub line_end : List ℕ
line_end = 13 ∷ 10 ∷ []

-- the codes with which a step goes on
abbrev pub is_wanted : Wanted → ℕ → Bool
is_wanted Greeting code = code == 220
is_wanted Done code = code == 250
is_wanted SignedIn code = code == 235
is_wanted Recipient code = code == 250 || code == 251
is_wanted Data code = code == 354

-- the words of AUTH PLAIN before they are encoded
abbrev pub credentials : List ℕ → List ℕ → List ℕ
credentials user password = 0 ∷ user ++ 0 ∷ password

abbrev pub hello_line : List ℕ
hello_line = codes "EHLO webmail" ++ line_end

abbrev pub auth_line : List ℕ → List ℕ → List ℕ
auth_line user password = codes "AUTH PLAIN " ++ encode_of standard (credentials user password) ++ line_end

abbrev pub sender_line : List ℕ → List ℕ
sender_line address = codes "MAIL FROM:<" ++ address ++ codes ">" ++ line_end

abbrev pub recipient_line : List ℕ → List ℕ
recipient_line address = codes "RCPT TO:<" ++ address ++ codes ">" ++ line_end

abbrev pub data_line : List ℕ
data_line = codes "DATA" ++ line_end

abbrev pub quit_line : List ℕ
quit_line = codes "QUIT" ++ line_end

abbrev pub dot_line : List ℕ
dot_line = codes "." ++ line_end

abbrev pub say : List ℕ → Wanted → Step
say line wanted = record { opening = Say line; wanted = wanted }

abbrev pub recipient_step : List ℕ → Step
recipient_step address = say (recipient_line address) Recipient

-- the steps up to the message
abbrev pub script : List ℕ → List ℕ → List ℕ → List (List ℕ) → List Step
script user password from to =
    record { opening = Dial; wanted = Greeting } ∷ say hello_line Done ∷ say (auth_line user password) SignedIn ∷ say (sender_line from) Done
    ∷ map recipient_step to ++ say data_line Data ∷ []

-- ---- the message

-- a line whose leading `.` is doubled
abbrev pub stuffed : List ℕ → List ℕ
stuffed [] = []
stuffed (b ∷ line) = if b == 46 then 46 ∷ b ∷ line else b ∷ line

abbrev pub lines_of : List ℕ → List (List ℕ)
lines_of message = slice_split (λ b. b == 10) message

-- the message with each line's leading `.` doubled
unfoldable pub dotted : List ℕ → List ℕ
dotted message = join_with_byte 10 (map stuffed (lines_of message))
