-- What the talk with a post server says of a message: its dot was said, or it wasn't.
use Rattle.std.specs.Prelude.{◌≡◌, ℕ, Bool, true, false, List, Result, Ok, Err, ⊤}
use Rattle.std.specs.List.{list_any}
use Rattle.std.specs.Str.{bytes_eq}
use Rattle.account_pictures.specs.declared.talk.Piece.{Piece}
use Rattle.account_pictures.specs.declared.talk.Piece.TheVariants.{Said}
use Rattle.submission.specs.declared.fault.SubmitFault.{SubmitFault}
use Rattle.submission.specs.declared.fault.SubmitFault.TheVariants as posts
use Rattle.submission.specs.Script.{dot_line, dotted, script}
use Rattle.submission.specs.Submits.{SubmitsOrNothing}

-- a line was said in a piece of its own
abbrev pub is_said : List ℕ → Piece → Bool
is_said line (Said bytes) = bytes_eq bytes line
is_said line other = false

-- the dot that ends a message was said
abbrev pub says_dot : List Piece → Bool
says_dot pieces = list_any (is_said dot_line) pieces

-- how a submission ends whose dot was said: its message was taken, or may have been, or was refused
abbrev pub EndsAfterDot : Result (Unit {0}) SubmitFault → Type 0
EndsAfterDot (Ok done) = ⊤
EndsAfterDot (Err (posts.Refused code text)) = ⊤
EndsAfterDot (Err posts.Doubt) = ⊤
EndsAfterDot (Err other) = ⊥

abbrev pub DotsEndSubmissions : Type 0
DotsEndSubmissions = (user password from : List ℕ) (to : List (List ℕ)) (message : List ℕ) (pieces : List Piece) (result : Result (Unit {0}) SubmitFault)
    → SubmitsOrNothing (script user password from to) (dotted message) pieces result → says_dot pieces ≡ true → EndsAfterDot result
