-- What is received into an inbox.
use Rattle.std.specs.Prelude.{◌≡◌, ℕ, ◌≤◌, true, List, length, take, drop, Option}
use Rattle.std.specs.Global.{Vec}
use Rattle.std.specs.Vec.{vec_capacity}
use Rattle.account_pictures.specs.declared.talk.Piece.{Piece}
use Rattle.account_pictures.specs.declared.talk.Piece.TheVariants.{Heard}
use Rattle.mail_io.specs.Talks.{AppendsPiece}
use Rattle.submission.specs.Replies.{Hearing, Reading, hear, is_awaited, reply_limit}

-- there is room for a reply
pub record HasRoom (line : Vec ℕ) (size : ℕ) : Type 0 where
  pub capacity : reply_limit ≤ vec_capacity line
  pub short : length line.items ≤ size
  pub bound : size ≤ reply_limit

abbrev pub unread : List ℕ → ℕ → ℕ → List ℕ
unread room from to = drop from (take to room)

-- what was received is inside the room, and nothing of it is left while a reply is awaited
pub record IsRoomy (reading : Reading) (room : List ℕ) (from to : ℕ) : Type 0 where
  pub ordered : from ≤ to
  pub within : to ≤ length room
  pub bound : reading.size ≤ reply_limit
  pub read : is_awaited reading.verdict ≡ true → from ≡ to

-- a piece was heard
pub record HearsPiece (before after : Option (List Piece)) (old new : Hearing) : Type 0 where
  pub bytes : List ℕ
  pub says : AppendsPiece before after (Heard bytes)
  pub reads : new ≡ hear old bytes
