-- The story that a picture tells.
use Rattle.std.specs.Prelude.{List, []}
use Rattle.std.specs.Option.{unwrap_or}
use Rattle.account_pictures.specs.declared.talk.Piece.{Piece}
use Rattle.account_pictures.specs.declared.pictures.Picture.{Picture}
use Rattle.account_pictures.specs.declared.pictures.Picture.TheVariants.{Account, Roster}

-- an account's story is its mail talk, empty if that isn't told; a roster's is empty
abbrev pub story_of : Picture → List Piece
story_of (Account account) = unwrap_or account.mail_talk []
story_of (Roster roster) = []

-- the picture of nothing: a roster without places or slots
abbrev pub no_picture : Picture
no_picture = Roster (record { places = []; slots = [] })
