-- What a roster shows.
use Rattle.std.specs.Prelude.{map}
use Rattle.std.specs.Option.{option_map}
use Rattle.account_pictures.specs.declared.pictures.PlacePicture.{PlacePicture}
use Rattle.account_pictures.specs.declared.pictures.SlotPicture.{SlotPicture}
use Rattle.account_pictures.specs.declared.pictures.RosterPicture.{RosterPicture}
use Rattle.site_sessions.specs.Sessions.{SessionValue, SlotValue, RosterValue}

abbrev pub place_of : SessionValue → PlacePicture
place_of s = record { account = s.account; user = s.user; token = s.token; key = s.key; last = s.last; turn = s.pass.turn; story = s.pass.story }

abbrev pub slot_picture : SlotValue → SlotPicture
slot_picture slot = record { turn = slot.pass.turn; story = slot.pass.story; user = slot.user }

-- the places and the slots, each pass by its turn and its story alone
abbrev pub picture_of : RosterValue → RosterPicture
picture_of r = record { places = map (option_map place_of) r.places; slots = map slot_picture r.slots }
