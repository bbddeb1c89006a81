-- Where a page is shown, and where its links to parts lead.
use Rattle.std.specs.Prelude.{ℕ, Bool, true, false, List, [], ◌++◌, codes}
use Rattle.account_pictures.specs.declared.records.Address.{Address}
use Rattle.wash_attributes.specs.declared.place.Place.{Place}
use Rattle.page_frames.specs.Paths.{folder_query, message_path}
use Rattle.mail_pages.specs.declared.frame.Frame.{Frame}
use Rattle.mail_pages.specs.declared.frame.Frame.TheVariants.{Plain, Session}

abbrev pub in_session : Frame → Bool
in_session Plain = false
in_session (Session at key) = true

-- the message's address; a message that is shown by itself has zeros and no folder
abbrev pub address_in : Frame → Address
address_in Plain = record { folder = []; validity = 0; uid = 0 }
address_in (Session at key) = at

abbrev pub path_prefix : ℕ → ℕ → List ℕ
path_prefix validity uid = codes "/part/" ++ message_path validity uid ++ codes "/"

-- where the site has the parts of a message: the address of a part is this prefix, its section, and this suffix
unfoldable pub place_at : Address → Place
place_at at = record { prefix = path_prefix at.validity at.uid; suffix = folder_query at.folder }

abbrev pub site_place : Frame → Place
site_place frame = place_at (address_in frame)
