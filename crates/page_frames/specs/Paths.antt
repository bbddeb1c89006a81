-- The paths of the site, and the addresses that its pages link to. A folder is written as a field of a form (URL Standard, 5.2).
use Rattle.std.specs.Prelude.{ℕ, List, ◌++◌, codes, decimal}
use Rattle.form_urlencoded.specs.Form.{byte_serialize}
use Rattle.mail_values.specs.Section.{spelling}
use Rattle.account_pictures.specs.declared.records.Address.{Address}

-- ---- pages without a folder, and what forms are sent to

abbrev pub folders_path : List ℕ
folders_path = codes "/"

abbrev pub compose_path : List ℕ
compose_path = codes "/compose"

abbrev pub identities_path : List ℕ
identities_path = codes "/identities"

abbrev pub login_path : List ℕ
login_path = codes "/login"

abbrev pub flag_path : List ℕ
flag_path = codes "/flag"

abbrev pub delete_path : List ℕ
delete_path = codes "/delete"

abbrev pub move_path : List ℕ
move_path = codes "/move"

abbrev pub send_path : List ℕ
send_path = codes "/send"

abbrev pub draft_path : List ℕ
draft_path = codes "/draft"

-- ---- folders and messages

-- the query that names a folder
unfoldable pub folder_query : List ℕ → List ℕ
folder_query folder = codes "?f=" ++ byte_serialize folder

-- a message of a folder, by the folder's UIDVALIDITY and its UID there
unfoldable pub message_path : ℕ → ℕ → List ℕ
message_path validity uid = decimal validity ++ codes "/" ++ decimal uid

-- the list of a folder
unfoldable pub list_address : List ℕ → List ℕ
list_address folder = codes "/list" ++ folder_query folder

-- a message
unfoldable pub show_address : Address → List ℕ
show_address at = codes "/show/" ++ message_path at.validity at.uid ++ folder_query at.folder

-- a message with the part of a section shown
unfoldable pub shown_part_address : Address → List ℕ → List ℕ
shown_part_address at section = show_address at ++ codes "&part=" ++ spelling section

-- the bytes of a part
unfoldable pub part_address : Address → List ℕ → List ℕ
part_address at section = codes "/part/" ++ message_path at.validity at.uid ++ codes "/" ++ spelling section ++ folder_query at.folder

-- the same page of a message, with remote images
unfoldable pub images_address : List ℕ → List ℕ
images_address address = address ++ codes "&images=1"
