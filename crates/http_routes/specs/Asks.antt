-- The ask of each route. Its fields are read in the order of the route's row, and the first faulty one is the fault.
use Rattle.std.specs.Prelude.{◌==◌, ℕ, Bool, true, false, ◌&&◌, List, [], codes, Option, Some, None, option_map, Result, Ok, Err, if◌then◌else◌}
use Rattle.std.specs.List.{after_first, before_first}
use Rattle.std.specs.Str.{bytes_eq}
use Rattle.account_pictures.specs.declared.records.Address.{Address}
use Rattle.site_asks.specs.declared.Draft.{Draft}
use Rattle.site_asks.specs.declared.asks.Ask.{Ask}
use Rattle.site_asks.specs.declared.asks.Ask.TheVariants as ask
use Rattle.site_asks.specs.declared.asks.Flag.{Flag}
use Rattle.site_asks.specs.declared.asks.How.{How}
use Rattle.http_routes.specs.declared.RouteFault.{RouteFault}
use Rattle.http_routes.specs.declared.RouteFault.TheVariants.{NoRoute, Field}
use Rattle.http_routes.specs.declared.table.Route.{Route}
use Rattle.http_routes.specs.declared.table.Route.TheVariants as route
use Rattle.http_routes.specs.Outcomes.{◌>>=◌, or_wrong}
use Rattle.http_routes.specs.Routes.{Row, row_of, words_of}
use Rattle.http_routes.specs.Fields.{Look, Occurs, look_in, request_fields}
use Rattle.http_routes.specs.Fields.Occurs.{never, once, twice}
use Rattle.http_routes.specs.Values as value

-- ---- one field

-- a field that occurs once, and that `read` reads
abbrev pub needed : {X : Type 0} → List ℕ → (List ℕ → Option X) → Occurs → Result X RouteFault
needed name read never = Err (Field name)
needed name read (once text) = or_wrong name (read text)
needed name read twice = Err (Field name)

-- a field that may be missing
abbrev pub optional : {X : Type 0} → List ℕ → (List ℕ → Option X) → X → Occurs → Result X RouteFault
optional name read missing never = Ok missing
optional name read missing (once text) = or_wrong name (read text)
optional name read missing twice = Err (Field name)

abbrev pub text_field : List ℕ → Look → Result (List ℕ) RouteFault
text_field name look = needed name (λ text. Some text) (look name)

abbrev pub number_field : List ℕ → Look → Result ℕ RouteFault
number_field name look = needed name value.small_number (look name)

abbrev pub page_field : Look → Result ℕ RouteFault
page_field look = optional (codes "p") value.page_number 1 (look (codes "p"))

abbrev pub section_field : Look → Result (List ℕ) RouteFault
section_field look = needed (codes "s") value.section_of (look (codes "s"))

abbrev pub some_section : List ℕ → Option (Option (List ℕ))
some_section text = option_map (λ section. Some section) (value.section_of text)

abbrev pub part_field : Look → Result (Option (List ℕ)) RouteFault
part_field look = optional (codes "part") some_section None (look (codes "part"))

abbrev pub images_field : Look → Result Bool RouteFault
images_field look = optional (codes "images") value.yes false (look (codes "images"))

abbrev pub refs_field : Look → Result (List ℕ) RouteFault
refs_field look = optional (codes "refs") (λ text. Some text) [] (look (codes "refs"))

abbrev pub flag_field : Look → Result Flag RouteFault
flag_field look = needed (codes "flag") value.flag_of (look (codes "flag"))

abbrev pub on_field : Look → Result Bool RouteFault
on_field look = needed (codes "on") value.yes_or_no (look (codes "on"))

abbrev pub how_field : Look → Result How RouteFault
how_field look = needed (codes "how") value.how_of (look (codes "how"))

abbrev pub form_field : Look → Result ℕ RouteFault
form_field look = needed (codes "form") value.form_number (look (codes "form"))

abbrev pub identity_field : Look → Result ℕ RouteFault
identity_field look = needed (codes "identity") value.identity_number (look (codes "identity"))

abbrev pub kept_field : Look → Result ℕ RouteFault
kept_field look = needed (codes "number") value.kept_number (look (codes "number"))

abbrev pub user_field : Look → Result (List ℕ) RouteFault
user_field look = needed (codes "user") value.user_name (look (codes "user"))

abbrev pub password_field : Look → Result (List ℕ) RouteFault
password_field look = needed (codes "password") value.without_nul (look (codes "password"))

abbrev pub is_missing : Occurs → Bool
is_missing never = true
is_missing (once text) = false
is_missing twice = false

-- ---- several fields

-- a message that a form names
unfoldable pub address_fields : Look → Result Address RouteFault
address_fields look = do
  folder ← text_field (codes "f") look
  validity ← number_field (codes "v") look
  uid ← number_field (codes "u") look
  Ok (record { folder = folder; validity = validity; uid = uid })

-- a message that a path names, and its folder
unfoldable pub path_address : Look → Result Address RouteFault
path_address look = do
  validity ← number_field (codes "v") look
  uid ← number_field (codes "u") look
  folder ← text_field (codes "f") look
  Ok (record { folder = folder; validity = validity; uid = uid })

-- none of the fields of a saved draft occurs
abbrev pub is_first : Look → Bool
is_first look = is_missing (look (codes "f")) && is_missing (look (codes "v")) && is_missing (look (codes "u"))

-- none of the fields of a draft's message occurs
abbrev pub is_new : Look → Bool
is_new look = is_missing (look (codes "f")) && is_missing (look (codes "v")) && is_missing (look (codes "u")) && is_missing (look (codes "how"))

-- the saved draft that a draft replaces: all of its fields occur, or none
unfoldable pub old_draft : Look → Result (Option Address) RouteFault
old_draft look =
    if is_first look then Ok None else (do
      at ← address_fields look
      Ok (Some at))

unfoldable pub draft : Look → Result Draft RouteFault
draft look = do
  form ← form_field look
  identity ← identity_field look
  to ← text_field (codes "to") look
  cc ← text_field (codes "cc") look
  subject ← text_field (codes "subject") look
  text ← text_field (codes "text") look
  refs ← refs_field look
  old ← old_draft look
  Ok (record { form = form; identity = identity; to = to; cc = cc; subject = subject; text = text; refs = refs; old = old })

-- ---- the routes of GET

unfoldable pub list_ask : Look → Result Ask RouteFault
list_ask look = do
  folder ← text_field (codes "f") look
  page ← page_field look
  Ok (ask.List folder page)

unfoldable pub threads_ask : Look → Result Ask RouteFault
threads_ask look = do
  folder ← text_field (codes "f") look
  page ← page_field look
  Ok (ask.Threads folder page)

unfoldable pub search_ask : Look → Result Ask RouteFault
search_ask look = do
  folder ← text_field (codes "f") look
  page ← page_field look
  words ← text_field (codes "q") look
  Ok (ask.Search folder words page)

unfoldable pub show_ask : Look → Result Ask RouteFault
show_ask look = do
  at ← path_address look
  images ← images_field look
  part ← part_field look
  Ok (ask.Show at part images)

-- the section is a word of the path, so it is read before the folder
unfoldable pub part_ask : Look → Result Ask RouteFault
part_ask look = do
  validity ← number_field (codes "v") look
  uid ← number_field (codes "u") look
  section ← section_field look
  folder ← text_field (codes "f") look
  Ok (ask.Part (record { folder = folder; validity = validity; uid = uid }) section)

-- a new draft, or one that is made from a message: all of that one's fields occur, or none
unfoldable pub compose_ask : ℕ → Look → Result Ask RouteFault
compose_ask form look =
    if is_new look then Ok (ask.Compose form None) else (do
      at ← address_fields look
      how ← how_field look
      Ok (ask.Compose form (Some (at, how))))

-- ---- the routes of POST

unfoldable pub login_ask : Look → Result Ask RouteFault
login_ask look = do
  user ← user_field look
  password ← password_field look
  Ok (ask.Login user password)

unfoldable pub logout_ask : Look → Result Ask RouteFault
logout_ask look = do
  key ← text_field (codes "key") look
  Ok (ask.Logout key)

unfoldable pub flag_ask : Look → Result Ask RouteFault
flag_ask look = do
  key ← text_field (codes "key") look
  at ← address_fields look
  flag ← flag_field look
  on ← on_field look
  Ok (ask.Flag key at flag on)

unfoldable pub move_ask : Look → Result Ask RouteFault
move_ask look = do
  key ← text_field (codes "key") look
  at ← address_fields look
  to ← text_field (codes "to") look
  Ok (ask.Move key at to)

unfoldable pub delete_ask : Look → Result Ask RouteFault
delete_ask look = do
  key ← text_field (codes "key") look
  at ← address_fields look
  Ok (ask.Delete key at)

unfoldable pub save_ask : Look → Result Ask RouteFault
save_ask look = do
  key ← text_field (codes "key") look
  fields ← draft look
  Ok (ask.SaveDraft key fields)

unfoldable pub send_ask : Look → Result Ask RouteFault
send_ask look = do
  key ← text_field (codes "key") look
  fields ← draft look
  Ok (ask.SendDraft key fields)

unfoldable pub identity_ask : Look → Result Ask RouteFault
identity_ask look = do
  key ← text_field (codes "key") look
  number ← kept_field look
  name ← text_field (codes "name") look
  address ← text_field (codes "address") look
  Ok (ask.SetIdentity key number (record { name = name; address = address }))

-- ---- all routes

-- the ask of a route; `form` is the number of a new draft's form
abbrev pub route_ask : Route → ℕ → Look → Result Ask RouteFault
route_ask route.Folders form look = Ok ask.Folders
route_ask route.List form look = list_ask look
route_ask route.Threads form look = threads_ask look
route_ask route.Search form look = search_ask look
route_ask route.Show form look = show_ask look
route_ask route.Part form look = part_ask look
route_ask route.Compose form look = compose_ask form look
route_ask route.Identities form look = Ok ask.Identities
route_ask route.LoginPage form look = Ok ask.LoginPage
route_ask route.Sheet form look = Ok ask.Sheet
route_ask route.Login form look = login_ask look
route_ask route.Logout form look = logout_ask look
route_ask route.Flag form look = flag_ask look
route_ask route.Move form look = move_ask look
route_ask route.Delete form look = delete_ask look
route_ask route.SaveDraft form look = save_ask look
route_ask route.SendDraft form look = send_ask look
route_ask route.SetIdentity form look = identity_ask look

-- the ask of a route that the request's row has
abbrev pub row_ask : List (List ℕ) → List ℕ → ℕ → Option Row → Result Ask RouteFault
row_ask words form_text form None = Err NoRoute
row_ask words form_text form (Some row) = route_ask row.route form (look_in (request_fields row words form_text))

-- ---- the request

-- the two sides of the first `?` of a target
abbrev pub path_of : List ℕ → List ℕ
path_of target = before_first (λ b. b == 63) target

abbrev pub query_of : List ℕ → List ℕ
query_of target = after_first (λ b. b == 63) target

-- the form of a request is its body for POST, else its query
abbrev pub form_of : List ℕ → List ℕ → List ℕ → List ℕ
form_of method target body = if bytes_eq method (codes "POST") then body else query_of target

-- the ask of a request
abbrev pub ask_of : List ℕ → List ℕ → List ℕ → ℕ → Result Ask RouteFault
ask_of method target body form = row_ask (words_of (path_of target)) (form_of method target body) form (row_of method (words_of (path_of target)))
