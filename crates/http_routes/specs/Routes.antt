-- The routes of the site: one row for each.
use Rattle.std.specs.Prelude.{ℕ, Bool, false, ◌&&◌, ◌==◌, nat_lt, List, [], ◌∷◌, length, map, find, codes, Option}
use Rattle.std.specs.Borrow.{Bor}
use Rattle.std.specs.List.{list_all, slice_split}
use Rattle.std.specs.Str.{bytes_eq}
use Rattle.http_routes.specs.declared.table.Route.{Route}
use Rattle.http_routes.specs.declared.table.Route.TheVariants as route
use Rattle.http_routes.specs.declared.table.Row as table

-- A row: the method, the first word of the path, the names of the path's other words, and the names of the fields. The fields are those of
-- the query for GET, and those of the body for POST.
pub record Row : Type 0 where
  pub method : List ℕ
  pub word : List ℕ
  pub parameters : List (List ℕ)
  pub fields : List (List ℕ)
  pub route : Route

abbrev pub get : List ℕ → List (List ℕ) → List (List ℕ) → Route → Row
get word parameters fields route = record { method = codes "GET"; word = word; parameters = parameters; fields = fields; route = route }

abbrev pub post : List ℕ → List (List ℕ) → Route → Row
post word fields route = record { method = codes "POST"; word = word; parameters = []; fields = fields; route = route }

abbrev pub draft_fields : List (List ℕ)
draft_fields = codes "key" ∷ codes "form" ∷ codes "identity" ∷ codes "to" ∷ codes "cc" ∷ codes "subject" ∷ codes "text" ∷ codes "refs" ∷ codes "f" ∷ codes "v" ∷ codes "u" ∷ []

unfoldable pub routes : List Row
routes =
    get (codes "") [] [] route.Folders
    ∷ get (codes "list") [] (codes "f" ∷ codes "p" ∷ []) route.List
    ∷ get (codes "threads") [] (codes "f" ∷ codes "p" ∷ []) route.Threads
    ∷ get (codes "search") [] (codes "f" ∷ codes "p" ∷ codes "q" ∷ []) route.Search
    ∷ get (codes "show") (codes "v" ∷ codes "u" ∷ []) (codes "f" ∷ codes "images" ∷ codes "part" ∷ []) route.Show
    ∷ get (codes "part") (codes "v" ∷ codes "u" ∷ codes "s" ∷ []) (codes "f" ∷ []) route.Part
    ∷ get (codes "compose") [] (codes "f" ∷ codes "v" ∷ codes "u" ∷ codes "how" ∷ []) route.Compose
    ∷ get (codes "identities") [] [] route.Identities
    ∷ get (codes "login") [] [] route.LoginPage
    ∷ get (codes "site.css") [] [] route.Sheet
    ∷ post (codes "login") (codes "user" ∷ codes "password" ∷ []) route.Login
    ∷ post (codes "logout") (codes "key" ∷ []) route.Logout
    ∷ post (codes "flag") (codes "key" ∷ codes "f" ∷ codes "v" ∷ codes "u" ∷ codes "flag" ∷ codes "on" ∷ []) route.Flag
    ∷ post (codes "move") (codes "key" ∷ codes "f" ∷ codes "v" ∷ codes "u" ∷ codes "to" ∷ []) route.Move
    ∷ post (codes "delete") (codes "key" ∷ codes "f" ∷ codes "v" ∷ codes "u" ∷ []) route.Delete
    ∷ post (codes "draft") draft_fields route.SaveDraft
    ∷ post (codes "send") draft_fields route.SendDraft
    ∷ post (codes "identities") (codes "key" ∷ codes "number" ∷ codes "name" ∷ codes "address" ∷ []) route.SetIdentity
    ∷ []

-- the words between the slashes of a path; the first of them is before the first slash
abbrev pub words_of : List ℕ → List (List ℕ)
words_of path = slice_split (λ b. b == 47) path

abbrev pub is_nonempty : List ℕ → Bool
is_nonempty word = nat_lt 0 (length word)

-- a request has the row's method, and a path of the row's word and a word for each parameter
abbrev pub fits : List ℕ → List (List ℕ) → Row → Bool
fits method ([] ∷ word ∷ parameters) row =
    bytes_eq row.method method && bytes_eq row.word word && length parameters == length row.parameters && list_all is_nonempty parameters
fits method words row = false

-- the row of a request
abbrev pub row_of : List ℕ → List (List ℕ) → Option Row
row_of method words = find (fits method words) routes

-- ---- the rows of the code

abbrev pub texts_seen : List (Bor (List ℕ)) → List (List ℕ)
texts_seen texts = map (λ (text : Bor (List ℕ)). text.now) texts

abbrev pub row_seen : table.Row → Row
row_seen row = record { method = row.method.now; word = row.word.now; parameters = texts_seen row.parameters.now; fields = texts_seen row.fields.now; route = row.route }
