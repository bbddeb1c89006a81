-- Requests and their asks, worked out from the table of routes by hand.
use lib.Utf8.{encode}
use Rattle.std.proofs.Common.{◌≡◌, ℕ, true, false, List, [], ◌∷◌, refl, Option, Some, None, Ok, Err}
use Rattle.std.specs.Prelude.{codes}
use Rattle.std.specs.Fmt.{digits}
use Rattle.std.specs.Str.{is_utf8, chars}
use Rattle.std.specs.Str.Lossy.{utf8_lossy, utf8_valid_len}
use Rattle.form_urlencoded.specs.Form.{raw_pairs, split}
use Rattle.percent_encoding.specs.Percent.{percent_decode}
use Rattle.site_asks.specs.declared.asks.Ask.TheVariants as ask
use Rattle.http_routes.specs.declared.RouteFault.TheVariants.{NoRoute, Field}
use Rattle.http_routes.specs.Asks.{address_fields, ask_of, compose_ask, list_ask, logout_ask, path_address, show_ask}
use Rattle.http_routes.specs.Cookies.{cookie_of}
use Rattle.http_routes.specs.Fields.{text_of}
use Rattle.http_routes.specs.Routes.{routes}
use Rattle.http_routes.specs.Values.{form_number, number_of, section_of}

-- a space is a plus sign, and a page that is missing is the first
list : ask_of (codes "GET") (codes "/list?f=a+b") [] 42 ≡ Ok (ask.List (codes "a b") 1)
unfolding routes list_ask number_of digits text_of raw_pairs split percent_decode utf8_lossy utf8_valid_len is_utf8 chars encode
list = refl

-- words of the path are fields, and fields of the query that have their names are passed over
show : ask_of (codes "GET") (codes "/show/8/7?f=I&v=9") [] 42 ≡ Ok (ask.Show (record { folder = codes "I"; validity = 8; uid = 7 }) None false)
unfolding routes show_ask path_address number_of section_of digits text_of raw_pairs split percent_decode utf8_lossy utf8_valid_len is_utf8 chars encode
show = refl

-- a number has no leading zero
wrong_number : ask_of (codes "GET") (codes "/show/08/7?f=I") [] 42 ≡ Err (Field (codes "v"))
unfolding routes show_ask path_address number_of digits text_of raw_pairs split percent_decode utf8_lossy utf8_valid_len is_utf8 chars encode
wrong_number = refl

-- a field that occurs twice
twice_given : ask_of (codes "POST") (codes "/logout") (codes "key=a&key=a") 42 ≡ Err (Field (codes "key"))
unfolding routes logout_ask text_of raw_pairs split percent_decode utf8_lossy utf8_valid_len is_utf8 chars encode
twice_given = refl

-- all fields of a message, or none
new_draft : ask_of (codes "GET") (codes "/compose") [] 42 ≡ Ok (ask.Compose 42 None)
unfolding routes compose_ask text_of raw_pairs split
new_draft = refl

half_a_message : ask_of (codes "GET") (codes "/compose?v=8") [] 42 ≡ Err (Field (codes "f"))
unfolding routes compose_ask address_fields text_of raw_pairs split percent_decode utf8_lossy utf8_valid_len is_utf8 chars encode
half_a_message = refl

-- a path with another word, and one with a word too few
no_route : ask_of (codes "GET") (codes "/Sheet") [] 42 ≡ Err NoRoute
unfolding routes
no_route = refl

short_path : ask_of (codes "GET") (codes "/show/8/") [] 42 ≡ Err NoRoute
unfolding routes
short_path = refl

-- ---- values

form_number_read : form_number (codes "000000000000002A") ≡ Some 42
unfolding form_number
form_number_read = refl

short_form : form_number (codes "2a") ≡ None
unfolding form_number
short_form = refl

section_read : section_of (codes "2.1") ≡ Some (2 ∷ 1 ∷ [])
unfolding section_of digits
section_read = refl

no_section : section_of (codes "2.") ≡ None
unfolding section_of digits
no_section = refl

-- ---- cookies

first_cookie_read : cookie_of (codes "a=1; wm = \"x y\" ;wm=z" ∷ codes "wm=q" ∷ []) ≡ Some (codes "\"x y\"")
unfolding utf8_lossy utf8_valid_len is_utf8 chars encode
first_cookie_read = refl

no_cookie : cookie_of (codes "WM=1; wm" ∷ []) ≡ None
no_cookie = refl
