-- Pages, forms and addresses, computed, as they are written.
use Rattle.std.proofs.Common.{◌≡◌, ℕ, true, false, List, [], ◌∷◌, ◌++◌, codes, refl}
use Rattle.std.specs.Fmt.{digits}
use Rattle.std.specs.Str.{chars}
use lib.Utf8.{encode}
use Rattle.percent_encoding.specs.Percent.{percent_encode_byte}
use Rattle.form_urlencoded.specs.Form.{byte_serialize}
use Rattle.account_pictures.specs.declared.records.Address.{Address}
use Rattle.html_syntax.specs.Token.Token.{Start, End, Char, Doctype}
use Rattle.html_rules.specs.Tokens.{start_tag}
use Rattle.page_writer.specs.Page.{spell}
use Rattle.page_frames.specs.Elements.{element}
use Rattle.page_frames.specs.Paths.{folder_query, message_path, list_address, show_address, shown_part_address, part_address, images_address}
use Rattle.page_frames.specs.Forms.{form_start, form_end, form, hidden, visible, password, text_area_start, text_area}
use Rattle.page_frames.specs.Pages.{nav_links, nav, page_start, framed, heading}

-- ---- pages

-- all tokens of a page that shows nothing; U+0000 in its title is U+FFFD
plain_tokens : framed (97 ∷ 0 ∷ []) false [] ≡
    Doctype ∷ Char 10
    ∷ Start (codes "html") (record { name = codes "lang"; value = codes "en" } ∷ [])
    ∷ start_tag (codes "head")
    ∷ Start (codes "meta") (record { name = codes "charset"; value = codes "utf-8" } ∷ [])
    ∷ start_tag (codes "title") ∷ Char 97 ∷ Char 0xFFFD ∷ End (codes "title")
    ∷ Start (codes "link") (record { name = codes "rel"; value = codes "stylesheet" } ∷ record { name = codes "href"; value = codes "/site.css" } ∷ [])
    ∷ End (codes "head") ∷ Char 10
    ∷ start_tag (codes "body") ∷ Char 10 ∷ End (codes "body")
    ∷ End (codes "html") ∷ Char 10 ∷ []
unfolding framed page_start chars encode
plain_tokens = refl

-- a page before a login, and its spelling
plain_page : spell (framed (codes "<b>") false (heading (codes "<b>") ++ element (codes "p") (codes "x"))) ≡ codes "<!DOCTYPE html>\n<html lang=\"en\"><head><meta charset=\"utf-8\"><title>&lt;b&gt;</title><link rel=\"stylesheet\" href=\"/site.css\"></head>\n<body><h1>&lt;b&gt;</h1>\n<p>x</p>\n</body></html>\n"
unfolding framed page_start heading spell chars encode
plain_page = refl

-- a page of a session
session_page : spell (framed (codes "t") true (heading (codes "t"))) ≡ codes "<!DOCTYPE html>\n<html lang=\"en\"><head><meta charset=\"utf-8\"><title>t</title><link rel=\"stylesheet\" href=\"/site.css\"></head>\n<body><p class=\"nav\"><a href=\"/\">Folders</a> <a href=\"/compose\">Compose</a> <a href=\"/identities\">Identities</a></p>\n<h1>t</h1>\n\n</body></html>\n"
unfolding framed page_start nav nav_links heading spell chars encode
session_page = refl

-- ---- forms

-- each control once; what is in a value can't end it
some_form : spell (form (codes "/x?a=1&b") (hidden (codes "key") (codes "\"&") ∷ visible (codes "to") [] ∷ password (codes "word") ∷ text_area (codes "\n</textarea>")) (codes "Send")) ≡ codes "<form method=\"post\" action=\"/x?a=1&amp;b\"><input type=\"hidden\" name=\"key\" value=\"&quot;&amp;\"><input type=\"text\" name=\"to\" value=\"\"><input type=\"password\" name=\"word\" value=\"\"><textarea name=\"text\" rows=\"20\" cols=\"76\">\n\n&lt;/textarea&gt;</textarea><button>Send</button></form>"
unfolding form_start form_end hidden visible password text_area_start text_area spell chars encode
some_form = refl

-- a form without a control
empty_form : spell (form (codes "/x") [] []) ≡ codes "<form method=\"post\" action=\"/x\"><button></button></form>"
unfolding form_start form_end spell chars encode
empty_form = refl

-- ---- addresses

-- `A &%`, then U+00E9 in UTF-8
folder : List ℕ
folder = codes "A &%" ++ 0xC3 ∷ 0xA9 ∷ []

message : Address
message = record { folder = folder; validity = 8; uid = 4294967295 }

list_of_folder : list_address folder ≡ codes "/list?f=A+%26%25%C3%A9"
unfolding folder list_address folder_query byte_serialize percent_encode_byte
list_of_folder = refl

show_of_message : show_address message ≡ codes "/show/8/4294967295?f=A+%26%25%C3%A9"
unfolding folder message show_address message_path folder_query byte_serialize percent_encode_byte digits
show_of_message = refl

shown_part_of_message : shown_part_address message (2 ∷ 1 ∷ []) ≡ codes "/show/8/4294967295?f=A+%26%25%C3%A9&part=2.1"
unfolding folder message show_address shown_part_address message_path folder_query byte_serialize percent_encode_byte digits
shown_part_of_message = refl

part_of_message : part_address message (2 ∷ 1 ∷ []) ≡ codes "/part/8/4294967295/2.1?f=A+%26%25%C3%A9"
unfolding folder message part_address message_path folder_query byte_serialize percent_encode_byte digits
part_of_message = refl

images_of_message : images_address (show_address message) ≡ codes "/show/8/4294967295?f=A+%26%25%C3%A9&images=1"
unfolding folder message show_address images_address message_path folder_query byte_serialize percent_encode_byte digits
images_of_message = refl

-- no folder is the empty one; what a query leaves as it is
plain_folders : list_address (codes "a/b*-._") ≡ codes "/list?f=a%2Fb*-._"
unfolding list_address folder_query byte_serialize percent_encode_byte
plain_folders = refl

no_folder : part_address (record { folder = []; validity = 0; uid = 0 }) (1 ∷ []) ≡ codes "/part/0/0/1?f="
unfolding part_address message_path folder_query byte_serialize percent_encode_byte digits
no_folder = refl
