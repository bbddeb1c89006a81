-- Pages as they are written.
use Rattle.std.proofs.Common.{◌≡◌, ℕ, true, false, List, [], ◌∷◌, ◌++◌, codes, map, refl, None, Some}
use Rattle.std.specs.List.{range_with_len}
use Rattle.std.specs.Fmt.{digits}
use Rattle.std.specs.Str.{chars}
use lib.Utf8.{encode}
use Rattle.account_pictures.specs.declared.records.Identity.{Identity}
use Rattle.compose_drafts.specs.Message.{hex_digits}
use Rattle.page_writer.specs.Page.{spell}
use Rattle.site_asks.specs.declared.Draft.{Draft}
use Rattle.page_frames.specs.Forms.{form_start, form_end, hidden, visible, password, text_area_start, text_area}
use Rattle.page_frames.specs.Pages.{nav_links, nav, page_start, framed, heading}
use Rattle.form_pages.specs.Compose.{compose_page, draft_form, hidden_inputs, old_inputs, visible_inputs}
use Rattle.form_pages.specs.Identities.{free_number, identity_form, identity_page}
use Rattle.form_pages.specs.Others.{fault, fault_page, login_form, login_page}

-- ---- compose

-- the fields of a saved draft that is edited, with characters that HTML escapes
edited : Draft
edited = record {
  form = 42;
  identity = 3;
  to = codes "\"B\" <b@d>";
  cc = codes "c@d";
  subject = codes "a & b";
  text = codes "\nHello\n";
  refs = codes "<a@x>";
  old = Some (record { folder = codes "Drafts"; validity = 8; uid = 5 });
}

-- what each of the two forms has between its start and its button
edited_fields : List ℕ
edited_fields =
    codes "<input type=\"hidden\" name=\"key\" value=\"k\">"
    ++ codes "<input type=\"hidden\" name=\"form\" value=\"000000000000002a\">"
    ++ codes "<input type=\"hidden\" name=\"refs\" value=\"&lt;a@x&gt;\">"
    ++ codes "<input type=\"hidden\" name=\"f\" value=\"Drafts\">"
    ++ codes "<input type=\"hidden\" name=\"v\" value=\"8\">"
    ++ codes "<input type=\"hidden\" name=\"u\" value=\"5\">"
    ++ codes "<input type=\"text\" name=\"identity\" value=\"3\">"
    ++ codes "<input type=\"text\" name=\"to\" value=\"&quot;B&quot; &lt;b@d&gt;\">"
    ++ codes "<input type=\"text\" name=\"cc\" value=\"c@d\">"
    ++ codes "<input type=\"text\" name=\"subject\" value=\"a &amp; b\">"
    ++ codes "<textarea name=\"text\" rows=\"20\" cols=\"76\">\n\nHello\n</textarea>"

-- what every page of a session begins with
session_start : List ℕ → List ℕ
session_start title =
    codes "<!DOCTYPE html>\n<html lang=\"en\"><head><meta charset=\"utf-8\"><title>" ++ title
    ++ codes "</title><link rel=\"stylesheet\" href=\"/site.css\"></head>\n<body><p class=\"nav\"><a href=\"/\">Folders</a> <a href=\"/compose\">Compose</a> <a href=\"/identities\">Identities</a></p>\n"

page_end : List ℕ
page_end = codes "\n</body></html>\n"

edited_page : spell (compose_page (codes "k") edited) ≡
    session_start (codes "Compose") ++ codes "<h1>Compose</h1>\n"
    ++ codes "<form method=\"post\" action=\"/send\">" ++ edited_fields ++ codes "<button>Send</button></form>"
    ++ codes "<form method=\"post\" action=\"/draft\">" ++ edited_fields ++ codes "<button>Save draft</button></form>"
    ++ page_end
unfolding edited edited_fields session_start page_end compose_page draft_form hidden_inputs old_inputs visible_inputs hex_digits form_start form_end hidden visible text_area_start text_area framed page_start nav nav_links heading spell digits chars encode
edited_page = refl

-- a new draft replaces none
new_inputs : old_inputs None ≡ []
unfolding old_inputs
new_inputs = refl

-- ---- identities

ann : Identity
ann = record { name = codes "Ann"; address = codes "ann@c.example" }

one_kept : spell (identity_page (codes "k") ((1, ann) ∷ [])) ≡
    session_start (codes "Identities") ++ codes "<h1>Identities</h1>\n"
    ++ codes "<form method=\"post\" action=\"/identities\"><input type=\"hidden\" name=\"key\" value=\"k\"><input type=\"hidden\" name=\"number\" value=\"1\"><input type=\"text\" name=\"name\" value=\"Ann\"><input type=\"text\" name=\"address\" value=\"ann@c.example\"><button>Save</button></form>"
    ++ codes "<form method=\"post\" action=\"/identities\"><input type=\"hidden\" name=\"key\" value=\"k\"><input type=\"hidden\" name=\"number\" value=\"2\"><input type=\"text\" name=\"name\" value=\"\"><input type=\"text\" name=\"address\" value=\"\"><button>Save</button></form>"
    ++ page_end
unfolding ann session_start page_end identity_page identity_form free_number form_start form_end hidden visible framed page_start nav nav_links heading spell digits chars encode
one_kept = refl

-- the lowest free number, between two that are kept
between : free_number ((1, ann) ∷ (3, ann) ∷ []) ≡ Some 2
unfolding free_number
between = refl

-- with 16 kept none is free
all_kept : free_number (map (λ number. (number, ann)) (range_with_len 1 16)) ≡ None
unfolding free_number
all_kept = refl

last_free : free_number (map (λ number. (number, ann)) (range_with_len 1 15)) ≡ Some 16
unfolding free_number
last_free = refl

-- ---- logins and faults

login : spell login_page ≡ codes "<!DOCTYPE html>\n<html lang=\"en\"><head><meta charset=\"utf-8\"><title>Login</title><link rel=\"stylesheet\" href=\"/site.css\"></head>\n<body><h1>Login</h1>\n<form method=\"post\" action=\"/login\"><input type=\"text\" name=\"user\" value=\"\"><input type=\"password\" name=\"password\" value=\"\"><button>Log in</button></form>\n</body></html>\n"
unfolding login_page login_form form_start form_end visible password framed page_start heading spell chars encode
login = refl

no_folder : spell (fault_page 404 (codes "No such folder.") true) ≡ session_start (codes "404") ++ codes "<h1>404</h1>\n<p class=\"fault\">No such folder.</p>" ++ page_end
unfolding session_start page_end fault_page fault framed page_start nav nav_links heading spell digits chars encode
no_folder = refl

-- before a login, with a text of a server in it
refused : spell (fault_page 422 (codes "Login was refused: <b>") false) ≡ codes "<!DOCTYPE html>\n<html lang=\"en\"><head><meta charset=\"utf-8\"><title>422</title><link rel=\"stylesheet\" href=\"/site.css\"></head>\n<body><h1>422</h1>\n<p class=\"fault\">Login was refused: &lt;b&gt;</p>\n</body></html>\n"
unfolding fault_page fault framed page_start heading spell digits chars encode
refused = refl
