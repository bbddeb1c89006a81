-- The bytes of a reply (RFC 9112 §4): a head of literal lines, and the body.
use Rattle.std.specs.Prelude.{ℕ, Bool, true, false, not, ◌&&◌, ◌==◌, nat_lt, nat_le, List, [], ◌++◌, length, filter, codes, decimal, Option, Some, None, unwrap_or, if◌then◌else◌}
use Rattle.http.specs.StatusCode.{reason_phrase}
use Rattle.site_asks.specs.declared.replies.Reply.{Reply}
use Rattle.site_asks.specs.declared.replies.Kind.{Kind}
use Rattle.site_asks.specs.declared.replies.Kind.TheVariants.{Page, Picture, Raw, To, Sheet}

-- a line of the head
abbrev pub line : List ℕ → List ℕ
line text = text ++ codes "\r\n"

-- a byte that isn't a control character of ASCII
abbrev pub is_visible : ℕ → Bool
is_visible b = nat_le 32 b && not (b == 127)

-- a text as a line has it: without control characters, so that none can end the line
abbrev pub value_text : List ℕ → List ℕ
value_text text = filter is_visible text

-- the phrase of a status, empty if it has none
unfoldable pub known_phrase : ℕ → List ℕ
known_phrase status = unwrap_or (reason_phrase status) []

-- a number that hasn't three digits is no status, and has no phrase
abbrev pub phrase_of : ℕ → List ℕ
phrase_of status = if nat_le 100 status && nat_lt status 1000 then known_phrase status else []

abbrev pub status_line : ℕ → List ℕ
status_line status = line (codes "HTTP/1.1 " ++ decimal status ++ codes " " ++ phrase_of status)

-- where the browser is sent
abbrev pub location_lines : Kind → List ℕ
location_lines (Page images) = []
location_lines (Picture type) = []
location_lines Raw = []
location_lines (To address) = line (codes "Location: " ++ value_text address)
location_lines Sheet = []

abbrev pub cookie_lines : Option (List ℕ) → List ℕ
cookie_lines None = []
cookie_lines (Some token) = line (codes "Set-Cookie: wm=" ++ value_text token ++ codes "; HttpOnly; SameSite=Strict; Path=/")

-- what the body is
abbrev pub type_lines : Kind → List ℕ
type_lines (Page images) = line (codes "Content-Type: text/html; charset=utf-8")
type_lines (Picture type) = line (codes "Content-Type: " ++ value_text type)
type_lines Raw = line (codes "Content-Type: application/octet-stream") ++ line (codes "Content-Disposition: attachment")
type_lines (To address) = line (codes "Content-Type: text/html; charset=utf-8")
type_lines Sheet = line (codes "Content-Type: text/css")

-- whether the reply may load remote images
abbrev pub has_images : Kind → Bool
has_images (Page images) = images
has_images (Picture type) = false
has_images Raw = false
has_images (To address) = false
has_images Sheet = false

-- where remote images come from, if they were asked for
abbrev pub image_sources : Bool → List ℕ
image_sources true = codes " http: https:"
image_sources false = []

-- what the page may load: images of the site itself, and remote ones if they were asked for
abbrev pub policy_line : Bool → List ℕ
policy_line images =
    line (codes "Content-Security-Policy: default-src 'none'; style-src 'self' 'unsafe-inline'; img-src 'self'" ++ image_sources images)

-- the head of a reply
unfoldable pub reply_head : Reply → Option (List ℕ) → List ℕ
reply_head reply cookie =
    status_line reply.status
    ++ location_lines reply.kind
    ++ cookie_lines cookie
    ++ type_lines reply.kind
    ++ line (codes "Content-Length: " ++ decimal (length reply.body))
    ++ line (codes "Cache-Control: no-store")
    ++ line (codes "X-Content-Type-Options: nosniff")
    ++ policy_line (has_images reply.kind)
    ++ line (codes "Connection: close")
    ++ line []

-- the bytes of a reply
abbrev pub reply_text : Reply → Option (List ℕ) → List ℕ
reply_text reply cookie = reply_head reply cookie ++ reply.body
