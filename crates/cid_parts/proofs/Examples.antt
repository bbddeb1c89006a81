-- What some addresses refer to, computed.
use Rattle.std.proofs.Common.{◌≡◌, ℕ, List, [], ◌∷◌, map, codes, refl, Some, None}
use Rattle.std.specs.Prelude.{Option, true, false}
use Rattle.percent_encoding.specs.Percent.{percent_decode}
use Rattle.url.proofs.OnLiterals.{url_on_literals}
use Rattle.html_rules.specs.Values.{is_remote, is_link}
use Rattle.cid_parts.specs.declared.refs.Ref.{Ref}
use Rattle.cid_parts.specs.declared.refs.Ref.TheVariants.{Part, Remote, Link, Nothing}
use Rattle.mime_tree.specs.Tree.{PartValue}
use Rattle.cid_parts.specs.Located.{LocatedPart, located_parts, url_of, base_of}
use Rattle.cid_parts.specs.Refer.{refer, refer_to_text, ref_of_text}

abbrev at_location : List ℕ → Option (List ℕ) → Option (List ℕ) → LocatedPart
at_location section id location = record { section = section; id = id; location = location }

-- the parts 1 to 5 of a message: two have one Content-ID, two have one Content-Location, and one of them a relative one
abbrev parts : List LocatedPart
parts =
    at_location (1 ∷ []) None None
    ∷ at_location (2 ∷ []) (Some (codes "a@b")) (Some (codes "http://e.example/x/p.png"))
    ∷ at_location (3 ∷ []) (Some (codes "a@b")) (Some (codes "q.png"))
    ∷ at_location (4 ∷ []) (Some (codes "%20")) (Some (codes "http://e.example/x/q.png"))
    ∷ at_location (5 ∷ []) None (Some (codes "x:c d"))
    ∷ []

-- what addresses refer to, in a part with this Content-Location
abbrev refs : Option (List ℕ) → List (List ℕ) → List Ref
refs base addresses = map (refer (record { parts = parts; base = base_of base })) addresses

-- `cid:` in any case, its escapes decoded once: the first part of the Content-ID, whose case counts
content_ids : refs None (codes "cid:a@b" ∷ codes "CiD:a%40b" ∷ codes "cid:%61@b" ∷ codes "cid:%2520" ∷ []) ≡ Part (2 ∷ []) ∷ Part (2 ∷ []) ∷ Part (2 ∷ []) ∷ Part (4 ∷ []) ∷ []
unfolding refer percent_decode
content_ids = refl

no_such_ids : refs None (codes "cid:" ∷ codes "cid:A@b" ∷ codes "cid:<a@b>" ∷ codes "cid:a@b " ∷ codes "cid:%20" ∷ []) ≡ Nothing ∷ Nothing ∷ Nothing ∷ Nothing ∷ Nothing ∷ []
unfolding refer percent_decode
no_such_ids = refl

-- white space before the scheme is dropped by the URL standard, which knows no parts
spaced_id : refs None (codes " cid:a@b" ∷ codes "c\tid:a@b" ∷ []) ≡ Nothing ∷ Nothing ∷ []
unfolding refer refer_to_text ref_of_text url_of url_on_literals is_remote is_link
spaced_id = refl

-- addresses of the web are written as the URL standard serializes them
remote : refs None (codes " HTTPS://E.example/a b" ∷ codes "http:e.example" ∷ codes "http://E.EXAMPLE:80/x/../y?q#f" ∷ []) ≡ Remote (codes "https://e.example/a%20b") ∷ Remote (codes "http://e.example/") ∷ Remote (codes "http://e.example/y?q#f") ∷ []
unfolding refer refer_to_text ref_of_text url_of url_on_literals is_remote is_link
remote = refl

links : refs None (codes "mailto:a@b.example" ∷ codes "MAILTO:a@b.example?subject=x%20y" ∷ []) ≡ Link (codes "mailto:a@b.example") ∷ Link (codes "mailto:a@b.example?subject=x%20y") ∷ []
unfolding refer refer_to_text ref_of_text url_of url_on_literals is_remote is_link
links = refl

-- schemes that act or read, with a TAB that the URL standard drops, and what doesn't read at all
nothing : refs None (codes "javascript:1" ∷ codes "jav\tascript:1" ∷ codes "\n JavaScript:1" ∷ codes "data:text/html,x" ∷ codes "file:///etc/passwd" ∷ codes "vbscript:x" ∷ codes "blob:https://e.example/1" ∷ codes "ftp://e.example/" ∷ []) ≡ Nothing ∷ Nothing ∷ Nothing ∷ Nothing ∷ Nothing ∷ Nothing ∷ Nothing ∷ Nothing ∷ []
unfolding refer refer_to_text ref_of_text url_of url_on_literals is_remote is_link
nothing = refl

unread : refs None (codes "" ∷ codes "p.png" ∷ codes "/" ∷ codes "//e.example/" ∷ codes "#top" ∷ codes "http://" ∷ codes "http://a b/" ∷ []) ≡ Nothing ∷ Nothing ∷ Nothing ∷ Nothing ∷ Nothing ∷ Nothing ∷ Nothing ∷ []
unfolding refer refer_to_text ref_of_text url_of url_on_literals is_remote is_link
unread = refl

-- a part by its Content-Location, whatever its spelling, before the web. Without a base the relative Content-Location of part 3 isn't one
locations : refs None (codes "http://e.example/x/p.png" ∷ codes "HTTP://E.example:80/x/y/../p.png" ∷ codes "http://e.example/x/q.png" ∷ codes "http://e.example/x/p.png#f" ∷ []) ≡ Part (2 ∷ []) ∷ Part (2 ∷ []) ∷ Part (4 ∷ []) ∷ Remote (codes "http://e.example/x/p.png#f") ∷ []
unfolding refer refer_to_text ref_of_text url_of url_on_literals is_remote is_link
locations = refl

-- relative addresses below a base, with which Content-Locations are read too
below_a_base : refs (Some (codes "http://e.example/x/index.html")) (codes "p.png" ∷ codes "q.png" ∷ codes "../x/./q.png" ∷ codes "" ∷ codes "?q" ∷ codes "//f.example/x/p.png" ∷ codes "mailto:a@b.example" ∷ codes "cid:a@b" ∷ []) ≡ Part (2 ∷ []) ∷ Part (3 ∷ []) ∷ Part (3 ∷ []) ∷ Remote (codes "http://e.example/x/index.html") ∷ Remote (codes "http://e.example/x/index.html?q") ∷ Remote (codes "http://f.example/x/p.png") ∷ Link (codes "mailto:a@b.example") ∷ Part (2 ∷ []) ∷ []
unfolding refer refer_to_text ref_of_text url_of url_on_literals is_remote is_link
below_a_base = refl

-- a base that doesn't read by itself is none
unread_base : refs (Some (codes "x/index.html")) (codes "p.png" ∷ codes "http://e.example/x/p.png" ∷ []) ≡ Nothing ∷ Part (2 ∷ []) ∷ []
unfolding refer refer_to_text ref_of_text url_of url_on_literals is_remote is_link
unread_base = refl

-- a URL with a space refers to nothing, also if a part has it
spaces : refs None (codes "x:c d" ∷ codes "mailto:a b" ∷ []) ≡ Nothing ∷ Nothing ∷ []
unfolding refer refer_to_text ref_of_text url_of url_on_literals is_remote is_link
spaces = refl

-- the parts of a message in the message aren't looked at
enclosed_parts : (p : PartValue) → located_parts (record p { section = 1 ∷ 1 ∷ []; enclosed = true } ∷ record p { section = 2 ∷ []; id = Some (codes "a@b"); location = None; enclosed = false } ∷ []) ≡ at_location (2 ∷ []) (Some (codes "a@b")) None ∷ []
enclosed_parts p = refl
