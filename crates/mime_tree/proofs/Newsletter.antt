-- The newsletter, computed.
use Rattle.std.proofs.Common.{◌≡◌, ℕ, List, [], ◌∷◌, length, codes, refl, map}
use Rattle.std.specs.Prelude.{Option, Some, None}
use Rattle.header_words.specs.Fields.{header_of}
use Rattle.mime_tree.specs.Body.{places, is_closing_line, is_delimiter_line}
use Rattle.mime_content.specs.Content.{content_of}
use Rattle.mime_tree.specs.Opening.{node_at, children_from, children_of, opens_beside, open_first, tree_after_steps, message_of, parts_of}
use Rattle.mime_tree.specs.Tree.{PartValue}
use Rattle.header_words.specs.Value.{decoded_text}

pub record Seen : Type 0 where
  pub section : List ℕ
  pub mime : List ℕ
  pub name : List ℕ
  pub id : Option (List ℕ)
  pub size : ℕ

abbrev seen : PartValue → Seen
seen p = record { section = p.section; mime = p.mime; name = p.name; id = p.id; size = length p.bytes }

abbrev see : List ℕ → List ℕ → List ℕ → Option (List ℕ) → ℕ → Seen
see section mime name id size = record { section = section; mime = mime; name = name; id = id; size = size }

abbrev text : List ℕ
text = codes "From: \"College News\" <news@c.example>\r\nTo: ann@c.example\r\nSubject: =?utf-8?Q?Caf=C3=A9_week?=\r\nDate: Mon, 5 Jan 2026 09:00:00 +0000\r\nMIME-Version: 1.0\r\nContent-Type: multipart/alternative; boundary=\"a1\"\r\n\r\n--a1\r\nContent-Type: text/plain; charset=utf-8\r\n\r\nCafe week\r\n--a1\r\nContent-Type: multipart/related; boundary=\"r1\"\r\n\r\n--r1\r\nContent-Type: text/html; charset=utf-8\r\nContent-Transfer-Encoding: quoted-printable\r\n\r\n<html><head><style>p{color:red}</style></head><body bgcolor=3D\"#fff\"><table=\r\n width=3D\"600\"><tr><td><img src=3D\"cid:top@n\" width=3D600 height=3D80><p cl=\r\nass=3D\"x\" style=3D\"color:#333;margin:0 0 10px\">Caf=C3=A9</p><img src=3D\"htt=\r\np://t.example/o\"><img src=3D\"cid:foot@n\"></td></tr></table></body></html>\r\n--r1\r\nContent-Type: image/png; name=\"top.png\"\r\nContent-ID: <top@n>\r\nContent-Transfer-Encoding: base64\r\n\r\niVBORw==\r\n--r1\r\nContent-Type: image/gif\r\nContent-ID: <foot@n>\r\nContent-Transfer-Encoding: base64\r\n\r\nR0lGODlh\r\n--r1--\r\n--a1--\r\n"

newsletter : map seen (parts_of text) ≡ see (1 ∷ []) (codes "text/plain") [] None 9 ∷ see (2 ∷ []) (codes "multipart/related") [] None 623 ∷ see (2 ∷ 1 ∷ []) (codes "text/html") [] None 307 ∷ see (2 ∷ 2 ∷ []) (codes "image/png") (decoded_text (codes "top.png")) (Some (codes "top@n")) 8 ∷ see (2 ∷ 3 ∷ []) (codes "image/gif") [] (Some (codes "foot@n")) 8 ∷ []
unfolding parts_of message_of tree_after_steps open_first opens_beside children_of children_from node_at content_of places is_closing_line is_delimiter_line header_of
newsletter = refl
