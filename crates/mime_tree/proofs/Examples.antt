-- Trees of some messages, computed.
use Rattle.std.proofs.Common.{◌≡◌, ℕ, List, [], ◌∷◌, codes, refl, map}
use Rattle.header_words.specs.Fields.{header_of}
use Rattle.mime_tree.specs.Body.{places, range, is_closing_line, is_delimiter_line}
use Rattle.mime_content.specs.Content.{content_of}
use Rattle.mime_tree.specs.Opening.{node_at, children_from, children_of, opens_beside, open_first, tree_after_steps, message_of, parts_of}
use Rattle.std.specs.Prelude.{Some, None}
use Rattle.std.specs.Option.{option_map}
use Rattle.mime_tree.specs.Best.{part_at}
use Rattle.mime_tree.specs.Tree.{PartValue}

pub record Seen : Type 0 where
  pub section : List ℕ
  pub mime : List ℕ
  pub bytes : List ℕ

abbrev seen : PartValue → Seen
seen p = record { section = p.section; mime = p.mime; bytes = p.bytes }

abbrev see : List ℕ → List ℕ → List ℕ → Seen
see section mime bytes = record { section = section; mime = mime; bytes = bytes }

places_plain : places (codes "a") (codes "pre\n--a\none\n--a  \ntwo\n\n--a--\nafter") ≡ range 8 11 ∷ range 18 22 ∷ []
unfolding places is_closing_line is_delimiter_line
places_plain = refl

places_empty_part : places (codes "a") (codes "--a\n--a\n--a--") ≡ range 4 4 ∷ range 8 8 ∷ []
unfolding places is_closing_line is_delimiter_line
places_empty_part = refl

places_no_end : places (codes "a") (codes "--a\nx\n") ≡ range 4 6 ∷ []
unfolding places is_closing_line is_delimiter_line
places_no_end = refl

places_none : places (codes "a") (codes "x\n--ab\n--\n") ≡ []
unfolding places is_closing_line is_delimiter_line
places_none = refl

places_crlf : places (codes "a--") (codes "--a--\r\nx\r\n--a----\r\n--a--\r\n") ≡ range 7 8 ∷ []
unfolding places is_closing_line is_delimiter_line
places_crlf = refl

one_leaf : map seen (parts_of (codes "Subject: a\n\nbody")) ≡ see (1 ∷ []) (codes "text/plain") (codes "body") ∷ []
unfolding parts_of message_of tree_after_steps open_first opens_beside children_of children_from node_at content_of places is_closing_line is_delimiter_line header_of
one_leaf = refl

-- a text and a page
abbrev two_part_alternative_text : List ℕ
two_part_alternative_text = codes "Content-Type: multipart/alternative; boundary=a\n\n--a\n\nhi\n--a\nContent-Type: text/html\n\n<p>hi\n--a--\n"

two_part_alternative : map seen (parts_of two_part_alternative_text) ≡ see (1 ∷ []) (codes "text/plain") (codes "hi") ∷ see (2 ∷ []) (codes "text/html") (codes "<p>hi") ∷ []
unfolding parts_of message_of tree_after_steps open_first opens_beside children_of children_from node_at content_of places is_closing_line is_delimiter_line header_of
two_part_alternative = refl

-- a line of the outer boundary ends the inner parts; its own end is missing
abbrev outer_line_ends_inner_text : List ℕ
outer_line_ends_inner_text = codes "Content-Type: multipart/mixed; boundary=o\n\n--o\nContent-Type: multipart/mixed; boundary=i\n\n--i\n\nx\n--o\n\ny\n"

outer_line_ends_inner : map seen (parts_of outer_line_ends_inner_text) ≡ see (1 ∷ []) (codes "multipart/mixed") (codes "--i\n\nx") ∷ see (1 ∷ 1 ∷ []) (codes "text/plain") (codes "x") ∷ see (2 ∷ []) (codes "text/plain") (codes "y\n") ∷ []
unfolding parts_of message_of tree_after_steps open_first opens_beside children_of children_from node_at content_of places is_closing_line is_delimiter_line header_of
outer_line_ends_inner = refl

-- the inner boundary begins with the outer one, and ends in --
abbrev prefix_boundary_text : List ℕ
prefix_boundary_text = codes "Content-Type: multipart/mixed; boundary=o\n\n--o\nContent-Type: multipart/mixed; boundary=\"oo--\"\n\n--oo--\n\nx\n--oo----\n--o--\nafter\n--o\n"

prefix_boundary : map seen (parts_of prefix_boundary_text) ≡ see (1 ∷ []) (codes "multipart/mixed") (codes "--oo--\n\nx\n--oo----") ∷ see (1 ∷ 1 ∷ []) (codes "text/plain") (codes "x") ∷ []
unfolding parts_of message_of tree_after_steps open_first opens_beside children_of children_from node_at content_of places is_closing_line is_delimiter_line header_of
prefix_boundary = refl

-- a multipart with no part
abbrev zero_parts_text : List ℕ
zero_parts_text = codes "Content-Type: multipart/mixed; boundary=o\n\n--o--\n"

zero_parts : map seen (parts_of zero_parts_text) ≡ []
unfolding parts_of message_of tree_after_steps open_first opens_beside children_of children_from node_at content_of places is_closing_line is_delimiter_line header_of
zero_parts = refl

-- a multipart with no boundary
abbrev no_boundary_text : List ℕ
no_boundary_text = codes "Content-Type: multipart/mixed\n\n--o\n"

no_boundary : map seen (parts_of no_boundary_text) ≡ see (1 ∷ []) (codes "application/octet-stream") (codes "--o\n") ∷ []
unfolding parts_of message_of tree_after_steps open_first opens_beside children_of children_from node_at content_of places is_closing_line is_delimiter_line header_of
no_boundary = refl

-- a part of a digest is a message
abbrev digest_text : List ℕ
digest_text = codes "Content-Type: multipart/digest; boundary=d\n\n--d\n\nSubject: a\n\nx\n--d\nContent-Type: text/plain\n\ny\n--d--\n"

digest : map seen (parts_of digest_text) ≡ see (1 ∷ []) (codes "message/rfc822") (codes "Subject: a\n\nx") ∷ see (1 ∷ 1 ∷ []) (codes "text/plain") (codes "x") ∷ see (2 ∷ []) (codes "text/plain") (codes "y") ∷ []
unfolding parts_of message_of tree_after_steps open_first opens_beside children_of children_from node_at content_of places is_closing_line is_delimiter_line header_of
digest = refl

-- messages in messages
abbrev message_in_message_text : List ℕ
message_in_message_text = codes "Content-Type: message/rfc822\n\nContent-Type: message/rfc822\n\nContent-Type: multipart/mixed; boundary=a\n\n--a\n\nx\n"

message_in_message : map seen (parts_of message_in_message_text) ≡ see (1 ∷ []) (codes "message/rfc822") (codes "Content-Type: message/rfc822\n\nContent-Type: multipart/mixed; boundary=a\n\n--a\n\nx\n") ∷ see (1 ∷ 1 ∷ []) (codes "message/rfc822") (codes "Content-Type: multipart/mixed; boundary=a\n\n--a\n\nx\n") ∷ see (1 ∷ 1 ∷ 1 ∷ []) (codes "text/plain") (codes "x\n") ∷ []
unfolding parts_of message_of tree_after_steps open_first opens_beside children_of children_from node_at content_of places is_closing_line is_delimiter_line header_of
message_in_message = refl

-- text before the first delimiter and after the last
abbrev preamble_and_epilogue_text : List ℕ
preamble_and_epilogue_text = codes "Content-Type: multipart/mixed; boundary=a\n\npre\n--a   \n\nx\n\n--a--  \npost\n--a\n"

preamble_and_epilogue : map seen (parts_of preamble_and_epilogue_text) ≡ see (1 ∷ []) (codes "text/plain") (codes "x\n") ∷ []
unfolding parts_of message_of tree_after_steps open_first opens_beside children_of children_from node_at content_of places is_closing_line is_delimiter_line header_of
preamble_and_epilogue = refl

-- a leaf of an unknown coding
abbrev unknown_coding_text : List ℕ
unknown_coding_text = codes "Content-Type: text/html\nContent-Transfer-Encoding: x-uu\n\nx"

unknown_coding : map seen (parts_of unknown_coding_text) ≡ see (1 ∷ []) (codes "application/octet-stream") (codes "x") ∷ []
unfolding parts_of message_of tree_after_steps open_first opens_beside children_of children_from node_at content_of places is_closing_line is_delimiter_line header_of
unknown_coding = refl

-- a type that does not read counts as missing
abbrev unread_type_text : List ℕ
unread_type_text = codes "Content-Type: text; charset=x\n\nx"

unread_type : map seen (parts_of unread_type_text) ≡ see (1 ∷ []) (codes "text/plain") (codes "x") ∷ []
unfolding parts_of message_of tree_after_steps open_first opens_beside children_of children_from node_at content_of places is_closing_line is_delimiter_line header_of
unread_type = refl

-- an empty boundary is a missing one
empty_boundary : map seen (parts_of (codes "Content-Type: multipart/mixed; boundary=\"\"\n\n--\n\nx\n")) ≡ see (1 ∷ []) (codes "application/octet-stream") (codes "--\n\nx\n") ∷ []
unfolding parts_of message_of tree_after_steps open_first opens_beside children_of children_from node_at content_of places is_closing_line is_delimiter_line header_of
empty_boundary = refl

-- folds are unfolded before the pieces are split
folded_boundary : map seen (parts_of (codes "Content-Type: multipart/mixed;\n boundary=\"a\n  b\"\n\n--a b\n\nx\n")) ≡ see (1 ∷ []) (codes "text/plain") (codes "x\n") ∷ []
unfolding parts_of message_of tree_after_steps open_first opens_beside children_of children_from node_at content_of places is_closing_line is_delimiter_line header_of
folded_boundary = refl

-- of two fields the first counts; where it doesn't read, none
two_types : map seen (parts_of (codes "Content-Type: text\nContent-Type: text/html\n\nx")) ≡ see (1 ∷ []) (codes "text/plain") (codes "x") ∷ []
unfolding parts_of message_of tree_after_steps open_first opens_beside children_of children_from node_at content_of places is_closing_line is_delimiter_line header_of
two_types = refl

-- a boundary that ends in a space
spaced_boundary : places (codes "a ") (codes "--a\n--a  \nx\n--a --\n") ≡ range 10 11 ∷ []
unfolding places is_closing_line is_delimiter_line
spaced_boundary = refl

-- the part of a section, and of one that no part has: neither a front of a section nor a longer one finds a part
second_part : option_map seen (part_at (2 ∷ []) (parts_of two_part_alternative_text)) ≡ Some (see (2 ∷ []) (codes "text/html") (codes "<p>hi"))
unfolding parts_of message_of tree_after_steps open_first opens_beside children_of children_from node_at content_of places is_closing_line is_delimiter_line header_of
second_part = refl

inner_part : option_map seen (part_at (1 ∷ 1 ∷ []) (parts_of outer_line_ends_inner_text)) ≡ Some (see (1 ∷ 1 ∷ []) (codes "text/plain") (codes "x"))
unfolding parts_of message_of tree_after_steps open_first opens_beside children_of children_from node_at content_of places is_closing_line is_delimiter_line header_of
inner_part = refl

no_inner_part : option_map seen (part_at (2 ∷ 1 ∷ []) (parts_of two_part_alternative_text)) ≡ None
unfolding parts_of message_of tree_after_steps open_first opens_beside children_of children_from node_at content_of places is_closing_line is_delimiter_line header_of
no_inner_part = refl

no_whole_part : option_map seen (part_at [] (parts_of two_part_alternative_text)) ≡ None
unfolding parts_of message_of tree_after_steps open_first opens_beside children_of children_from node_at content_of places is_closing_line is_delimiter_line header_of
no_whole_part = refl
