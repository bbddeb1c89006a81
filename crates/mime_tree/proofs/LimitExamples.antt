-- The limits of the tree: how deep and how many parts there are, and what isn't opened.
use Rattle.std.proofs.Common.{◌≡◌, ℕ, Bool, true, false, List, [], ◌∷◌, codes, length, map, refl, None}
use Rattle.header_words.specs.Fields.{header_of}
use Rattle.transfer_codings.specs.declared.coding.Coding.TheVariants.{Plain, Base64, Quoted}
use Rattle.mime_content.specs.Content.{content_of}
use Rattle.mime_tree.specs.declared.node.Node.{Node}
use Rattle.mime_tree.specs.declared.node.Position.TheVariants.{Body}
use Rattle.mime_tree.specs.Body.{places, is_closing_line, is_delimiter_line}
use Rattle.mime_tree.specs.Opening.{node_at, children_from, children_of, can_open, is_raw, opens_beside, open_first, tree_after_steps, message_of, parts_of}

-- a message, with `around` multiparts and messages around it
with_around : List ℕ → ℕ → Node
with_around text around = node_at text (codes "text/plain") (Body None) around false 0 (length text)

abbrev message : List ℕ
message = codes "Content-Type: message/rfc822\n\n\nx"

abbrev multipart : List ℕ
multipart = codes "Content-Type: multipart/mixed; boundary=a\n\n--a\n\nx\n--a\n\ny\n"

-- at most 32 around
depths : map (λ around. can_open (with_around message around)) (0 ∷ 32 ∷ 33 ∷ []) ≡ true ∷ true ∷ false ∷ []
unfolding with_around node_at header_of content_of
depths = refl

-- a message is a part, and so is its child: with 998 others there are 1,000
parts_of_a_message : map (λ others. opens_beside message others (with_around message 0)) (998 ∷ 999 ∷ []) ≡ true ∷ false ∷ []
unfolding with_around opens_beside children_of node_at header_of content_of
parts_of_a_message = refl

-- a multipart that is the whole body of a message is no part; its two children are
parts_of_a_multipart : map (λ others. opens_beside multipart others (with_around multipart 0)) (998 ∷ 999 ∷ []) ≡ true ∷ false ∷ []
unfolding with_around opens_beside children_of children_from places is_closing_line is_delimiter_line node_at header_of content_of
parts_of_a_multipart = refl

-- what isn't opened is raw: a multipart, a message; and so is a leaf of an unknown coding
raw : map (λ text. is_raw (with_around text 0).content) (message ∷ multipart ∷ codes "Content-Transfer-Encoding: x\n\n" ∷ codes "Content-Transfer-Encoding: 8bit\n\n" ∷ []) ≡ true ∷ true ∷ true ∷ false ∷ []
unfolding with_around node_at header_of content_of
raw = refl

-- each part has its own coding
codings : map (λ p. p.coding) (parts_of (codes "Content-Type: multipart/mixed; boundary=a\n\n--a\nContent-Transfer-Encoding: base64\n\n--a\nContent-Transfer-Encoding: Quoted-Printable\n\n--a\nContent-Transfer-Encoding: x\n\n--a\n\n")) ≡ Base64 ∷ Quoted ∷ Plain ∷ Plain ∷ []
unfolding parts_of message_of tree_after_steps open_first opens_beside children_of children_from node_at content_of places is_closing_line is_delimiter_line header_of
codings = refl

-- a delimiter line begins with `--`, and then the whole boundary
delimiter_lines : map (is_delimiter_line (codes "ab")) (codes "--ab" ∷ codes "xxab" ∷ codes "--a" ∷ codes "--abc" ∷ codes "--ab--" ∷ codes "--ab- " ∷ codes "--ab \t" ∷ []) ≡ true ∷ false ∷ false ∷ false ∷ true ∷ false ∷ true ∷ []
unfolding is_delimiter_line is_closing_line
delimiter_lines = refl
