-- The parts of a message: its multiparts and messages are opened in tree order (RFC 2046 §5.1 and §5.2.1).
use Rattle.std.specs.Prelude.{◌≡◌, ℕ, zero, suc, ◌+◌, ◌≤◌, Bool, true, false, not, ◌&&◌, ◌||◌, List, [], ◌∷◌, ◌++◌, length, if◌then◌else◌, nat_le, Some, None, is_some, unwrap_or, codes, slice_range}
use Rattle.header_words.specs.Fields.{header_of}
use Rattle.mail_values.specs.Section.{numbers_of}
use Rattle.transfer_codings.specs.declared.coding.Coding.TheVariants.{Plain}
use Rattle.mime_tree.specs.declared.body.Range.{Range}
use Rattle.mime_content.specs.declared.content.Content.{Content}
use Rattle.mime_tree.specs.declared.node.Position.{Position}
use Rattle.mime_tree.specs.declared.node.Position.TheVariants.{Body, Child}
use Rattle.mime_tree.specs.declared.node.Node.{Node}
use Rattle.mime_tree.specs.Body.{places}
use Rattle.mime_tree.specs.Content.{is_multipart, is_message, is_alternative, default_in}
use Rattle.mime_content.specs.Content.{content_of}
use Rattle.mime_tree.specs.Tree.{PartValue, TreeValue}

-- the numbers before those of the children: an embedded message's parts follow its own
abbrev pub prefix_of : Position → List ℕ
prefix_of (Body message) = numbers_of message
prefix_of (Child section) = section

-- the whole body of a message that is one part is its first
abbrev pub section_of : Position → List ℕ
section_of (Body message) = numbers_of message ++ 1 ∷ []
section_of (Child section) = section

abbrev pub is_body : Position → Bool
is_body (Body message) = true
is_body (Child section) = false

-- the node at a place of the message
unfoldable pub node_at : List ℕ → List ℕ → Position → ℕ → Bool → ℕ → ℕ → Node
node_at bytes default position around enclosed from to =
    let header = header_of (slice_range bytes from to) in
    record { position = position; around = around; enclosed = enclosed; body = from + header.body; to = to; content = content_of default header.fields }

-- the children of a multipart, numbered from 1
unfoldable pub children_from : List ℕ → Node → ℕ → List Range → List Node
children_from bytes n number [] = []
children_from bytes n number (r ∷ more) =
    node_at bytes (default_in n.content.mime) (Child (prefix_of n.position ++ number ∷ [])) (n.around + 1) n.enclosed (n.body + r.from) (n.body + r.to)
    ∷ children_from bytes n (number + 1) more

-- the nodes in a multipart or a message: a message's one child is its body
unfoldable pub children_of : List ℕ → Node → List Node
children_of bytes n =
    if is_multipart n.content.mime then children_from bytes n 1 (places (unwrap_or n.content.boundary []) (slice_range bytes n.body n.to))
    else node_at bytes (codes "text/plain") (Body (Some (section_of n.position))) (n.around + 1) true n.body n.to ∷ []

-- a multipart with a boundary, or a message, with at most 32 around it
abbrev pub can_open : Node → Bool
can_open n = nat_le n.around 32 && (is_message n.content.mime || (is_multipart n.content.mime && is_some n.content.boundary))

-- a multipart or a message that isn't opened, and a leaf of an unknown coding, is raw
abbrev pub is_raw : Content → Bool
is_raw c = is_multipart c.mime || (is_message c.mime || not (is_some c.coding))

abbrev pub shown_mime : Bool → Content → List ℕ
shown_mime raw c = if raw then codes "application/octet-stream" else c.mime

-- the part of a section, its fields and a place
abbrev pub part_value : List ℕ → Bool → Bool → Content → ℕ → List ℕ → PartValue
part_value section enclosed raw c start body =
    record {
      section = section;
      mime = shown_mime raw c;
      charset = c.charset;
      coding = unwrap_or c.coding Plain;
      name = c.name;
      id = c.id;
      location = c.location;
      format = c.format;
      attached = c.attached;
      enclosed = enclosed;
      start = start;
      bytes = body;
    }

abbrev pub part_of : List ℕ → Node → Bool → PartValue
part_of bytes n raw = part_value (section_of n.position) n.enclosed raw n.content n.body (slice_range bytes n.body n.to)

-- the multipart that is the whole body of a message is no part
abbrev pub own_parts : List ℕ → Node → List PartValue
own_parts bytes n = if is_body n.position && is_multipart n.content.mime then [] else part_of bytes n false ∷ []

-- the tree while it is opened: the parts that are settled, and after them those that aren't
pub record Opened : Type 0 where
  pub parts : List PartValue
  pub waiting : List Node

-- whether a node is opened beside `others` other parts: with its children counted as leaves the tree then has at most 1,000
unfoldable pub opens_beside : List ℕ → ℕ → Node → Bool
opens_beside bytes others n = can_open n && nat_le (others + length (own_parts bytes n) + length (children_of bytes n)) 1000

-- the tree after the first node that waits is opened, or is a leaf
unfoldable pub open_first : List ℕ → List PartValue → Node → List Node → Opened
open_first bytes parts n rest =
    if opens_beside bytes (length parts + length rest) n
    then record { parts = parts ++ own_parts bytes n; waiting = children_of bytes n ++ rest }
    else record { parts = parts ++ part_of bytes n (is_raw n.content) ∷ []; waiting = rest }

-- the tree after `steps` steps
unfoldable pub tree_after_steps : List ℕ → ℕ → List PartValue → List Node → Opened
tree_after_steps bytes steps parts [] = record { parts = parts; waiting = [] }
tree_after_steps bytes zero parts (n ∷ rest) = record { parts = parts; waiting = n ∷ rest }
tree_after_steps bytes (suc steps) parts (n ∷ rest) =
    let t = open_first bytes parts n rest in tree_after_steps bytes steps t.parts t.waiting

-- the node of the message itself
unfoldable pub message_of : List ℕ → Node
message_of bytes = node_at bytes (codes "text/plain") (Body None) 0 false 0 (length bytes)

-- the parts of a message: after 2,001 steps none waits
unfoldable pub parts_of : List ℕ → List PartValue
parts_of bytes = (tree_after_steps bytes 2001 [] (message_of bytes ∷ [])).parts

unfoldable pub tree_of : List ℕ → TreeValue
tree_of bytes = record { header = header_of bytes; alternative = is_alternative (message_of bytes).content.mime; parts = parts_of bytes }

-- a part is a place of the message
pub record IsPlaced (bytes : List ℕ) (p : PartValue) : Type 0 where
  pub within : p.start + length p.bytes ≤ length bytes
  pub is : p.bytes ≡ slice_range bytes p.start (p.start + length p.bytes)

-- a node at a place of the message, whose section is no longer than the node is deep
pub record IsSound (bytes : List ℕ) (n : Node) : Type 0 where
  pub ordered : n.body ≤ n.to
  pub within : n.to ≤ length bytes
  pub short : length (prefix_of n.position) ≤ n.around
  pub shallow : n.around ≤ 33
