-- Laws of every tree.
use Rattle.std.specs.Prelude.{◌≡◌, ◌≢◌, ℕ, ◌+◌, ◌<◌, ◌≤◌, true, false, List, [], ◌∷◌, ◌++◌, length, take, Some, IfSome, unwrap_or, slice_range}
use Rattle.std.specs.List.{All, AllPairs, Contains}
use Rattle.std.specs.Str.Lines.{lines}
use Rattle.mime_tree.specs.declared.node.Node.{Node}
use Rattle.mime_tree.specs.Body.{is_delimiter_line}
use Rattle.mime_tree.specs.Content.{is_multipart}
use Rattle.mime_tree.specs.Tree.{PartValue, TreeValue}
use Rattle.mime_tree.specs.Best.{counts, taken_in, leaf_to_show}
use Rattle.mime_tree.specs.Opening.{children_of, tree_after_steps, message_of, parts_of, own_parts, part_of, is_raw, opens_beside}

-- nothing waits unopened after the steps of the definition
abbrev pub NothingWaits : List ℕ → Type 0
NothingWaits bytes = (tree_after_steps bytes 2001 [] (message_of bytes ∷ [])).waiting ≡ []

-- no two parts have one section
abbrev pub HasDistinctSections : List PartValue → Type 0
HasDistinctSections parts = AllPairs (λ (p q : PartValue). p.section ≢ q.section) parts

-- no line of a node's body is a delimiter line of a boundary
abbrev pub IsClear : List ℕ → List ℕ → Node → Type 0
IsClear bytes boundary n = All (λ line. is_delimiter_line boundary line ≡ false) (lines (slice_range bytes n.body n.to))

-- a node whose body is a place of the message
pub record HasPlace (bytes : List ℕ) (n : Node) : Type 0 where
  pub ordered : n.body ≤ n.to
  pub within : n.to ≤ length bytes

-- the nodes in a node, however deep
pub data IsInside (bytes : List ℕ) (n : Node) : Node → Type 0 where
  direct : (c : Node) → Contains (children_of bytes n) c → IsInside bytes n c
  deeper : (m c : Node) → IsInside bytes n m → Contains (children_of bytes m) c → IsInside bytes n c

-- no line of a part is a delimiter line of a multipart around it
abbrev pub OuterLinesEndParts : List ℕ → Type 0
OuterLinesEndParts bytes = (n c : Node) → HasPlace bytes n → is_multipart n.content.mime ≡ true → IsInside bytes n c → IsClear bytes (unwrap_or n.content.boundary []) c

-- How the waiting nodes of a tree are opened, without counting steps. The first that waits is opened if it may be and the tree has
-- at most 1,000 parts then, each node that still waits counted as one part; else it is a leaf.
pub data OpensTo (bytes : List ℕ) : List PartValue → List Node → List PartValue → Type 0 where
  all_open : (parts : List PartValue) → OpensTo bytes parts [] parts
  opens_first : (parts : List PartValue) (n : Node) (rest : List Node) (tree : List PartValue) → opens_beside bytes (length parts + length rest) n ≡ true → OpensTo bytes (parts ++ own_parts bytes n) (children_of bytes n ++ rest) tree → OpensTo bytes parts (n ∷ rest) tree
  leaf_first : (parts : List PartValue) (n : Node) (rest : List Node) (tree : List PartValue) → opens_beside bytes (length parts + length rest) n ≡ false → OpensTo bytes (parts ++ part_of bytes n (is_raw n.content) ∷ []) rest tree → OpensTo bytes parts (n ∷ rest) tree

-- the tree of a message is what its nodes open to
abbrev pub OpensMessage : List ℕ → Type 0
OpensMessage bytes = OpensTo bytes [] (message_of bytes ∷ []) (parts_of bytes)

-- a multipart chooses the child that a part is in: the one of the leaf that `taken_in` finds
pub record ChoosesChild (t : TreeValue) (around : List ℕ) (p : PartValue) : Type 0 where
  pub leaf : PartValue
  pub chosen : taken_in t around ≡ Some leaf
  pub same_child : take (length around + 1) leaf.section ≡ take (length around + 1) p.section

-- the leaf to show is a text or a page that counts, and each multipart around it, from the message on, chooses the child that the
-- leaf is in: in an alternative the child of the last leaf that counts, in any other multipart that of the first
pub record IsLeafToShow (t : TreeValue) (p : PartValue) : Type 0 where
  pub may_be_shown : counts p ≡ true
  pub chosen : (k : ℕ) → k < length p.section → ChoosesChild t (take k p.section) p

abbrev pub GivesLeafToShow : TreeValue → Type 0
GivesLeafToShow t = IfSome (leaf_to_show 40 t []) (IsLeafToShow t)
