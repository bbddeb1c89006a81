-- What the code's structs hold, in the terms of the definitions.
use Rattle.std.specs.Prelude.{◌≡◌, ℕ, ◌<◌, ◌≤◌, ◌+◌, false, IfSome, None, List, [], length, position, get_or, pos}
use Rattle.std.specs.List.{All}
use Rattle.std.specs.BTreeMap.{get_by}
use Rattle.std.specs.Cmp.Lexicographic.{slice_cmp}
use Rattle.std.specs.Ordering.{nat_cmp}
use Rattle.thread_places.specs.declared.facts.Facts.{Facts}
use Rattle.thread_places.specs.declared.names.Names.{Names}
use Rattle.thread_places.specs.declared.numbering.Numberer.{Numberer}
use Rattle.thread_places.specs.declared.places.Seen.{Seen}
use Rattle.thread_places.specs.declared.linking.Links.{Links}
use Rattle.thread_places.specs.Links.{HasLinks, is_among}
use Rattle.thread_places.specs.Messages.{Name, Entry, References, Numbering, nodes, is_named, number_messages, links_of}

-- what the definitions read past the end of a list
abbrev pub no_facts : Facts
no_facts = record { uid = 0; id = None; references = []; subject = record { text = []; reply = false }; sent = pos 0 }

abbrev pub no_entry : Entry
no_entry = record { references = []; node = 0 }

-- the nodes' names, and the nodes of the messages so far
pub record Known : Type 0 where
  pub names : List Name
  pub nodes : List ℕ

-- the messages so far, and the references of the next
pub record Pending : Type 0 where
  pub messages : List Entry
  pub references : References

-- the numbers are those of these names, and the nodes that messages have are flagged
pub record HasNames (names : List Name) (nodes : List ℕ) (t : Names) : Type 0 where
  pub count : length t.taken.items ≡ length names
  pub number : (id : List ℕ) → get_by (λ k. slice_cmp nat_cmp id k.items) t.numbers ≡ position (is_named id) names
  pub taken : (node : ℕ) → node < length names → get_or t.taken.items node false ≡ is_among node nodes
  pub inside : All (λ node. node < length names) nodes

pub record IsNumbered (n : Numbering) (t : Numberer) : Type 0 where
  pub names : HasNames n.names (nodes n.messages) t.names
  pub entries : t.entries.items ≡ n.messages

-- the nodes of these messages and the links between them
pub record IsLinked (facts : List Facts) (l : Links) : Type 0 where
  pub numbered : IsNumbered (number_messages facts) l.numberer
  pub holds : HasLinks (links_of (number_messages facts).messages) l.arena
  pub size : length l.arena.parents ≡ length (number_messages facts).names
  pub stamp : l.arena.stamp ≤ length facts + 1

-- the nodes of messages, and those that they refer to
abbrev pub AreBelow : ℕ → List Entry → Type 0
AreBelow count entries = All (λ e. (e.node < count) × All (λ node. node < count) e.references) entries

-- the nodes of what was seen are inside the arena
abbrev pub AreSeen : ℕ → List Seen → Type 0
AreSeen count seen = All (λ s. IfSome s.parent (λ p. p < count) × (s.top < count)) seen
