-- A tree has at most 1,000 parts, and nothing waits when the steps are done.
use Rattle.std.proofs.Common.{◌≡◌, ℕ, zero, suc, ◌+◌, ◌-◌, ◌≤◌, inl, inr, Bool, List, [], ◌∷◌, ◌++◌, length, take, drop, sym, ap, subst, arith, length-append, length-drop}
use Rattle.std.proofs.lemmas.Bool.{cases_Bool}
use Rattle.std.proofs.lemmas.List.{length-take-le}
use Rattle.std.proofs.lemmas.List.Elements.{All-push, All-nil}
use Rattle.std.specs.Prelude.{All}
use Rattle.mime_tree.specs.declared.node.Node.{Node}
use Rattle.mime_tree.specs.Tree.{PartValue}
use Rattle.mime_tree.specs.Opening.{Opened, node_at, children_of, own_parts, part_of, is_raw, opens_beside, tree_after_steps, parts_of, message_of, IsSound, IsPlaced}
use Rattle.mime_tree.specs.Laws.{NothingWaits}
use Rattle.mime_tree.proofs.OpeningLemmas.{enough, opens_size, settle_open, settle_leaf}

opened_few : (bytes : List ℕ) (steps : ℕ) (parts : List PartValue) (waiting : List Node) → length parts + length waiting ≤ 1000 → length (tree_after_steps bytes steps parts waiting).parts ≤ 1000
unfolding tree_after_steps
opened_few bytes steps parts [] size = omega arith
opened_few bytes zero parts (n ∷ rest) size = omega arith
opened_few bytes (suc steps) parts (n ∷ rest) size =
    elim (cases_Bool (opens_beside bytes (length parts + length rest) n)) [
      | inl yes' ↦
          let fits = opens_size bytes (length parts + length rest) n yes' in
          subst (λ (t : Opened). length (tree_after_steps bytes steps t.parts t.waiting).parts ≤ 1000) (sym (settle_open bytes parts n rest yes'))
          (opened_few bytes steps (parts ++ own_parts bytes n) (children_of bytes n ++ rest) (omega (arith, fits, length-append parts (own_parts bytes n), length-append (children_of bytes n) rest)))
      | inr no' ↦
          let leaf = part_of bytes n (is_raw n.content) in
          subst (λ (t : Opened). length (tree_after_steps bytes steps t.parts t.waiting).parts ≤ 1000) (sym (settle_leaf bytes parts n rest no'))
          (opened_few bytes steps (parts ++ leaf ∷ []) rest (omega (arith, length-append parts (leaf ∷ []))))
    ]

pub few_parts : (bytes : List ℕ) → length (parts_of bytes) ≤ 1000
unfolding parts_of
few_parts bytes = opened_few bytes 2001 [] (message_of bytes ∷ []) (omega arith)

pub nothing_waits : (bytes : List ℕ) → NothingWaits bytes
unfolding message_of node_at
nothing_waits bytes = enough bytes 2001 [] (message_of bytes ∷ []) (omega arith) (omega arith)

-- the part of a node is at the place of the node
pub part_placed : (bytes : List ℕ) (n : Node) (raw : Bool) → IsSound bytes n → IsPlaced bytes (part_of bytes n raw)
part_placed bytes n raw h =
    let size : length (take (n.to - n.body) (drop n.body bytes)) ≡ n.to - n.body = length-take-le (n.to - n.body) (drop n.body bytes) (omega (arith, h.ordered, h.within, length-drop n.body bytes)) in
    let end : n.body + length (take (n.to - n.body) (drop n.body bytes)) ≡ n.to = omega (arith, size, h.ordered) in
    record {
      within = omega (arith, end, h.within);
      is = ap (λ k. take (k - n.body) (drop n.body bytes)) (sym end);
    }

pub all_placed : (bytes : List ℕ) (parts now : List PartValue) (p : PartValue) → now ≡ parts ++ p ∷ [] → IsPlaced bytes p → All (IsPlaced bytes) parts → All (IsPlaced bytes) now
all_placed bytes parts now p e h all = subst (λ (ps : List PartValue). All (IsPlaced bytes) ps) (sym e) (All-push (IsPlaced bytes) parts p all h)

pub all_same : (bytes : List ℕ) (parts now : List PartValue) → now ≡ parts → All (IsPlaced bytes) parts → All (IsPlaced bytes) now
all_same bytes parts now e all = subst (λ (ps : List PartValue). All (IsPlaced bytes) ps) (sym e) all

pub none_placed : (bytes : List ℕ) (parts : List PartValue) → parts ≡ [] → All (IsPlaced bytes) parts
none_placed bytes parts e = all_same bytes [] parts e (All-nil (IsPlaced bytes))
