-- The tree as its nodes open, without counting steps.
use Rattle.std.proofs.Common.{◌≡◌, ℕ, zero, suc, ◌+◌, inl, inr, List, [], ◌∷◌, ◌++◌, length, sym, subst}
use Rattle.std.proofs.lemmas.Bool.{cases_Bool}
use Rattle.mime_tree.specs.declared.node.Node.{Node}
use Rattle.mime_tree.specs.Tree.{PartValue}
use Rattle.mime_tree.specs.Opening.{Opened, tree_after_steps, own_parts, children_of, part_of, is_raw, opens_beside, message_of, parts_of}
use Rattle.mime_tree.specs.Laws.{OpensTo, OpensMessage}
use Rattle.mime_tree.specs.Laws.OpensTo.{all_open, opens_first, leaf_first}
use Rattle.mime_tree.proofs.OpeningLemmas.{settle_open, settle_leaf}
use Rattle.mime_tree.proofs.TreeLaws.{nothing_waits}

opens_to : (bytes : List ℕ) (steps : ℕ) (parts : List PartValue) (waiting : List Node) → (tree_after_steps bytes steps parts waiting).waiting ≡ [] → OpensTo bytes parts waiting (tree_after_steps bytes steps parts waiting).parts
unfolding tree_after_steps
opens_to bytes zero parts [] h = all_open parts
opens_to bytes (suc steps) parts [] h = all_open parts
opens_to bytes zero parts (n ∷ rest) h = absurd (cc)
opens_to bytes (suc steps) parts (n ∷ rest) h =
    elim (cases_Bool (opens_beside bytes (length parts + length rest) n)) [
      | inl opens ↦
          let e = settle_open bytes parts n rest opens in
          let none : (tree_after_steps bytes steps (parts ++ own_parts bytes n) (children_of bytes n ++ rest)).waiting ≡ [] = subst (λ (t : Opened). (tree_after_steps bytes steps t.parts t.waiting).waiting ≡ []) e h in
          subst (λ (t : Opened). OpensTo bytes parts (n ∷ rest) (tree_after_steps bytes steps t.parts t.waiting).parts) (sym e)
          (opens_first parts n rest (tree_after_steps bytes steps (parts ++ own_parts bytes n) (children_of bytes n ++ rest)).parts opens (opens_to bytes steps (parts ++ own_parts bytes n) (children_of bytes n ++ rest) none))
      | inr leaf ↦
          let e = settle_leaf bytes parts n rest leaf in
          let p = part_of bytes n (is_raw n.content) in
          let none : (tree_after_steps bytes steps (parts ++ p ∷ []) rest).waiting ≡ [] = subst (λ (t : Opened). (tree_after_steps bytes steps t.parts t.waiting).waiting ≡ []) e h in
          subst (λ (t : Opened). OpensTo bytes parts (n ∷ rest) (tree_after_steps bytes steps t.parts t.waiting).parts) (sym e)
          (leaf_first parts n rest (tree_after_steps bytes steps (parts ++ p ∷ []) rest).parts leaf (opens_to bytes steps (parts ++ p ∷ []) rest none))
    ]

pub opens_message : (bytes : List ℕ) → OpensMessage bytes
unfolding parts_of
opens_message bytes = opens_to bytes 2001 [] (message_of bytes ∷ []) (nothing_waits bytes)
