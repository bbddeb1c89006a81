use Rattle.std.proofs.Common.{◌≡◌, ◌++◌, ◌∷◌, [], arith, ap, ◌∙◌, sym, append-nil}
use Rattle.std.specs.Prelude.{All, reverse}
use Rattle.mime_tree.specs.Opening.{Opened, own_parts, IsPlaced}
use Rattle.mime_tree.proofs.OpeningLemmas.{leaf_settles, open_settles, own_hidden, own_part, all_back}
use Rattle.mime_tree.proofs.TreeLaws.{all_placed, all_same}
use Rattle.mime_tree.proofs.opening.settle_next.Goals as goal
use Rattle.mime_tree.proofs.opening.settle_next.Goals.{then-not-is_hidden+in_ok-push-2, else-not-is_hidden}

pub returns-in_default : goal.returns-in_default
returns-in_default c =
    let none = rw c.in_default.is at c.in_ok-children.ensures.none in
    let settled = leaf_settles c.args.bytes.now c.args.found.now.items c.push.new.self.items c.args.next c.args.waiting.now.items _ c.is_raw-raw.result c.part.result (omega (arith, c.len.ensures, c.len-2.ensures)) none c.is_raw-raw.ensures c.part.ensures.equals c.in_ok-push.ensures.items in
    record {
      parts = sym (ap (λ (t : Opened). t.parts) settled);
      waiting = sym (ap (λ (t : Opened). t.waiting) settled);
      all = c.requires.all;
      placed = all_placed c.args.bytes.now c.args.found.now.items c.push.new.self.items c.part.result c.in_ok-push.ensures.items c.part.ensures.placed c.requires.placed;
    }

pub returns : goal.returns
returns c =
    let next = c.args.next in
    let some = rw c.in-Some.is at c.in_ok-children.ensures.equals in
    let tree_after_steps = rw c.in-Some.is at c.in_ok-children.ensures.opens in
    let sound = rw c.in-Some.is at c.in_ok-children.ensures.all in
    let items : c.if-not-is_hidden.found.items ≡ c.args.found.now.items ++ own_parts c.args.bytes.now next =
    elim c.if-not-is_hidden.branch [
      | then-not-is_hidden+in_ok-push-2 w ↦
          ap (λ v. v.items) w.found-is ∙ w.in_ok-push-2.ensures.items ∙ ap (λ p. c.args.found.now.items ++ p ∷ []) w.part-then-not-is_hidden.ensures.equals
          ∙ ap (λ ps. c.args.found.now.items ++ ps) (sym (own_part c.args.bytes.now next w.if-not-is_hidden.ensures))
      | else-not-is_hidden w ↦
          ap (λ v. v.items) w.found-is ∙ sym (append-nil c.args.found.now.items)
          ∙ ap (λ ps. c.args.found.now.items ++ ps) (sym (own_hidden c.args.bytes.now next w.if-not-is_hidden.ensures))
    ] in
    let placed : All (IsPlaced c.args.bytes.now) c.if-not-is_hidden.found.items =
    elim c.if-not-is_hidden.branch [
      | then-not-is_hidden+in_ok-push-2 w ↦ all_placed c.args.bytes.now c.args.found.now.items c.if-not-is_hidden.found.items w.part-then-not-is_hidden.result (ap (λ v. v.items) w.found-is ∙ w.in_ok-push-2.ensures.items) w.part-then-not-is_hidden.ensures.placed c.requires.placed
      | else-not-is_hidden w ↦ all_same c.args.bytes.now c.args.found.now.items c.if-not-is_hidden.found.items (ap (λ v. v.items) w.found-is) c.requires.placed
    ] in
    let settled = open_settles c.args.bytes.now c.args.found.now.items c.if-not-is_hidden.found.items next c.args.waiting.now.items (reverse c.put_back.new.waiting.items) c.in-Some.children.items _ (omega (arith, c.len.ensures, c.len-2.ensures)) tree_after_steps items some c.in_ok-put_back.ensures in
    record {
      parts = sym (ap (λ (t : Opened). t.parts) settled);
      waiting = sym (ap (λ (t : Opened). t.waiting) settled);
      all = all_back c.args.bytes.now c.in-Some.children.items (reverse c.args.waiting.now.items) (reverse c.put_back.new.waiting.items) c.in_ok-put_back.ensures sound c.requires.all;
      placed = placed;
    }
