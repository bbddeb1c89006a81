use Rattle.std.proofs.Common.{◌≡◌, ◌+◌, ◌-◌, ◌++◌, ◌∷◌, [], length, get_or, sym, ap, ◌∙◌, arith, rules}
use Rattle.std.specs.Prelude.{reverse}
use Rattle.thread_references.specs.Listing.{Waiting, at_depth, rows_of, list_from}
use Rattle.thread_references.proofs.ListingLemmas.{list_turn, list_nothing, list_no_steps}
use Rattle.thread_references.proofs.listing.list_from.Goals as goal

pub returns-in_default : goal.returns-in_default
returns-in_default c =
    let uids = c.args.uids.now in
    let empty : c.loop-step.waiting.items ≡ [] = search rules in
    sym (list_nothing uids c.args.children.now (length uids + length uids - c.loop-step.step) c.loop-step.rows.items c.loop-step.waiting.items empty) ∙ c.loop-step.invariant

pub loop-step-preserved : goal.loop-step-preserved
loop-step-preserved c =
    let uids = c.args.uids.now in
    let children = c.args.children.now in
    let total = length uids + length uids in
    let step = c.loop-step.step in
    let rows = c.loop-step.rows.items in
    let rest = c.pop.new.self.items in
    let w : Waiting = (c.in-Some.node, c.in-Some.depth) in
    let is : c.loop-step.waiting.items ≡ rest ++ w ∷ [] = search rules in
    let below : c.in-Some-checked_add.below ≡ c.in-Some.depth + 1 = search rules in
    let waits : c.wait_for.new.waiting.items ≡ rest ++ reverse (at_depth (c.in-Some.depth + 1) (get_or children c.in-Some.node [])) =
    c.in_ok-wait_for.ensures ∙ ap (λ d. rest ++ reverse (at_depth d c.children_at.result.now)) below ∙ ap (λ l. rest ++ reverse (at_depth (c.in-Some.depth + 1) l)) c.children_at.ensures in
    ap (λ l. l ++ list_from uids children (total - (step + 1)) (reverse c.wait_for.new.waiting.items)) c.in_ok-push_row.ensures
    ∙ ap (λ l. (rows ++ rows_of uids w) ++ list_from uids children (total - (step + 1)) (reverse l)) waits
    ∙ sym (list_turn uids children total step rows c.loop-step.waiting.items rest w is (omega arith))
    ∙ c.loop-step.invariant

pub returns : goal.returns
returns c =
    let uids = c.args.uids.now in
    let children = c.args.children.now in
    let none : 0 ≡ length uids + length uids - c.loop-step.step = omega arith in
    sym (list_no_steps uids children c.loop-step.rows.items (reverse c.loop-step.waiting.items))
    ∙ ap (λ k. c.loop-step.rows.items ++ list_from uids children k (reverse c.loop-step.waiting.items)) none
    ∙ c.loop-step.invariant
