use Rattle.std.proofs.Common.{◌++◌, ◌∷◌, [], arith, ap, ◌∙◌, sym, length}
use Rattle.std.specs.Prelude.{unwrap_or, slice_range}
use Rattle.mime_tree.specs.Body.{places}
use Rattle.mime_tree.specs.Opening.{children_from}
use Rattle.mime_tree.proofs.OpeningLemmas.{inside_message, inside_multipart, children_length}
use Rattle.mime_tree.proofs.opening.inside_within.Goals as goal

pub returns-then-most-eq0-clause-many : goal.returns-then-most-eq0-clause-many
returns-then-most-eq0-clause-many c = omega (arith, ap length (inside_message c.args.bytes.now c.args.node.now c.if-not-is_multipart.ensures), c.if-most-eq0.true)

pub returns-then-not-is_multipart-clause-all : goal.returns-then-not-is_multipart-clause-all
returns-then-not-is_multipart-clause-all c =
    c.in_ok-push.ensures.items ∙ ap (λ xs. xs ++ c.in_ok-one.one ∷ []) c.new-nodes.ensures.items ∙ ap (λ n. n ∷ []) c.in_ok-one.ensures.equals
    ∙ sym (inside_message c.args.bytes.now c.args.node.now c.if-not-is_multipart.ensures)

pub returns-in_default-clause-many : goal.returns-in_default-clause-many
returns-in_default-clause-many c =
    let bytes = c.args.bytes.now in
    let node = c.args.node.now in
    let text = slice_range bytes node.body node.to in
    let many = rw c.in_default.is at c.in_ok-ranges.ensures.many in
    omega (arith, many, ap length (inside_multipart bytes node c.if-not-is_multipart.ensures), children_length bytes node 1 (places (unwrap_or node.content.boundary []) text), ap (λ b. length (places b text)) c.boundary.ensures)

pub returns-clause-all : goal.returns-clause-all
returns-clause-all c =
    let bytes = c.args.bytes.now in
    let node = c.args.node.now in
    let text = slice_range bytes node.body node.to in
    let all = rw c.in-Some.is at c.in_ok-ranges.ensures.all in
    c.in_ok-nodes.ensures.equals ∙ ap (children_from bytes node 1) (c.deref.ensures.value ∙ all ∙ ap (λ b. places b text) c.boundary.ensures) ∙ sym (inside_multipart bytes node c.if-not-is_multipart.ensures)

pub returns-clause-few : goal.returns-clause-few
returns-clause-few c =
    let few = rw c.in-Some.is at c.in_ok-ranges.ensures.few in
    omega (arith, ap length c.in_ok-nodes.ensures.equals, children_length c.args.bytes.now c.args.node.now 1 c.deref.result.now, ap length c.deref.ensures.value, few)
