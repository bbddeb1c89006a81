use Rattle.std.proofs.Common.{◌≡◌, sym, ap, ◌∙◌, subst}
use Rattle.std.specs.Prelude.{slice_range}
use Rattle.mime_tree.specs.Tree.{PartValue}
use Rattle.mime_tree.specs.Opening.{IsPlaced, part_of, part_value}
use Rattle.mime_tree.proofs.TreeLaws.{part_placed}
use Rattle.mime_tree.proofs.opening.part.Goals as goal

pub returns-clause-placed : goal.returns-clause-placed
returns-clause-placed c =
    let n = c.args.node in
    let bytes = c.args.bytes.now in
    let e : c.new.result ≡ part_of bytes n c.args.raw = c.new.ensures ∙ ap (λ s. part_value s n.enclosed c.args.raw n.content n.body (slice_range bytes n.body n.to)) c.section.ensures in
    subst (λ (p : PartValue). IsPlaced bytes p) (sym e) (part_placed bytes n c.args.raw c.requires)
