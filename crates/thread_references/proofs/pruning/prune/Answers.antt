use Rattle.std.proofs.Common.{◌≡◌, ◌++◌, length, map, ap, ◌∙◌, arith}
use Rattle.std.specs.Prelude.{None, replicate}
use Rattle.thread_references.specs.Trees.{pruned_parent, prune}
use Rattle.thread_references.proofs.pruning.prune.Goals as goal

pub returns : goal.returns
unfolding prune
returns c =
    let n : c.loop-more.more ≡ length c.args.places.now = omega arith in
    c.loop-more.invariant ∙ ap (λ k. map (λ p. pruned_parent c.args.places.now p.top p.above) c.args.places.now ++ replicate k None) n
