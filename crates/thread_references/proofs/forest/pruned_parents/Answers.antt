use Rattle.std.proofs.Common.{◌≡◌, length, subst, ap, ◌∙◌, arith}
use Rattle.std.specs.Prelude.{IfOk}
use Rattle.thread_places.proofs.PlaceLemmas.{length_places}
use Rattle.thread_references.specs.Trees.{prune}
use Rattle.thread_references.specs.Subjects.{pruned_parents}
use Rattle.thread_references.proofs.forest.pruned_parents.Goals as goal

pub prune-requires-clause-room : goal.prune-requires-clause-room
prune-requires-clause-room c =
    let long = ap length (c.deref.ensures.value ∙ c.in_ok-found.ensures.places) ∙ length_places c.args.linked.now in
    let room = c.in_ok-found.ensures.few in
    omega (arith, long, room)

pub returns : goal.returns
unfolding pruned_parents
returns c = subst (λ l. IfOk c.prune.result (λ parents. parents.items ≡ prune l)) (c.deref.ensures.value ∙ c.in_ok-found.ensures.places) c.prune.ensures
