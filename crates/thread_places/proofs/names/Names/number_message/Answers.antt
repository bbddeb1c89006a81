use Rattle.std.proofs.Common.{subst, ◌++◌, ◌∷◌, []}
use Rattle.thread_places.specs.Numbers.{HasNames}
use Rattle.thread_places.specs.Messages.{own_name, add_name}
use Rattle.thread_places.proofs.NumberLemmas.{names_taken}
use Rattle.thread_places.proofs.names.Names.number_message.Goals as goal

pub returns-clause-names : goal.returns-clause-names
returns-clause-names g c =
    let e = c.in_ok-node.ensures in
    subst (λ n. HasNames (add_name g.known.names (own_name g.known.names g.known.nodes c.args.id.now)) (g.known.nodes ++ n ∷ []) c.take.new.self) e.number
    (names_taken (add_name g.known.names (own_name g.known.names g.known.nodes c.args.id.now)) g.known.nodes c.in_ok-node.node _ c.take.new.self e.names e.inside c.take.ensures.taken c.take.ensures.numbers)
