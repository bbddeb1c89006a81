use Rattle.std.proofs.Common.{sym, ◌∙◌}
use Rattle.std.specs.Prelude.{None}
use Rattle.thread_places.proofs.NumberLemmas.{own_place, names_pushed}
use Rattle.thread_places.proofs.names.Names.add_own.Goals as goal

pub returns-clause-names : goal.returns-clause-names
returns-clause-names g c =
    names_pushed g.known.names None g.known.nodes c.args.self.now _ c.requires c.in_ok-push.ensures.items (λ id. c.requires.number id ∙ sym (own_place g.known.names id))
