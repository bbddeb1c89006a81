use Rattle.std.proofs.Common.{subst, sym}
use Rattle.std.specs.Prelude.{◌≡◌, OnOk, IfOk}
use Rattle.thread_places.specs.Numbers.{HasNames}
use Rattle.thread_places.specs.Messages.{own_name, add_name, number_for}
use Rattle.thread_places.proofs.names.Names.number_own.Goals as goal

pub returns-in-None-clause-names : goal.returns-in-None-clause-names
unfolding own_name add_name
returns-in-None-clause-names g c =
    subst (λ o. OnOk c.add_own.result (HasNames (add_name g.known.names (own_name g.known.names g.known.nodes o)) g.known.nodes c.add_own.new.self)) (sym c.in-None.is) c.add_own.ensures.names

pub returns-in-None-clause-number : goal.returns-in-None-clause-number
unfolding own_name number_for
returns-in-None-clause-number g c =
    subst (λ o. IfOk c.add_own.result (λ number. number ≡ number_for g.known.names (own_name g.known.names g.known.nodes o))) (sym c.in-None.is) c.add_own.ensures.number
