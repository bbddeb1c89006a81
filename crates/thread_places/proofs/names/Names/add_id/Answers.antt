use Rattle.std.proofs.Common.{subst, sym, ap, ◌∙◌, rules}
use Rattle.std.specs.Prelude.{◌≡◌, OnOk, IfOk}
use Rattle.thread_places.specs.Numbers.{HasNames}
use Rattle.thread_places.specs.Messages.{number_of}
use Rattle.thread_places.proofs.NumberLemmas.{known_id, new_id}
use Rattle.thread_places.proofs.names.Names.add_id.Goals as goal

pub returns-in-Some-clause-names : goal.returns-in-Some-clause-names
returns-in-Some-clause-names g c =
    let known = known_id g.known.names c.args.id.now c.in-Some.number (search rules) in
    subst (λ l. HasNames l g.known.nodes c.args.self.now) (sym known.0) c.requires

pub returns-in-Some-clause-number : goal.returns-in-Some-clause-number
returns-in-Some-clause-number g c =
    let known = known_id g.known.names c.args.id.now c.in-Some.number (search rules) in
    known.1 ∙ ap (λ l. number_of l c.args.id.now) (sym known.0)

pub returns-in-None-clause-names : goal.returns-in-None-clause-names
returns-in-None-clause-names g c =
    let fresh = new_id g.known.names c.args.id.now (search rules) in
    subst (λ l. OnOk c.insert.result (HasNames l g.known.nodes c.insert.new.self)) (sym fresh.0) c.insert.ensures.names

pub returns-in-None-clause-number : goal.returns-in-None-clause-number
returns-in-None-clause-number g c =
    let fresh = new_id g.known.names c.args.id.now (search rules) in
    subst (λ n. IfOk c.insert.result (λ number. number ≡ n)) (sym fresh.1) c.insert.ensures.number
