use Rattle.std.proofs.Common.{◌≡◌, length, ◌∙◌, rules}
use Rattle.std.specs.Prelude.{Some}
use Rattle.thread_places.proofs.NumberLemmas.{place_inserted, names_pushed}
use Rattle.thread_places.proofs.names.Names.insert.Goals as goal

pub returns-clause-names : goal.returns-clause-names
returns-clause-names g c =
    let has = c.requires.0 in
    let count : c.len-number.result ≡ length c.args.self.now.taken.items = search rules in
    names_pushed g.known.names (Some c.args.id.now) g.known.nodes c.args.self.now _ has c.in_ok-push.ensures.items
    (λ id. place_inserted (λ k. k.items) g.known.names c.args.id.now c.in_ok-key.key.items c.len-number.result c.args.self.now.numbers c.insert.new.self c.in_ok-key.ensures.items (count ∙ has.count) has.number c.requires.1 c.in_ok-insert.ensures.updates id)
