use Rattle.std.proofs.Common.{◌≡◌, refl, subst, sym, ap, ◌∙◌, rules}
use Rattle.std.specs.Prelude.{Some, None, length, position}
use Rattle.thread_places.specs.declared.names.Names.{Names}
use Rattle.thread_places.specs.Numbers.{HasNames}
use Rattle.thread_places.specs.Messages.{is_named, number_of}
use Rattle.thread_places.proofs.NumberLemmas.{known_id, new_id, number_at, place_inserted, place_restored, names_pushed, same_names}
use Rattle.thread_places.proofs.names.Names.add_likely_id.Goals as goal

pub returns-in-Some-clause-names : goal.returns-in-Some-clause-names
returns-in-Some-clause-names g c =
    let has = c.requires in
    let at = number_at (λ k. k.items) g.known.names c.args.id.now c.in_ok-key.key.items c.args.self.now.numbers c.in_ok-kept.field-0 c.in_ok-key.ensures.items has.number c.in_ok-kept.ensures.old in
    let there = sym c.in-Some.is ∙ at in
    let known = known_id g.known.names c.args.id.now c.in-Some.kept there in
    let new : Names = record { numbers = c.insert-in-Some.new.self; taken = c.args.self.now.taken } in
    subst (λ l. HasNames l g.known.nodes new) (sym known.0)
    (same_names g.known.names g.known.nodes c.args.self.now new has refl
    (place_restored (λ k. k.items) g.known.names c.args.id.now c.in_ok-key.key.items c.in_ok-again.again.items c.len-number.result c.in-Some.kept c.args.self.now.numbers c.insert.new.self c.insert-in-Some.new.self
    c.in_ok-key.ensures.items c.in_ok-again.ensures.items has.number there c.in_ok-kept.ensures.updates c.in_ok-insert.ensures.updates))

pub returns-in-Some-clause-number : goal.returns-in-Some-clause-number
returns-in-Some-clause-number g c =
    let at = number_at (λ k. k.items) g.known.names c.args.id.now c.in_ok-key.key.items c.args.self.now.numbers c.in_ok-kept.field-0 c.in_ok-key.ensures.items c.requires.number c.in_ok-kept.ensures.old in
    let known = known_id g.known.names c.args.id.now c.in-Some.kept (sym c.in-Some.is ∙ at) in
    known.1 ∙ ap (λ l. number_of l c.args.id.now) (sym known.0)

pub returns-clause-names : goal.returns-clause-names
returns-clause-names g c =
    let has = c.requires in
    let count : c.len-number.result ≡ length c.args.self.now.taken.items = search rules in
    let at = number_at (λ k. k.items) g.known.names c.args.id.now c.in_ok-key.key.items c.args.self.now.numbers c.in_ok-kept.field-0 c.in_ok-key.ensures.items has.number c.in_ok-kept.ensures.old in
    let absent : position (is_named c.args.id.now) g.known.names ≡ None = sym at ∙ c.in_default.is in
    let fresh = new_id g.known.names c.args.id.now absent in
    let new : Names = record { numbers = c.insert.new.self; taken = c.push.new.self } in
    subst (λ l. HasNames l g.known.nodes new) (sym fresh.0)
    (names_pushed g.known.names (Some c.args.id.now) g.known.nodes c.args.self.now new has c.in_ok-push.ensures.items
    (λ id. place_inserted (λ k. k.items) g.known.names c.args.id.now c.in_ok-key.key.items c.len-number.result c.args.self.now.numbers c.insert.new.self c.in_ok-key.ensures.items (count ∙ has.count) has.number absent c.in_ok-kept.ensures.updates id))

pub returns-clause-number : goal.returns-clause-number
returns-clause-number g c =
    let has = c.requires in
    let count : c.len-number.result ≡ length c.args.self.now.taken.items = search rules in
    let at = number_at (λ k. k.items) g.known.names c.args.id.now c.in_ok-key.key.items c.args.self.now.numbers c.in_ok-kept.field-0 c.in_ok-key.ensures.items has.number c.in_ok-kept.ensures.old in
    let fresh = new_id g.known.names c.args.id.now (sym at ∙ c.in_default.is) in
    count ∙ has.count ∙ sym fresh.1
