use Rattle.std.proofs.Common.{subst, sym, ap, ◌∙◌, rules}
use Rattle.std.specs.Prelude.{◌≡◌, OnOk, IfOk, Some, None, position}
use Rattle.thread_places.specs.Numbers.{HasNames}
use Rattle.thread_places.specs.Messages.{is_named, number_of, add_name, number_for}
use Rattle.thread_places.proofs.NumberLemmas.{known_id, new_id, own_taken, own_free, own_new, position_less}
use Rattle.thread_places.proofs.names.Names.number_named.Goals as goal

pub returns-in-Some-clause-names : goal.returns-in-Some-clause-names
unfolding add_name
returns-in-Some-clause-names g c =
    let there : Some c.in-Some.number ≡ position (is_named c.args.id.now) g.known.names = search rules in
    let less = position_less g.known.names c.args.id.now c.in-Some.number there in
    let own = own_taken g.known.names g.known.nodes c.args.id.now c.in-Some.number there (sym (c.requires.taken c.in-Some.number less) ∙ sym c.is_taken.ensures ∙ c.if-is_taken.true) in
    subst (λ n. OnOk c.add_own.result (HasNames (add_name g.known.names n) g.known.nodes c.add_own.new.self)) (sym own) c.add_own.ensures.names

pub returns-in-Some-clause-number : goal.returns-in-Some-clause-number
unfolding number_for
returns-in-Some-clause-number g c =
    let there : Some c.in-Some.number ≡ position (is_named c.args.id.now) g.known.names = search rules in
    let less = position_less g.known.names c.args.id.now c.in-Some.number there in
    let own = own_taken g.known.names g.known.nodes c.args.id.now c.in-Some.number there (sym (c.requires.taken c.in-Some.number less) ∙ sym c.is_taken.ensures ∙ c.if-is_taken.true) in
    subst (λ n. IfOk c.add_own.result (λ number. number ≡ number_for g.known.names n)) (sym own) c.add_own.ensures.number

pub returns-in-Some-2-clause-names : goal.returns-in-Some-2-clause-names
unfolding add_name
returns-in-Some-2-clause-names g c =
    let there : Some c.in-Some.number ≡ position (is_named c.args.id.now) g.known.names = search rules in
    let less = position_less g.known.names c.args.id.now c.in-Some.number there in
    let own = own_free g.known.names g.known.nodes c.args.id.now c.in-Some.number there (sym (c.requires.taken c.in-Some.number less) ∙ sym c.is_taken.ensures ∙ c.if-is_taken.false) in
    let known = known_id g.known.names c.args.id.now c.in-Some.number there in
    subst (λ n. HasNames (add_name g.known.names n) g.known.nodes c.args.self.now) (sym own) (subst (λ l. HasNames l g.known.nodes c.args.self.now) (sym known.0) c.requires)

pub returns-in-Some-2-clause-number : goal.returns-in-Some-2-clause-number
unfolding number_for
returns-in-Some-2-clause-number g c =
    let there : Some c.in-Some.number ≡ position (is_named c.args.id.now) g.known.names = search rules in
    let less = position_less g.known.names c.args.id.now c.in-Some.number there in
    let own = own_free g.known.names g.known.nodes c.args.id.now c.in-Some.number there (sym (c.requires.taken c.in-Some.number less) ∙ sym c.is_taken.ensures ∙ c.if-is_taken.false) in
    let known = known_id g.known.names c.args.id.now c.in-Some.number there in
    known.1 ∙ ap (λ l. number_of l c.args.id.now) (sym known.0) ∙ ap (number_for g.known.names) (sym own)

pub returns-in-None-clause-names : goal.returns-in-None-clause-names
unfolding add_name
returns-in-None-clause-names g c =
    let absent : position (is_named c.args.id.now) g.known.names ≡ None = search rules in
    let own = own_new g.known.names g.known.nodes c.args.id.now absent in
    let fresh = new_id g.known.names c.args.id.now absent in
    subst (λ n. OnOk c.insert.result (HasNames (add_name g.known.names n) g.known.nodes c.insert.new.self)) (sym own)
    (subst (λ l. OnOk c.insert.result (HasNames l g.known.nodes c.insert.new.self)) (sym fresh.0) c.insert.ensures.names)

pub returns-in-None-clause-number : goal.returns-in-None-clause-number
unfolding number_for
returns-in-None-clause-number g c =
    let absent : position (is_named c.args.id.now) g.known.names ≡ None = search rules in
    let own = own_new g.known.names g.known.nodes c.args.id.now absent in
    let fresh = new_id g.known.names c.args.id.now absent in
    subst (λ n. IfOk c.insert.result (λ number. number ≡ number_for g.known.names n)) (sym own) (subst (λ n. IfOk c.insert.result (λ number. number ≡ n)) (sym fresh.1) c.insert.ensures.number)
