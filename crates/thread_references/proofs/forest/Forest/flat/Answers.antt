use Rattle.std.proofs.Common.{◌≡◌, map, subst, sym, ap, ◌∙◌, rules}
use Rattle.std.specs.Prelude.{IfOk, IsPermutation}
use Rattle.std.proofs.lemmas.Result.{IfOk-weaker}
use Rattle.thread_references.specs.Listing.{flat, flat_of, uids_of}
use Rattle.thread_references.proofs.UidLemmas.{flat_once}
use Rattle.thread_references.proofs.forest.Forest.flat.Goals as goal

pub returns-clause-equals : goal.returns-clause-equals
unfolding flat_of
returns-clause-equals c =
    let facts : c.self.inside.linked ≡ c.args.self.now.facts = search rules in
    subst (λ l. IfOk c.flat.result (λ rows. rows.items ≡ l))
    (ap (λ u. flat u c.deref-2.result.now) (c.deref.ensures.value ∙ c.self.invariant.0)
    ∙ ap (flat (uids_of c.self.inside.linked)) (c.deref-2.ensures.value ∙ c.self.invariant.1)
    ∙ ap flat_of facts)
    c.flat.ensures

pub returns-clause-each_once : goal.returns-clause-each_once
unfolding flat_of
returns-clause-each_once c =
    let facts : c.self.inside.linked ≡ c.args.self.now.facts = search rules in
    IfOk-weaker c.flat.result (λ rows. rows.items ≡ flat_of c.args.self.now.facts) (λ rows. IsPermutation (map (λ f. f.uid) c.args.self.now.facts) (map (λ r. r.0) rows.items))
    (λ rows is. subst (λ l. IsPermutation (map (λ f. f.uid) c.args.self.now.facts) (map (λ r. r.0) l)) (sym is) (flat_once c.args.self.now.facts))
    (returns-clause-equals c)
