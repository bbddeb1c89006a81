use Rattle.std.proofs.Common.{ℕ, ◌≤◌, List, Bool, not, ◌||◌, ap, sym, ◌∙◌, subst}
use Rattle.std.specs.List.Sorted.{IsBinarySearchResult}
use Rattle.std.specs.Ordering.{nat_cmp}
use Rattle.std.specs.BTreeSet.{contains}
use Rattle.std.specs.Result.{is_ok}
use Rattle.html_tokens.specs.PackedNames.{ceiling}
use Rattle.html_tokens.proofs.RisingNumbers.{new_number, rises_push, below_push, search_tells, found_again}
use Rattle.html_tokens.proofs.name_set.NameSet.insert_number.Goals as goal

pub invariant_of-self : goal.invariant_of-self
invariant_of-self c =
    let old = c.args.self.now in
    let high : ceiling old.rising.items ≤ c.args.number = c.is_greatest.ensures.0 c.if-is_greatest.true in
    record {
      rises = rises_push (is_ok c.push.result) old.rising.items c.push.new.self.items c.args.number old.rises high c.push.ensures.items;
      below = below_push (is_ok c.push.result) old.rising.items c.push.new.self.items old.short c.args.number old.below high c.push.ensures.items;
    }

pub returns-then-is_greatest-clause-is_new : goal.returns-then-is_greatest-clause-is_new
returns-then-is_greatest-clause-is_new c =
    let old = c.args.self.now in
    let high : ceiling old.rising.items ≤ c.args.number = c.is_greatest.ensures.0 c.if-is_greatest.true in
    ap not (sym (new_number old.rising.items old.short c.args.number old.rises old.below high))

pub returns-then-is_ok-clause-is_new : goal.returns-then-is_ok-clause-is_new
returns-then-is_ok-clause-is_new c =
    let old = c.args.self.now in
    let told = subst (λ (xs : List ℕ). IsBinarySearchResult (λ k. nat_cmp k c.args.number) xs c.binary_search.result) c.deref.ensures.value c.binary_search.ensures.position in
    let there = search_tells old.rising.items c.args.number c.binary_search.result old.rises told ∙ sym c.is_ok.ensures.value ∙ c.if-is_ok.true in
    ap (λ (b : Bool). not (b || contains nat_cmp old.short c.args.number)) (sym there)

pub returns-then-is_ok-clause-numbers : goal.returns-then-is_ok-clause-numbers
returns-then-is_ok-clause-numbers c =
    let old = c.args.self.now in
    let told = subst (λ (xs : List ℕ). IsBinarySearchResult (λ k. nat_cmp k c.args.number) xs c.binary_search.result) c.deref.ensures.value c.binary_search.ensures.position in
    let there = search_tells old.rising.items c.args.number c.binary_search.result old.rises told ∙ sym c.is_ok.ensures.value ∙ c.if-is_ok.true in
    λ q. found_again old.rising.items old.short c.args.number q there

pub returns-clause-is_new : goal.returns-clause-is_new
returns-clause-is_new c =
    let old = c.args.self.now in
    let told = subst (λ (xs : List ℕ). IsBinarySearchResult (λ k. nat_cmp k c.args.number) xs c.binary_search.result) c.deref.ensures.value c.binary_search.ensures.position in
    let away = search_tells old.rising.items c.args.number c.binary_search.result old.rises told ∙ sym c.is_ok.ensures.value ∙ c.if-is_ok.false in
    c.in_ok-is_new.ensures.added ∙ ap (λ (b : Bool). not (b || contains nat_cmp old.short c.args.number)) (sym away)
