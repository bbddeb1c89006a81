use Rattle.std.proofs.Common.{◌≡◌, ◌++◌, ◌∷◌, ◌+◌, ◌-◌, ℕ, List, [], length, Some, arith, sym, ap, ◌∙◌, append_assoc, rules}
use Rattle.std.proofs.lemmas.List.{nil_from_length}
use Rattle.style_wash.specs.Cuts.{written_onto}
use Rattle.std.proofs.lemmas.Bool.{eqb-true}
use Rattle.style_wash.specs.Items.{item_of, written_item}
use Rattle.style_wash.specs.Seen.{item_seen, separator_seen}
use Rattle.style_wash.specs.Values.{Parts, Gapped, parts, value_in, value_of, written_separator}
use Rattle.style_wash.specs.Values.Nesting.{Outside}
use Rattle.style_wash.proofs.Cuts.{parts-nil, no_item, last_item, an_item_too_many, no_separator, next_item, begins_itself, begins_more}
use Rattle.style_wash.proofs.values.push_value.Goals as goal

-- the parts of a rest that begins with a text and a gap
abbrev begun : List ℕ → List ℕ → List ℕ → Parts
begun text gap next = record { first = text; more = record { gap = gap; text = (parts Outside next).first } ∷ (parts Outside next).more }

begun_is : (rest text after gap next : List ℕ) → parts Outside rest ≡ record { first = text; more = (parts Outside after).more }
    → (parts Outside after).more ≡ record { gap = gap; text = (parts Outside next).first } ∷ (parts Outside next).more
    → parts Outside rest ≡ begun text gap next
begun_is rest text after gap next cut more = cut ∙ ap (λ (ms : List Gapped). let ps : Parts = record { first = text; more = ms } in ps) more

ended_is : (rest text after : List ℕ) → parts Outside rest ≡ record { first = text; more = (parts Outside after).more } → length after ≡ 0
    → parts Outside rest ≡ record { first = text; more = [] }
ended_is rest text after cut none =
    let empty : after ≡ [] = nil_from_length after none in
    cut ∙ ap (λ (xs : List ℕ). let ps : Parts = record { first = text; more = (parts Outside xs).more } in ps) empty
    ∙ ap (λ (p : Parts). let ps : Parts = record { first = text; more = p.more } in ps) (parts-nil Outside)

pub returns-in_default-clause-value : goal.returns-in_default-clause-value
unfolding value_of
returns-in_default-clause-value c =
    sym c.items.invariant.value ∙ no_item _ _ _ (ap (λ (ps : Parts). item_of ps.first) c.split_text.ensures.parts_are ∙ c.in_default.ensures)

pub returns-then-is_empty-clause-value : goal.returns-then-is_empty-clause-value
unfolding value_of
returns-then-is_empty-clause-value c =
    let none : length c.split_text.result.1.now ≡ 0 = search (rules, eqb-true) in
    sym c.items.invariant.value
    ∙ last_item _ _ _ (item_seen c.in-Some.item) _ (ended_is _ _ _ c.split_text.ensures.parts_are none) c.in-Some.ensures
    ∙ ap (λ (xs : List ℕ). Some xs) (sym c.in_ok-push_item.ensures)

pub returns-then-left-eq0-clause-value : goal.returns-then-left-eq0-clause-value
unfolding value_of
returns-then-left-eq0-clause-value c =
    sym c.items.invariant.value ∙ ap (λ (n : ℕ). written_onto c.items.written.items (value_in n (parts Outside c.items.rest.now))) c.if-left-eq0.true
    ∙ an_item_too_many _ _ _ _ _ (begun_is _ _ _ _ _ c.split_text.ensures.parts_are c.split_gap.ensures.parts_are)

pub returns-in_default-read_separator-clause-value : goal.returns-in_default-read_separator-clause-value
unfolding value_of
returns-in_default-read_separator-clause-value c =
    let one : c.items.left ≡ (c.items.left - 1) + 1 = omega arith in
    sym c.items.invariant.value
    ∙ no_separator _ _ _ _ _ _ _ one (begun_is _ _ _ _ _ c.split_text.ensures.parts_are c.split_gap.ensures.parts_are) c.in_default-read_separator.ensures

pub items-preserved : goal.items-preserved
items-preserved c =
    let one : c.items.left ≡ (c.items.left - 1) + 1 = omega arith in
    let front = c.items.written.items in
    let item = written_item (item_seen c.in-Some.item) in
    let separator = written_separator (separator_seen c.in-Some-read_separator.separator) in
    let written : c.push_separator.new.written.items ≡ front ++ item ++ separator = c.in_ok-push_separator.ensures ∙ ap (λ (xs : List ℕ). xs ++ separator) c.in_ok-push_item.ensures in
    record {
      kept = begins_more _ _ (item ++ separator) _ (written ∙ append_assoc front item separator) c.items.invariant.kept;
      value =
          ap (λ (xs : List ℕ). written_onto xs (value_in (c.items.left - 1) (parts Outside c.split_gap.result.1.now))) written
          ∙ sym (next_item front _ _ _ (item_seen c.in-Some.item) (separator_seen c.in-Some-read_separator.separator) _ _ _ one
          (begun_is _ _ _ _ _ c.split_text.ensures.parts_are c.split_gap.ensures.parts_are) c.in-Some.ensures c.in-Some-read_separator.ensures)
          ∙ c.items.invariant.value;
    }

pub items-init : goal.items-init
items-init c = record { kept = begins_itself c.args.written.now.items; value = search rules }

pub returns-then-is_empty-clause-kept : goal.returns-then-is_empty-clause-kept
returns-then-is_empty-clause-kept c = begins_more _ _ _ _ c.in_ok-push_item.ensures c.items.invariant.kept

pub returns-then-left-eq0-clause-kept : goal.returns-then-left-eq0-clause-kept
returns-then-left-eq0-clause-kept c = begins_more _ _ _ _ c.in_ok-push_item.ensures c.items.invariant.kept

pub returns-in_default-read_separator-clause-kept : goal.returns-in_default-read_separator-clause-kept
returns-in_default-read_separator-clause-kept c = begins_more _ _ _ _ c.in_ok-push_item.ensures c.items.invariant.kept
