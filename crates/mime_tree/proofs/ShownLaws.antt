-- The leaf to show, by the multiparts around it.
use Rattle.std.proofs.Common.{◌≡◌, ℕ, zero, suc, ◌+◌, ◌<◌, ◌≤◌, inl, inr, ◌⊎◌, Bool, true, false, ◌&&◌, cond, leb, List, [], ◌∷◌, length, take, Option, Some, None, refl, sym, ap, ◌∙◌, subst, arith}
use Rattle.std.specs.Prelude.{find, reverse, option_and_then, IfSome, nat_eq}
use Rattle.std.specs.List.{starts_with}
use Rattle.std.proofs.lemmas.Bool.{cases_Bool, cases_lt, le-leb, leb-true}
use Rattle.std.proofs.lemmas.Slice.Eq.{bytes_eq-Decides}
use Rattle.std.proofs.lemmas.List.{length-take-le}
use Rattle.mime_tree.specs.Tree.{PartValue, TreeValue}
use Rattle.mime_tree.specs.Best.{counts, counts_in, taken_in, leaf_to_show, is_alternative_at}
use Rattle.mime_tree.specs.Laws.{ChoosesChild, IsLeafToShow, GivesLeafToShow}

record Has (found : Option PartValue) : Type 0 where
  leaf : PartValue
  is : found ≡ Some leaf

cases_leaf : (found : Option PartValue) → Has found ⊎ (found ≡ None)
cases_leaf None = inr refl
cases_leaf (Some leaf) = inl (record { leaf = leaf; is = refl })

find_passes : (test : PartValue → Bool) (ps : List PartValue) (p : PartValue) → find test ps ≡ Some p → test p ≡ true
find_passes test [] p e = absurd (cc)
find_passes test (q ∷ ps) p e =
    elim (cases_Bool (test q)) [
      | inl passes ↦
          let f : Some q ≡ Some p = sym (ap (λ b. cond b (Some q) (find test ps)) passes) ∙ e in
          let same : q ≡ p = cc in
          ap test (sym same) ∙ passes
      | inr fails ↦ find_passes test ps p (sym (ap (λ b. cond b (Some q) (find test ps)) fails) ∙ e)
    ]

taken_counts : (t : TreeValue) (s : List ℕ) (q : PartValue) → taken_in t s ≡ Some q → counts_in s q ≡ true
taken_counts t s q e =
    elim (cases_Bool (is_alternative_at t s)) [
      | inl last ↦ find_passes (counts_in s) (reverse t.parts) q (sym (ap (λ b. cond b (find (counts_in s) (reverse t.parts)) (find (counts_in s) t.parts)) last) ∙ e)
      | inr first ↦ find_passes (counts_in s) t.parts q (sym (ap (λ b. cond b (find (counts_in s) (reverse t.parts)) (find (counts_in s) t.parts)) first) ∙ e)
    ]

both : (a b : Bool) → (a && b) ≡ true → (a ≡ true) × (b ≡ true)
both true true h = (refl, refl)
both true false h = absurd (cc)
both false b h = absurd (cc)

-- a leaf of a section: it counts, and its section begins with that one
record IsLeafIn (s : List ℕ) (p : PartValue) : Type 0 where
  may_be_shown : counts p ≡ true
  front : s ≡ take (length s) p.section

leaf_in : (s : List ℕ) (p : PartValue) → counts_in s p ≡ true → IsLeafIn s p
leaf_in s p h =
    let parts = both (counts p) (starts_with nat_eq p.section s) h in
    record { may_be_shown = parts.0; front = (bytes_eq-Decides s (take (length s) p.section)).0 parts.1 }

record IsShownIn (t : TreeValue) (s : List ℕ) (p : PartValue) : Type 0 where
  leaf : IsLeafIn s p
  chosen : (k : ℕ) → length s ≤ k → k < length p.section → ChoosesChild t (take k p.section) p

take_fewer : (n m : ℕ) (xs : List ℕ) → n ≤ m → take n (take m xs) ≡ take n xs
take_fewer zero m xs h = refl
take_fewer (suc n) zero xs h = absurd (omega arith)
take_fewer (suc n) (suc m) [] h = refl
take_fewer (suc n) (suc m) (x ∷ xs) h = ap (λ l. x ∷ l) (take_fewer n m xs (omega arith))

at_section : (t : TreeValue) (s : List ℕ) (p : PartValue) (k : ℕ) → k ≡ length s → s ≡ take (length s) p.section → ChoosesChild t s p → ChoosesChild t (take k p.section) p
at_section t s p k e front here = subst (λ (a : List ℕ). ChoosesChild t a p) (front ∙ ap (λ n. take n p.section) (sym e)) here

long_section : (a b : ℕ) → leb a b ≡ false → b < a
long_section a b h =
    elim (cases_lt b a) [
      | inl lt ↦ lt
      | inr ge ↦ (let e : leb a b ≡ true = le-leb a b ge in absurd (cc))
    ]

shown_in : (depth : ℕ) (t : TreeValue) (s : List ℕ) (p : PartValue) → leaf_to_show depth t s ≡ Some p → IsShownIn t s p
unfolding leaf_to_show
shown_in zero t s p e = absurd (cc)
shown_in (suc depth) t s p e =
    elim (cases_leaf (taken_in t s)) [
      | inl has ↦
          let q = has.leaf in
          let leaf = leaf_in s q (taken_counts t s q has.is) in
          let next = take (length s + 1) q.section in
          let f : cond (leb (length q.section) (length s + 1)) (Some q) (leaf_to_show depth t next) ≡ Some p =
          sym (ap (option_and_then (λ (x : PartValue). cond (leb (length x.section) (length s + 1)) (Some x) (leaf_to_show depth t (take (length s + 1) x.section)))) has.is) ∙ e in
          elim (cases_Bool (leb (length q.section) (length s + 1))) [
            | inl short ↦
                let same : q ≡ p = (let g : Some q ≡ Some p = sym (ap (λ b. cond b (Some q) (leaf_to_show depth t next)) short) ∙ f in cc) in
                let le : length q.section ≤ length s + 1 = leb-true (length q.section) (length s + 1) short in
                subst (λ (x : PartValue). IsShownIn t s x) same (record {
                  leaf = leaf;
                  chosen = λ k from below. at_section t s q k (omega arith) leaf.front (record { leaf = q; chosen = has.is; same_child = refl });
                })
            | inr long ↦
                let more : length s + 1 < length q.section = long_section (length q.section) (length s + 1) long in
                let g : leaf_to_show depth t next ≡ Some p = sym (ap (λ b. cond b (Some q) (leaf_to_show depth t next)) long) ∙ f in
                let inner = shown_in depth t next p g in
                let size : length next ≡ length s + 1 = length-take-le (length s + 1) q.section (omega arith) in
                let child : next ≡ take (length s + 1) p.section = inner.leaf.front ∙ ap (λ n. take n p.section) size in
                let front : s ≡ take (length s) p.section =
                leaf.front ∙ sym (take_fewer (length s) (length s + 1) q.section (omega arith)) ∙ ap (take (length s)) child ∙ take_fewer (length s) (length s + 1) p.section (omega arith) in
                record {
                  leaf = record { may_be_shown = inner.leaf.may_be_shown; front = front };
                  chosen = λ k from below. elim (cases_lt (length s) k) [
                    | inl deeper ↦ inner.chosen k (omega arith) below
                    | inr here ↦ at_section t s p k (omega arith) front (record { leaf = q; chosen = has.is; same_child = child })
                  ];
                }
          ]
      | inr none ↦
          (let f = sym (ap (option_and_then (λ (x : PartValue). cond (leb (length x.section) (length s + 1)) (Some x) (leaf_to_show depth t (take (length s + 1) x.section)))) none) ∙ e in absurd (cc))
    ]

some_shown : (t : TreeValue) (found : Option PartValue) → leaf_to_show 40 t [] ≡ found → IfSome found (IsLeafToShow t)
some_shown t None e = tt
some_shown t (Some p) e =
    let is = shown_in 40 t [] p e in
    record { may_be_shown = is.leaf.may_be_shown; chosen = λ k below. is.chosen k (omega arith) below }

pub gives_leaf_to_show : (t : TreeValue) → GivesLeafToShow t
gives_leaf_to_show t = some_shown t (leaf_to_show 40 t []) refl
