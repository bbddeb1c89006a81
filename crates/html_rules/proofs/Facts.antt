-- Facts about tests and names.
use Rattle.std.proofs.Common.{◌≡◌, ℕ, Bool, true, false, not, ◌&&◌, ◌||◌, ◌==◌, List, [], ◌∷◌, IsTrue, refl, sym, eqb-true, eq-eqb}
use Rattle.std.specs.List.{list_all}
use Rattle.html_syntax.specs.Tokenizer.{is_among, same}

pub and_true : (a b : Bool) → (a && b) ≡ true → (a ≡ true) × (b ≡ true)
and_true true b e = (refl, e)
and_true false b e = absurd cc

pub or_false : (a b : Bool) → (a || b) ≡ false → (a ≡ false) × (b ≡ false)
or_false true b e = absurd cc
or_false false b e = (refl, e)

pub no_of : (b : Bool) → IsTrue (not b) → b ≡ false
no_of true h = absurd cc
no_of false h = refl

pub same-true : (xs ys : List ℕ) → same xs ys ≡ true → xs ≡ ys
same-true [] [] e = refl
same-true [] (y ∷ ys) e = absurd cc
same-true (x ∷ xs) [] e = absurd cc
same-true (x ∷ xs) (y ∷ ys) e =
    let both = and_true (y == x) (same xs ys) e in
    let heads : y ≡ x = eqb-true y x both.0 in
    let tails : xs ≡ ys = same-true xs ys both.1 in
    cc

pub same-refl : (cs : List ℕ) → same cs cs ≡ true
same-refl [] = refl
same-refl (c ∷ cs) = rw (eq-eqb c c refl, same-refl cs) refl

-- what a test of each name says of one of them
pub among_all : (p : List ℕ → Bool) (names : List (List ℕ)) (name : List ℕ) → list_all p names ≡ true → is_among names name ≡ true → p name ≡ true
among_all p [] name all among = absurd cc
among_all p (n ∷ names) name all among =
    let both = and_true (p n) (list_all p names) all in
    elim (same n name) as (λ b. same n name ≡ b → (b || is_among names name) ≡ true → p name ≡ true) [
      | true ↦ λ e h. rw (sym (same-true n name e)) both.0
      | false ↦ λ e h. among_all p names name both.1 h
    ] refl among
