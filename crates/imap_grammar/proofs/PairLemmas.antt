-- The pairs of a search, one after another.
use Rattle.std.proofs.Common.{◌≡◌, ℕ, suc, ◌+◌, ◌-◌, ◌<◌, ◌≤◌, true, false, eqb, List, length, refl, sym, ◌∙◌, arith, Option, Some}
use Rattle.imap_values.specs.declared.error.ParseError.{ParseError}
use Rattle.imap_values.specs.declared.error.ParseError.TheVariants as errors
use Rattle.imap_values.specs.Words.{FailsAs, end_at}
use Rattle.imap_grammar.specs.Searches.{pair_at, last_all_at, all_value_or}

one_less : (count k : ℕ) → k < count → count - k ≡ suc (count - (k + 1))
one_less count k lt = omega arith

pub at_end : (count k : ℕ) (found : Option (List ℕ)) (left : List ℕ) (total : Option (Option (List ℕ))) → k < count → eqb (length left) 0 ≡ true → last_all_at (count - k) found left ≡ total → total ≡ Some found
unfolding last_all_at
at_end count k found left total lt e so = sym so ∙ (rw (one_less count k lt, e) refl)

pub no_pair : (s : ParseError) (count k : ℕ) (found : Option (List ℕ)) (left : List ℕ) (total : Option (Option (List ℕ))) → k < count → eqb (length left) 0 ≡ false → FailsAs s (pair_at left) → last_all_at (count - k) found left ≡ total → FailsAs s total
unfolding last_all_at
no_pair errors.Memory count k found left total lt e f so = tt
no_pair errors.NotInGrammar count k found left total lt e f so = sym so ∙ (rw (one_less count k lt, e, f) refl)

pub goes_on : (count k : ℕ) (found : Option (List ℕ)) (left name value rest : List ℕ) (total : Option (Option (List ℕ))) → k < count → eqb (length left) 0 ≡ false → pair_at left ≡ Some (name, value, rest)
    → last_all_at (count - k) found left ≡ total → last_all_at (count - (k + 1)) (all_value_or found name value) rest ≡ total
unfolding last_all_at
goes_on count k found left name value rest total lt e f so =
    let one : last_all_at (count - k) found left ≡ last_all_at (count - (k + 1)) (all_value_or found name value) rest = rw (one_less count k lt, e, f) refl in
    sym one ∙ so

pub last_end : (s : ParseError) (count k : ℕ) (found : Option (List ℕ)) (left : List ℕ) (total : Option (Option (List ℕ))) → count ≤ k → FailsAs s (end_at left) → last_all_at (count - k) found left ≡ total → FailsAs s total
unfolding last_all_at
last_end errors.Memory count k found left total le e so = tt
last_end errors.NotInGrammar count k found left total le e so =
    let n : count - k ≡ 0 = omega arith in
    sym so ∙ (rw (n, e) refl)

pub ended : (count k : ℕ) (found : Option (List ℕ)) (left : List ℕ) (total : Option (Option (List ℕ))) (u : Unit {0}) → count ≤ k → end_at left ≡ Some u → last_all_at (count - k) found left ≡ total → total ≡ Some found
unfolding last_all_at
ended count k found left total u le e so =
    let n : count - k ≡ 0 = omega arith in
    sym so ∙ (rw (n, e) refl)
