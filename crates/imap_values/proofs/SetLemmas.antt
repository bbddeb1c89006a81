-- The ranges of a set, one after another.
use Rattle.std.proofs.Common.{◌≡◌, ℕ, suc, ◌+◌, ◌-◌, ◌<◌, ◌≤◌, Bool, true, false, List, [], ◌∷◌, ◌++◌, refl, sym, ap, ◌∙◌, arith, append_assoc, Option, Some, None}
use Rattle.imap_commands.specs.declared.uid_set.UidRange.{UidRange}
use Rattle.imap_values.specs.declared.error.ParseError.{ParseError}
use Rattle.imap_values.specs.declared.error.ParseError.TheVariants as errors
use Rattle.imap_values.specs.Words.{FailsAs}
use Rattle.imap_values.specs.Sets.{range_at, comma_at, continue_ranges, prepend_range, ranges_at}

-- ranges in front of those that are read after them
abbrev pub prepend_ranges : List UidRange → Option (List UidRange × List ℕ) → Option (List UidRange × List ℕ)
prepend_ranges front None = None
prepend_ranges front (Some x) = Some (front ++ x.0, x.1)

one_less : (count k : ℕ) → k < count → count - k ≡ suc (count - (k + 1))
one_less count k lt = omega arith

regroup : (front : List UidRange) (r : UidRange) (more : Option (List UidRange × List ℕ)) → prepend_ranges front (prepend_range r more) ≡ prepend_ranges (front ++ r ∷ []) more
regroup front r None = refl
regroup front r (Some x) = ap (λ (rs : List UidRange). Some (rs, x.1)) (sym (append_assoc front (r ∷ []) x.0))

step : (n : ℕ) (left rest after : List ℕ) (r : UidRange) (more : Bool) → range_at left ≡ Some (r, rest) → more ≡ (comma_at rest).0 → after ≡ (comma_at rest).1 → ranges_at (suc n) left ≡ continue_ranges r more after (ranges_at n after)
unfolding ranges_at
step n left rest after r more e f g = rw (f, g, e) refl

pub no_range : (s : ParseError) (front : List UidRange) (count k : ℕ) (left : List ℕ) (total : Option (List UidRange × List ℕ)) → k < count → FailsAs s (range_at left) → prepend_ranges front (ranges_at (count - k) left) ≡ total → FailsAs s total
unfolding ranges_at
no_range errors.Memory front count k left total lt e so = tt
no_range errors.NotInGrammar front count k left total lt e so = sym so ∙ (rw (one_less count k lt, e) refl)

pub ends_here : (front : List UidRange) (count k : ℕ) (left rest after : List ℕ) (r : UidRange) (more : Bool) (total : Option (List UidRange × List ℕ)) → k < count → range_at left ≡ Some (r, rest) → more ≡ (comma_at rest).0 → after ≡ (comma_at rest).1 → more ≡ false
    → prepend_ranges front (ranges_at (count - k) left) ≡ total → total ≡ Some (front ++ r ∷ [], after)
ends_here front count k left rest after r more total lt e f g test so =
    sym so ∙ ap (prepend_ranges front) (ap (λ (m : ℕ). ranges_at m left) (one_less count k lt) ∙ step (count - (k + 1)) left rest after r more e f g ∙ ap (λ (b : Bool). continue_ranges r b after (ranges_at (count - (k + 1)) after)) test)

pub goes_on : (front : List UidRange) (count k : ℕ) (left rest after : List ℕ) (r : UidRange) (more : Bool) (total : Option (List UidRange × List ℕ)) → k < count → range_at left ≡ Some (r, rest) → more ≡ (comma_at rest).0 → after ≡ (comma_at rest).1 → more ≡ true
    → prepend_ranges front (ranges_at (count - k) left) ≡ total → prepend_ranges (front ++ r ∷ []) (ranges_at (count - (k + 1)) after) ≡ total
goes_on front count k left rest after r more total lt e f g test so =
    sym (ap (prepend_ranges front) (ap (λ (m : ℕ). ranges_at m left) (one_less count k lt) ∙ step (count - (k + 1)) left rest after r more e f g ∙ ap (λ (b : Bool). continue_ranges r b after (ranges_at (count - (k + 1)) after)) test) ∙ regroup front r (ranges_at (count - (k + 1)) after)) ∙ so

pub none_left : (front : List UidRange) (count k : ℕ) (left : List ℕ) (total : Option (List UidRange × List ℕ)) → count ≤ k → prepend_ranges front (ranges_at (count - k) left) ≡ total → total ≡ None
unfolding ranges_at
none_left front count k left total le so =
    let n : count - k ≡ 0 = omega arith in
    sym so ∙ (rw n refl)

nil_front : (o : Option (List UidRange × List ℕ)) → prepend_ranges [] o ≡ o
nil_front None = refl
nil_front (Some x) = refl

pub at_start : (n : ℕ) (left : List ℕ) → prepend_ranges [] (ranges_at (n - 0) left) ≡ ranges_at n left
at_start n left = let same : n - 0 ≡ n = omega arith in rw same (nil_front (ranges_at n left))
