-- A value, token by token.
use Rattle.std.proofs.Common.{◌≡◌, ℕ, suc, ◌+◌, ◌-◌, ◌<◌, ◌≤◌, Bool, false, eqb, cond, List, refl, sym, ap, ◌∙◌, arith, Option, Some, None}
use Rattle.imap_values.specs.declared.error.ParseError.{ParseError}
use Rattle.imap_values.specs.declared.error.ParseError.TheVariants as errors
use Rattle.imap_values.specs.declared.values.Token.{Token}
use Rattle.imap_values.specs.Words.{FailsAs}
use Rattle.imap_values.specs.Values.{token_at, depth_after, tokens_end_at}

one_less : (count k : ℕ) → k < count → count - k ≡ suc (count - (k + 1))
one_less count k lt = omega arith

pub no_token : (s : ParseError) (count k depth : ℕ) (left : List ℕ) (total : Option (List ℕ)) → k < count → FailsAs s (token_at left) → tokens_end_at (count - k) depth left ≡ total → FailsAs s total
unfolding tokens_end_at
no_token errors.Memory count k depth left total lt e so = tt
no_token errors.NotInGrammar count k depth left total lt e so = sym so ∙ (rw (one_less count k lt, e) refl)

pub no_depth : (s : ParseError) (count k depth : ℕ) (left rest : List ℕ) (t : Token) (total : Option (List ℕ)) → k < count → token_at left ≡ Some (t, rest) → FailsAs s (depth_after depth t) → tokens_end_at (count - k) depth left ≡ total → FailsAs s total
unfolding tokens_end_at
no_depth errors.Memory count k depth left rest t total lt e f so = tt
no_depth errors.NotInGrammar count k depth left rest t total lt e f so = sym so ∙ (rw (one_less count k lt, e, f) refl)

step : (n depth d : ℕ) (left rest : List ℕ) (t : Token) → token_at left ≡ Some (t, rest) → depth_after depth t ≡ Some d → tokens_end_at (suc n) depth left ≡ cond (eqb d 0) (Some rest) (tokens_end_at n d rest)
unfolding tokens_end_at
step n depth d left rest t e f = rw (e, f) refl

pub closes_here : (count k depth d : ℕ) (left rest : List ℕ) (t : Token) (total : Option (List ℕ)) → k < count → token_at left ≡ Some (t, rest) → depth_after depth t ≡ Some d → d ≡ 0 → tokens_end_at (count - k) depth left ≡ total → total ≡ Some rest
closes_here count k depth d left rest t total lt e f z so =
    sym so ∙ ap (λ (m : ℕ). tokens_end_at m depth left) (one_less count k lt) ∙ step (count - (k + 1)) depth d left rest t e f ∙ ap (λ (m : ℕ). cond (eqb m 0) (Some rest) (tokens_end_at (count - (k + 1)) d rest)) z

pub goes_on : (count k depth d : ℕ) (left rest : List ℕ) (t : Token) (total : Option (List ℕ)) → k < count → token_at left ≡ Some (t, rest) → depth_after depth t ≡ Some d → eqb d 0 ≡ false → tokens_end_at (count - k) depth left ≡ total → tokens_end_at (count - (k + 1)) d rest ≡ total
goes_on count k depth d left rest t total lt e f z so =
    sym (ap (λ (m : ℕ). tokens_end_at m depth left) (one_less count k lt) ∙ step (count - (k + 1)) depth d left rest t e f ∙ ap (λ (b : Bool). cond b (Some rest) (tokens_end_at (count - (k + 1)) d rest)) z) ∙ so

pub none_left : (count k depth : ℕ) (left : List ℕ) (total : Option (List ℕ)) → count ≤ k → tokens_end_at (count - k) depth left ≡ total → total ≡ None
unfolding tokens_end_at
none_left count k depth left total le so =
    let n : count - k ≡ 0 = omega arith in
    sym so ∙ (rw n refl)
