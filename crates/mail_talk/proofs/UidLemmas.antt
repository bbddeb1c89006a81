-- The UIDs of a set in ascending order.
use Rattle.std.proofs.Common.{◌≡◌, ℕ, zero, suc, ◌<◌, ◌≤◌, ◌^◌, ◌==◌, ◌||◌, Bool, true, false, cond, List, [], ◌∷◌, ◌++◌, refl, sym, ap, ◌∙◌, arith, inl, inr}
use Rattle.std.specs.List.{list_any}
use Rattle.std.proofs.lemmas.Bool.{cases_Bool}
use Rattle.std.proofs.lemmas.Bool.Decides.{nat_tests}
use Rattle.std.proofs.lemmas.List.Folds.{list_any-append}
use Rattle.mail_talk.specs.Results.{uids_below}

same_below : (n : ℕ) (f g : ℕ → Bool) → ((uid : ℕ) → f uid ≡ g uid) → uids_below n f ≡ uids_below n g
unfolding uids_below
same_below zero f g same = refl
same_below (suc n) f g same =
    ap (λ (uids : List ℕ). uids ++ cond (f n) (n ∷ []) []) (same_below n f g same) ∙ ap (λ (b : Bool). uids_below n g ++ cond b (n ∷ []) []) (same n)

pub same_uids : (f g : ℕ → Bool) → ((uid : ℕ) → f uid ≡ g uid) → uids_below (2 ^ 32) f ≡ uids_below (2 ^ 32) g
same_uids f g same = same_below (2 ^ 32) f g same

abbrev is_one : ℕ → ℕ → Bool
is_one uid one = one == uid

none_at : (n uid : ℕ) (f : ℕ → Bool) → n ≤ uid → list_any (is_one uid) (uids_below n f) ≡ false
unfolding uids_below
none_at zero uid f le = refl
none_at (suc n) uid f le =
    let other : (n == uid) ≡ false = grind (arith, nat_tests) in
    list_any-append (is_one uid) (uids_below n f) (cond (f n) (n ∷ []) [])
    ∙ ap (λ (b : Bool). b || list_any (is_one uid) (cond (f n) (n ∷ []) [])) (none_at n uid f (omega (arith, le)))
    ∙ elim (cases_Bool (f n)) [ inl is ↦ rw (is, other) refl | inr isnt ↦ rw isnt refl ]

or_false : (b : Bool) → (b || false) ≡ b
or_false true = refl
or_false false = refl

found_at : (n uid : ℕ) (f : ℕ → Bool) → uid < n → list_any (is_one uid) (uids_below n f) ≡ f uid
unfolding uids_below
found_at zero uid f less = absurd (omega (arith, less))
found_at (suc n) uid f less =
    list_any-append (is_one uid) (uids_below n f) (cond (f n) (n ∷ []) [])
    ∙ elim (cases_Bool (n == uid)) [
      | inl last ↦
          let same : n ≡ uid = grind (arith, nat_tests) in
          ap (λ (b : Bool). b || list_any (is_one uid) (cond (f n) (n ∷ []) [])) (none_at n uid f (omega (arith, same)))
          ∙ elim (cases_Bool (f n)) [ inl is ↦ rw (is, last) (sym is ∙ ap f same) | inr isnt ↦ rw isnt (sym isnt ∙ ap f same) ]
      | inr other ↦
          let before : uid < n = grind (arith, nat_tests) in
          ap (λ (b : Bool). b || list_any (is_one uid) (cond (f n) (n ∷ []) [])) (found_at n uid f before)
          ∙ elim (cases_Bool (f n)) [ inl is ↦ rw (is, other) (or_false (f uid)) | inr isnt ↦ rw isnt (or_false (f uid)) ]
    ]

pub finds_uid : (uid : ℕ) (f : ℕ → Bool) → uid < 2 ^ 32 → list_any (λ one. one == uid) (uids_below (2 ^ 32) f) ≡ f uid
finds_uid uid f less = found_at (2 ^ 32) uid f less
