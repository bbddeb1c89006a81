-- The first place of a list that passes, over plain variables.
use Rattle.std.proofs.Common.{◌≡◌, ℕ, ◌+◌, ◌<◌, ◌≤◌, Bool, true, false, cond, List, [], ◌∷◌, ◌++◌, length, map, get_or, set, take, drop, zero, suc, add-one, is_none, is_some, nat_lt, if◌then◌else◌, Option, Some, None, refl, ap, ◌∙◌, arith}
use Rattle.std.specs.List.{count_by, position, position_or_len}
use Rattle.std.proofs.Math.Seq.{take-length}
use Rattle.std.proofs.lemmas.List.{take-append-le}
use Rattle.std.proofs.lemmas.List.Sums.{count_by-le-length, position_or_len_is, sum_by-cons}
use Rattle.site_sessions.specs.Sessions.{map_at}

-- none of the first n passes
abbrev pub NonePasses : {A : Type 0} → (A → Bool) → ℕ → List A → Type 0
NonePasses {A} passes n xs = (k : ℕ) (d : A) → k < n → passes (get_or xs k d) ≡ false

pub none_of_next : {A : Type 0} (passes : A → Bool) (xs : List A) (i : ℕ) → NonePasses passes i xs → ((d : A) → passes (get_or xs i d) ≡ false) → NonePasses passes (i + 1) xs
none_of_next passes xs i before here k d within = grind (arith, before k d, here d)

pub position_here : {A : Type 0} (passes : A → Bool) (xs : List A) (i : ℕ) (d : A) → i < length xs → NonePasses passes i xs → passes (get_or xs i d) ≡ true → position passes xs ≡ Some i
position_here passes xs i d within before here =
    let e : position_or_len passes xs ≡ i = position_or_len_is passes xs i d (grind arith) (λ k. before k d) (λ _. here) in
    rw e (grind arith)

pub position_none : {A : Type 0} (passes : A → Bool) (xs : List A) (n : ℕ) → length xs ≤ n → NonePasses passes n xs → position passes xs ≡ None
position_none passes [] n all before = refl
position_none passes (x ∷ xs) n all before =
    let e : position_or_len passes (x ∷ xs) ≡ length (x ∷ xs) = position_or_len_is passes (x ∷ xs) (length (x ∷ xs)) x (grind arith) (λ k within. before k x (grind arith)) (λ past. grind arith) in
    rw e (grind arith)

-- ---- changes of a list in place

pub map_at_within : {A : Type 0} (i : ℕ) (change : A → A) (xs : List A) (d : A) → i < length xs → map_at i change xs ≡ set xs i (change (get_or xs i d))
map_at_within i change [] d within = grind arith
map_at_within zero change (x ∷ xs) d within = refl
map_at_within (suc i) change (x ∷ xs) d within = ap (λ l. x ∷ l) (map_at_within i change xs d (grind arith))

pub map_at_past : {A : Type 0} (i : ℕ) (change : A → A) (xs : List A) → length xs ≤ i → map_at i change xs ≡ xs
map_at_past i change [] past = refl
map_at_past zero change (x ∷ xs) past = grind arith
map_at_past (suc i) change (x ∷ xs) past = ap (λ l. x ∷ l) (map_at_past i change xs (grind arith))

next_from_suc : {A : Type 0} (change : A → A) (xs : List A) (i : ℕ) (d : A) → i < length xs → set (map change (take i xs) ++ drop i xs) i (change (get_or xs i d)) ≡ map change (take (suc i) xs) ++ drop (suc i) xs
next_from_suc change [] i d within = grind arith
next_from_suc change (x ∷ xs) zero d within = refl
next_from_suc change (x ∷ xs) (suc i) d within = ap (λ l. change x ∷ l) (next_from_suc change xs i d (grind arith))

-- one more element of a list is changed
pub map_next : {A : Type 0} (change : A → A) (xs : List A) (i : ℕ) (d : A) → i < length xs → set (map change (take i xs) ++ drop i xs) i (change (get_or xs i d)) ≡ map change (take (i + 1) xs) ++ drop (i + 1) xs
map_next change xs i d within = rw (add-one i) (next_from_suc change xs i d within)

-- the element that is changed next isn't changed yet
pub unchanged_next : {A : Type 0} (change : A → A) (xs : List A) (i : ℕ) (d : A) → i < length xs → get_or (map change (take i xs) ++ drop i xs) i d ≡ get_or xs i d
unchanged_next change [] i d within = grind arith
unchanged_next change (x ∷ xs) zero d within = refl
unchanged_next change (x ∷ xs) (suc i) d within = unchanged_next change xs i d (grind arith)

-- a list that was filled anew, from its front on
pub refilled : {A : Type 0} (n : ℕ) (new old : List A) → n ≡ length new → take n (new ++ drop (length new) old) ≡ new
refilled n new old e = rw e (take-append-le (length new) new (drop (length new) old) (omega arith) ∙ take-length new)

-- ---- places without and with a session

pub all_some : {A : Type 0} (xs : List (Option A)) → length xs ≤ position_or_len is_none xs → count_by is_some xs ≡ length xs
all_some [] past = refl
all_some (None ∷ xs) past = grind arith
all_some {A} (Some x ∷ xs) past = omega (arith, sum_by-cons (λ (o : Option A). cond (is_some o) 1 0) (Some x) xs, all_some xs (grind arith))

pub not_all_some : {A : Type 0} (xs : List (Option A)) → position_or_len is_none xs < length xs → count_by is_some xs < length xs
not_all_some [] within = grind arith
not_all_some {A} (None ∷ xs) within = omega (arith, sum_by-cons (λ (o : Option A). cond (is_some o) 1 0) None xs, count_by-le-length is_some xs)
not_all_some {A} (Some x ∷ xs) within = omega (arith, sum_by-cons (λ (o : Option A). cond (is_some o) 1 0) (Some x) xs, not_all_some xs (grind arith))

past_end : (n m : ℕ) → (if nat_lt n m then Some n else None) ≡ None → m ≤ n
past_end n m none = grind arith

before_end : (n m i : ℕ) → (if nat_lt n m then Some n else None) ≡ Some i → n < m
before_end n m i some = grind arith

-- no place is free if and only if each has a session
pub no_free_place : {A : Type 0} (xs : List (Option A)) → position is_none xs ≡ None → count_by is_some xs ≡ length xs
no_free_place xs none = all_some xs (past_end (position_or_len is_none xs) (length xs) none)

pub free_place : {A : Type 0} (xs : List (Option A)) (i : ℕ) → position is_none xs ≡ Some i → count_by is_some xs < length xs
free_place xs i some = not_all_some xs (before_end (position_or_len is_none xs) (length xs) i some)
