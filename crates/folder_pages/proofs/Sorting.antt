-- Two lists in order that have each element equally often are one list; so a sort and an insertion sort give the same.
use Rattle.std.proofs.Common.{◌≡◌, ℕ, suc, ◌+◌, ◌<◌, true, false, cond, inl, inr, List, [], ◌∷◌, ◌++◌, length, map, take, get_or, refl, sym, ap, ◌∙◌, subst, arith}
use Rattle.std.specs.Prelude.{Bool}
use Rattle.std.specs.Borrow.{Bor}
use Rattle.std.specs.List.{All, sum_by}
use Rattle.std.specs.List.Sorted.{IsPermutation, IsSorted}
use Rattle.std.specs.Ordering.{is_lt, is_gt, is_eq, bool_cmp, nat_cmp, ordering_then, ordering_reverse}
use Rattle.std.specs.Cmp.Lexicographic.{slice_cmp}
use Rattle.std.specs.declared.cmp.Ordering.{Ordering}
use Rattle.std.specs.declared.cmp.Ordering.TheVariants.{Less, Equal, Greater}
use Rattle.std.specs.Cmp.{IsTotalOrder, bool_cmp_total}
use Rattle.std.proofs.lemmas.Cmp.{nat_cmp_total, nat_list_cmp_total, on_total, then_total, upto, tied_itself, ranked}
use Rattle.std.proofs.lemmas.Bool.{cases_Bool, both_ways}
use Rattle.std.proofs.lemmas.List.Elements.{All-nil, All-cons, All-head, All-tail, All-weaker}
use Rattle.std.proofs.lemmas.List.Sorted.{sum_by-IsPermutation, IsPermutation-map}
use Rattle.std.proofs.lemmas.List.{take_more, length-take}
use Rattle.std.proofs.lemmas.List.Sums.{sum_by-cons}
use Rattle.mailbox_rows.specs.declared.row.Folder.{Folder}
use Rattle.folder_pages.specs.Folders.{Key, compare_keys, insert_by_key, by_key, key_of, key_at, keys_from}

total : IsTotalOrder compare_keys
total = then_total (then_total (on_total (λ (k : Key). k.0) bool_cmp_total) (on_total (λ (k : Key). k.1) nat_list_cmp_total)) (on_total (λ (k : Key). k.2) nat_cmp_total)

-- each element is no later than those after it
abbrev pub Ascends : List Key → Type 0
Ascends [] = Unit
Ascends (x ∷ xs) = All (λ y. is_lt (compare_keys y x) ≡ false) xs × Ascends xs

gt_from_lt : (r : Ordering) → is_lt (ordering_reverse r) ≡ is_gt r
gt_from_lt Less = refl
gt_from_lt Equal = refl
gt_from_lt Greater = refl

-- `y` is no earlier than `x`
turn : (x y : Key) → is_lt (compare_keys y x) ≡ is_gt (compare_keys x y)
turn x y = ap is_lt (total.antisymm y x) ∙ gt_from_lt (compare_keys x y)

pub no_earlier : (x y z : Key) → is_lt (compare_keys y x) ≡ false → is_lt (compare_keys z y) ≡ false → is_lt (compare_keys z x) ≡ false
no_earlier x y z one two = turn x z ∙ upto total x y z (sym (turn x y) ∙ one) (sym (turn y z) ∙ two)

not_less : (r : Ordering) → is_lt r ≡ true → is_gt r ≡ false
not_less Less e = refl
not_less Equal e = refl
not_less Greater e = absurd (both_ways false refl e)

neither : (r : Ordering) → is_lt r ≡ false → is_gt r ≡ false → r ≡ Equal
neither Less one two = absurd (both_ways true one refl)
neither Equal one two = refl
neither Greater one two = absurd (both_ways true two refl)

equal_from : (r : Ordering) → is_eq r ≡ true → r ≡ Equal
equal_from Less e = absurd (both_ways false refl e)
equal_from Equal e = refl
equal_from Greater e = absurd (both_ways false refl e)

then_equal : (r s : Ordering) → ordering_then r s ≡ Equal → (r ≡ Equal) × (s ≡ Equal)
then_equal Less s e = absurd (both_ways true (ap is_lt e) refl)
then_equal Equal s e = (refl, e)
then_equal Greater s e = absurd (both_ways true (ap is_gt e) refl)

equal_bool : (a b : Bool) → bool_cmp a b ≡ Equal → a ≡ b
equal_bool false false e = refl
equal_bool false true e = absurd (both_ways true (ap is_lt e) refl)
equal_bool true false e = absurd (both_ways true (ap is_gt e) refl)
equal_bool true true e = refl

equal_nat : (a b : ℕ) → nat_cmp a b ≡ Equal → a ≡ b
equal_nat a b e = ranked a b Equal (sym e)

equal_name : (a b : List ℕ) → slice_cmp nat_cmp a b ≡ Equal → a ≡ b
equal_name [] [] e = refl
equal_name [] (y ∷ ys) e = absurd (both_ways true (ap is_lt e) refl)
equal_name (x ∷ xs) [] e = absurd (both_ways true (ap is_gt e) refl)
equal_name (x ∷ xs) (y ∷ ys) e =
    let both = then_equal (nat_cmp x y) (slice_cmp nat_cmp xs ys) e in
    ap (λ v. v ∷ xs) (equal_nat x y both.0) ∙ ap (λ l. y ∷ l) (equal_name xs ys both.1)

equal_keys : (a b : Key) → compare_keys a b ≡ Equal → a ≡ b
equal_keys a b e =
    let both = then_equal (ordering_then (bool_cmp a.0 b.0) (slice_cmp nat_cmp a.1 b.1)) (nat_cmp a.2 b.2) e in
    let first = then_equal (bool_cmp a.0 b.0) (slice_cmp nat_cmp a.1 b.1) both.0 in
    ap (λ v. (v, a.1, a.2)) (equal_bool a.0 b.0 first.0) ∙ ap (λ v. (b.0, v, a.2)) (equal_name a.1 b.1 first.1) ∙ ap (λ v. (b.0, b.1, v)) (equal_nat a.2 b.2 both.1)

-- how often a key is among some
abbrev count : Key → List Key → ℕ
count x [] = 0
count x (z ∷ zs) = cond (is_eq (compare_keys x z)) 1 0 + count x zs

abbrev once : Key → Key → ℕ
once x z = cond (is_eq (compare_keys x z)) 1 0

count_is : (x : Key) (zs : List Key) → sum_by (once x) zs ≡ count x zs
count_is x [] = refl
count_is x (z ∷ zs) = sum_by-cons (once x) z zs ∙ ap (λ n. once x z + n) (count_is x zs)

count_none : (x : Key) (zs : List Key) → All (λ z. is_eq (compare_keys x z) ≡ false) zs → count x zs ≡ 0
count_none x [] all = refl
count_none x (z ∷ zs) all =
    let first : once x z ≡ 0 = ap (λ b. cond b 1 0) (All-head (λ v. is_eq (compare_keys x v) ≡ false) z zs all) in
    let rest : count x zs ≡ 0 = count_none x zs (All-tail (λ v. is_eq (compare_keys x v) ≡ false) z zs all) in
    omega (arith, first, rest)

count_self : (x : Key) (zs : List Key) → count x (x ∷ zs) ≡ 1 + count x zs
count_self x zs = let e : is_eq (compare_keys x x) ≡ true = ap is_eq (tied_itself total x) in rw e refl

apart : (x y z : Key) → is_lt (compare_keys x y) ≡ true → is_lt (compare_keys z y) ≡ false → is_eq (compare_keys x z) ≡ false
apart x y z less later =
    elim (cases_Bool (is_eq (compare_keys x z))) [
      | inl e ↦ absurd (both_ways (is_lt (compare_keys x y)) (ap is_lt (total.congr x z y (equal_from (compare_keys x z) e)) ∙ later) less)
      | inr e ↦ e
    ]

-- what comes before the first of a list in order is not in it
count_before : (x y : Key) (ys : List Key) → Ascends (y ∷ ys) → is_lt (compare_keys x y) ≡ true → count x (y ∷ ys) ≡ 0
count_before x y ys up less =
    count_none x (y ∷ ys) (All-cons (λ z. is_eq (compare_keys x z) ≡ false) y ys (apart x y y less (ap is_lt (tied_itself total y)))
    (All-weaker (λ z. is_lt (compare_keys z y) ≡ false) (λ z. is_eq (compare_keys x z) ≡ false) (λ z later. apart x y z less later) ys up.0))

pub same_counts : (xs ys : List Key) → Ascends xs → Ascends ys → ((x : Key) → count x xs ≡ count x ys) → xs ≡ ys
same_counts [] [] one two counts = refl
same_counts [] (y ∷ ys) one two counts = absurd (let e : 0 ≡ count y (y ∷ ys) = counts y in let s = count_self y ys in omega arith)
same_counts (x ∷ xs) [] one two counts = absurd (let e : count x (x ∷ xs) ≡ 0 = counts x in let s = count_self x xs in omega arith)
same_counts (x ∷ xs) (y ∷ ys) one two counts =
    elim (cases_Bool (is_lt (compare_keys x y))) [
      | inl less ↦ absurd (let e = counts x in let s = count_self x xs in let n = count_before x y ys two less in omega (arith, e, s, n))
      | inr later ↦
          elim (cases_Bool (is_lt (compare_keys y x))) [
            | inl less ↦ absurd (let e = counts y in let s = count_self y ys in let n = count_before y x xs one less in omega (arith, e, s, n))
            | inr none ↦
                let same : x ≡ y = equal_keys x y (neither (compare_keys x y) later (sym (turn x y) ∙ none)) in
                ap (λ v. v ∷ xs) same
                ∙ ap (λ l. y ∷ l) (same_counts xs ys one.1 two.1 (λ z.
                let e : count z (x ∷ xs) ≡ count z (y ∷ ys) = counts z in
                let s : once z x ≡ once z y = ap (once z) same in
                omega (arith, e, s)))
          ]
    ]

-- ---- insertion

count_insert : (x a : Key) (xs : List Key) → count x (insert_by_key a xs) ≡ count x (a ∷ xs)
unfolding insert_by_key
count_insert x a [] = refl
count_insert x a (b ∷ more) =
    elim (cases_Bool (is_lt (compare_keys b a))) [
      | inl e ↦ rw e (let i : count x (insert_by_key a more) ≡ count x (a ∷ more) = count_insert x a more in omega (arith, i))
      | inr e ↦ rw e refl
    ]

All_insert : (P : Key → Type 0) (a : Key) (xs : List Key) → P a → All P xs → All P (insert_by_key a xs)
unfolding insert_by_key
All_insert P a [] one all = All-cons P a [] one all
All_insert P a (b ∷ more) one all =
    elim (cases_Bool (is_lt (compare_keys b a))) [
      | inl e ↦ rw e (All-cons P b (insert_by_key a more) (All-head P b more all) (All_insert P a more one (All-tail P b more all)))
      | inr e ↦ rw e (All-cons P a (b ∷ more) one all)
    ]

Ascends_insert : (a : Key) (xs : List Key) → Ascends xs → Ascends (insert_by_key a xs)
unfolding insert_by_key
Ascends_insert a [] up = (All-nil (λ y. is_lt (compare_keys y a) ≡ false), tt)
Ascends_insert a (b ∷ more) up =
    elim (cases_Bool (is_lt (compare_keys b a))) [
      | inl e ↦
          let later : is_lt (compare_keys a b) ≡ false = turn b a ∙ not_less (compare_keys b a) e in
          rw e (All_insert (λ y. is_lt (compare_keys y b) ≡ false) a more later up.0, Ascends_insert a more up.1)
      | inr e ↦
          rw e (
            All-cons (λ y. is_lt (compare_keys y a) ≡ false) b more e (All-weaker (λ y. is_lt (compare_keys y b) ≡ false) (λ y. is_lt (compare_keys y a) ≡ false) (λ y. no_earlier a b y e) more up.0),
            up,
          )
    ]

count_by_key : (x : Key) (xs : List Key) → count x (by_key xs) ≡ count x xs
unfolding by_key
count_by_key x [] = refl
count_by_key x (a ∷ more) = count_insert x a (by_key more) ∙ ap (λ n. cond (is_eq (compare_keys x a)) 1 0 + n) (count_by_key x more)

Ascends_by_key : (xs : List Key) → Ascends (by_key xs)
unfolding by_key
Ascends_by_key [] = tt
Ascends_by_key (a ∷ more) = Ascends_insert a (by_key more) (Ascends_by_key more)

-- ---- a sort

-- a key of the code, which borrows its name
abbrev pub Raw : Type 0
Raw = Bool × Bor (List ℕ) × ℕ

abbrev compare_raw : Raw → Raw → Ordering
compare_raw a b = compare_keys (key_of a) (key_of b)

Ascends_sorted : (xs : List Raw) → IsSorted compare_raw xs → Ascends (map key_of xs)
Ascends_sorted [] h = tt
Ascends_sorted (x ∷ []) h = (All-nil (λ y. is_lt (compare_keys y (key_of x)) ≡ false), tt)
Ascends_sorted (x ∷ y ∷ ys) h =
    let first : is_lt (compare_raw y x) ≡ false = h 0 x (omega arith) (omega arith) in
    let rest : Ascends (map key_of (y ∷ ys)) = Ascends_sorted (y ∷ ys) (λ k d low high.
    let e : suc k + 1 ≡ suc (k + 1) = omega arith in
    subst (λ n. is_lt (compare_raw (get_or (x ∷ y ∷ ys) n d) (get_or (y ∷ ys) k d)) ≡ false) e (h (suc k) d (omega arith) (omega arith))) in
    (All-cons (λ z. is_lt (compare_keys z (key_of x)) ≡ false) (key_of y) (map key_of ys) first (All-weaker (λ z. is_lt (compare_keys z (key_of y)) ≡ false) (λ z. is_lt (compare_keys z (key_of x)) ≡ false) (λ z. no_earlier (key_of x) (key_of y) z first) (map key_of ys) rest.0), rest)

pub sorted_by_key : (xs ys : List Raw) → IsPermutation xs ys → IsSorted compare_raw ys → map key_of ys ≡ by_key (map key_of xs)
sorted_by_key xs ys permutation sorted =
    let keys = map key_of xs in
    let moved = map key_of ys in
    same_counts moved (by_key keys) (Ascends_sorted ys sorted) (Ascends_by_key keys)
    (λ x. sym (count_is x moved) ∙ sum_by-IsPermutation (once x) keys moved (IsPermutation-map key_of xs ys permutation) ∙ count_is x keys ∙ sym (count_by_key x keys))

pub places_of : (keys : List Raw) → map (λ key. key.2) keys ≡ map (λ (k : Key). k.2) (map key_of keys)
places_of [] = refl
places_of (key ∷ more) = ap (λ l. key.2 ∷ l) (places_of more)

-- ---- the keys of folders

keys_push : (k : ℕ) (folders : List Folder) (folder : Folder) → keys_from k (folders ++ folder ∷ []) ≡ keys_from k folders ++ key_at (k + length folders) folder ∷ []
unfolding keys_from
keys_push k [] folder = ap (λ n. key_at n folder ∷ []) (let e : k ≡ k + 0 = omega arith in e)
keys_push k (y ∷ ys) folder = ap (λ l. key_at k y ∷ l) (keys_push (suc k) ys folder ∙ ap (λ n. keys_from (suc k) ys ++ key_at n folder ∷ []) (let e : suc k + length ys ≡ k + length (y ∷ ys) = omega arith in e))

pub keys_more : (folders : List Folder) (i : ℕ) (folder : Folder) → i < length folders → folder ≡ get_or folders i folder → keys_from 0 (take (i + 1) folders) ≡ keys_from 0 (take i folders) ++ key_at i folder ∷ []
keys_more folders i folder less is =
    let size : 0 + length (take i folders) ≡ i = omega (arith, length-take i folders) in
    ap (keys_from 0) (take_more folders i folder less) ∙ keys_push 0 (take i folders) (get_or folders i folder)
    ∙ ap (λ v. keys_from 0 (take i folders) ++ key_at (0 + length (take i folders)) v ∷ []) (sym is)
    ∙ ap (λ n. keys_from 0 (take i folders) ++ key_at n folder ∷ []) size
