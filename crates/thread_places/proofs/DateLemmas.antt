-- Two lists in order that have each element equally often are one list; so a sort and an insertion sort give the same.
use Rattle.std.proofs.Common.{◌≡◌, ℕ, suc, ◌+◌, ◌<◌, true, false, cond, inl, inr, List, [], ◌∷◌, ◌++◌, length, map, take, get_or, refl, sym, ap, ◌∙◌, subst, arith}
use Rattle.std.specs.Prelude.{ℤ}
use Rattle.std.specs.List.{All, sum_by}
use Rattle.std.specs.List.Sorted.{IsPermutation, IsSorted}
use Rattle.std.specs.Ordering.{is_lt, is_gt, is_eq, int_cmp, nat_cmp, ordering_then, ordering_reverse}
use Rattle.std.specs.declared.cmp.Ordering.{Ordering}
use Rattle.std.specs.declared.cmp.Ordering.TheVariants.{Less, Equal, Greater}
use Rattle.std.specs.Cmp.{IsTotalOrder}
use Rattle.std.proofs.lemmas.Cmp.{nat_cmp_total, int_cmp_total, then_total, upto, tied_itself, ranked, int_ranked}
use Rattle.std.proofs.lemmas.Bool.{cases_Bool, both_ways}
use Rattle.std.proofs.lemmas.List.Elements.{All-nil, All-cons, All-head, All-tail, All-weaker, All-map}
use Rattle.std.proofs.lemmas.List.Sorted.{sum_by-IsPermutation, All-permutation}
use Rattle.std.proofs.lemmas.List.{take_more, length-take, length-map}
use Rattle.std.proofs.lemmas.List.Sums.{sum_by-cons}
use Rattle.thread_places.specs.declared.facts.Facts.{Facts}
use Rattle.thread_places.specs.Dates.{Dated, compare_dates, insert_by_date, by_date, dates_from, date_order}

total : IsTotalOrder compare_dates
total = then_total (record { antisymm = λ x y. int_cmp_total.antisymm x.0 y.0; trans = λ x y z. int_cmp_total.trans x.0 y.0 z.0; congr = λ x y z. int_cmp_total.congr x.0 y.0 z.0 })
    (record { antisymm = λ x y. nat_cmp_total.antisymm x.1 y.1; trans = λ x y z. nat_cmp_total.trans x.1 y.1 z.1; congr = λ x y z. nat_cmp_total.congr x.1 y.1 z.1 })

-- each element is no later than those after it
abbrev pub Ascends : List Dated → Type 0
Ascends [] = Unit
Ascends (x ∷ xs) = All (λ y. is_lt (compare_dates y x) ≡ false) xs × Ascends xs

gt_from_lt : (r : Ordering) → is_lt (ordering_reverse r) ≡ is_gt r
gt_from_lt Less = refl
gt_from_lt Equal = refl
gt_from_lt Greater = refl

-- `y` is no earlier than `x`
turn : (x y : Dated) → is_lt (compare_dates y x) ≡ is_gt (compare_dates x y)
turn x y = ap is_lt (total.antisymm y x) ∙ gt_from_lt (compare_dates x y)

pub no_earlier : (x y z : Dated) → is_lt (compare_dates y x) ≡ false → is_lt (compare_dates z y) ≡ false → is_lt (compare_dates z x) ≡ false
no_earlier x y z one two = turn x z ∙ upto total x y z (sym (turn x y) ∙ one) (sym (turn y z) ∙ two)

not_less : (r : Ordering) → is_lt r ≡ true → is_gt r ≡ false
not_less Less e = refl
not_less Equal e = refl
not_less Greater e = absurd (both_ways false refl e)

neither : (r : Ordering) → is_lt r ≡ false → is_gt r ≡ false → r ≡ Equal
neither Less one two = absurd (both_ways true one refl)
neither Equal one two = refl
neither Greater one two = absurd (both_ways true two refl)

equal_from : (r : Ordering) → is_eq r ≡ true → r ≡ Equal
equal_from Less e = absurd (both_ways false refl e)
equal_from Equal e = refl
equal_from Greater e = absurd (both_ways false refl e)

then_equal : (r s : Ordering) → ordering_then r s ≡ Equal → (r ≡ Equal) × (s ≡ Equal)
then_equal Less s e = absurd (both_ways true (ap is_lt e) refl)
then_equal Equal s e = (refl, e)
then_equal Greater s e = absurd (both_ways true (ap is_gt e) refl)

equal_int : (a b : ℤ) → int_cmp a b ≡ Equal → a ≡ b
equal_int a b e = int_ranked a b Equal (sym e)

equal_nat : (a b : ℕ) → nat_cmp a b ≡ Equal → a ≡ b
equal_nat a b e = ranked a b Equal (sym e)

equal_dates : (a b : Dated) → compare_dates a b ≡ Equal → a ≡ b
equal_dates a b e =
    let both = then_equal (int_cmp a.0 b.0) (nat_cmp a.1 b.1) e in
    ap (λ v. (v, a.1)) (equal_int a.0 b.0 both.0) ∙ ap (λ v. (b.0, v)) (equal_nat a.1 b.1 both.1)

-- how often a date is among some
abbrev count : Dated → List Dated → ℕ
count x [] = 0
count x (z ∷ zs) = cond (is_eq (compare_dates x z)) 1 0 + count x zs

abbrev once : Dated → Dated → ℕ
once x z = cond (is_eq (compare_dates x z)) 1 0

count_is : (x : Dated) (zs : List Dated) → sum_by (once x) zs ≡ count x zs
count_is x [] = refl
count_is x (z ∷ zs) = sum_by-cons (once x) z zs ∙ ap (λ n. once x z + n) (count_is x zs)

count_none : (x : Dated) (zs : List Dated) → All (λ z. is_eq (compare_dates x z) ≡ false) zs → count x zs ≡ 0
count_none x [] all = refl
count_none x (z ∷ zs) all =
    let first : once x z ≡ 0 = ap (λ b. cond b 1 0) (All-head (λ v. is_eq (compare_dates x v) ≡ false) z zs all) in
    let rest : count x zs ≡ 0 = count_none x zs (All-tail (λ v. is_eq (compare_dates x v) ≡ false) z zs all) in
    omega (arith, first, rest)

count_self : (x : Dated) (zs : List Dated) → count x (x ∷ zs) ≡ 1 + count x zs
count_self x zs = let e : is_eq (compare_dates x x) ≡ true = ap is_eq (tied_itself total x) in rw e refl

apart : (x y z : Dated) → is_lt (compare_dates x y) ≡ true → is_lt (compare_dates z y) ≡ false → is_eq (compare_dates x z) ≡ false
apart x y z less later =
    elim (cases_Bool (is_eq (compare_dates x z))) [
      | inl e ↦ absurd (both_ways (is_lt (compare_dates x y)) (ap is_lt (total.congr x z y (equal_from (compare_dates x z) e)) ∙ later) less)
      | inr e ↦ e
    ]

-- what comes before the first of a list in order is not in it
count_before : (x y : Dated) (ys : List Dated) → Ascends (y ∷ ys) → is_lt (compare_dates x y) ≡ true → count x (y ∷ ys) ≡ 0
count_before x y ys up less =
    count_none x (y ∷ ys) (All-cons (λ z. is_eq (compare_dates x z) ≡ false) y ys (apart x y y less (ap is_lt (tied_itself total y)))
    (All-weaker (λ z. is_lt (compare_dates z y) ≡ false) (λ z. is_eq (compare_dates x z) ≡ false) (λ z later. apart x y z less later) ys up.0))

pub same_counts : (xs ys : List Dated) → Ascends xs → Ascends ys → ((x : Dated) → count x xs ≡ count x ys) → xs ≡ ys
same_counts [] [] one two counts = refl
same_counts [] (y ∷ ys) one two counts = absurd (let e : 0 ≡ count y (y ∷ ys) = counts y in let s = count_self y ys in omega arith)
same_counts (x ∷ xs) [] one two counts = absurd (let e : count x (x ∷ xs) ≡ 0 = counts x in let s = count_self x xs in omega arith)
same_counts (x ∷ xs) (y ∷ ys) one two counts =
    elim (cases_Bool (is_lt (compare_dates x y))) [
      | inl less ↦ absurd (let e = counts x in let s = count_self x xs in let n = count_before x y ys two less in omega (arith, e, s, n))
      | inr later ↦
          elim (cases_Bool (is_lt (compare_dates y x))) [
            | inl less ↦ absurd (let e = counts y in let s = count_self y ys in let n = count_before y x xs one less in omega (arith, e, s, n))
            | inr none ↦
                let same : x ≡ y = equal_dates x y (neither (compare_dates x y) later (sym (turn x y) ∙ none)) in
                ap (λ v. v ∷ xs) same
                ∙ ap (λ l. y ∷ l) (same_counts xs ys one.1 two.1 (λ z.
                let e : count z (x ∷ xs) ≡ count z (y ∷ ys) = counts z in
                let s : once z x ≡ once z y = ap (once z) same in
                omega (arith, e, s)))
          ]
    ]

-- ---- insertion

count_insert : (x a : Dated) (xs : List Dated) → count x (insert_by_date a xs) ≡ count x (a ∷ xs)
unfolding insert_by_date
count_insert x a [] = refl
count_insert x a (b ∷ more) =
    elim (cases_Bool (is_lt (compare_dates b a))) [
      | inl e ↦ rw e (let i : count x (insert_by_date a more) ≡ count x (a ∷ more) = count_insert x a more in omega (arith, i))
      | inr e ↦ rw e refl
    ]

All_insert : (P : Dated → Type 0) (a : Dated) (xs : List Dated) → P a → All P xs → All P (insert_by_date a xs)
unfolding insert_by_date
All_insert P a [] one all = All-cons P a [] one all
All_insert P a (b ∷ more) one all =
    elim (cases_Bool (is_lt (compare_dates b a))) [
      | inl e ↦ rw e (All-cons P b (insert_by_date a more) (All-head P b more all) (All_insert P a more one (All-tail P b more all)))
      | inr e ↦ rw e (All-cons P a (b ∷ more) one all)
    ]

Ascends_insert : (a : Dated) (xs : List Dated) → Ascends xs → Ascends (insert_by_date a xs)
unfolding insert_by_date
Ascends_insert a [] up = (All-nil (λ y. is_lt (compare_dates y a) ≡ false), tt)
Ascends_insert a (b ∷ more) up =
    elim (cases_Bool (is_lt (compare_dates b a))) [
      | inl e ↦
          let later : is_lt (compare_dates a b) ≡ false = turn b a ∙ not_less (compare_dates b a) e in
          rw e (All_insert (λ y. is_lt (compare_dates y b) ≡ false) a more later up.0, Ascends_insert a more up.1)
      | inr e ↦
          rw e (
            All-cons (λ y. is_lt (compare_dates y a) ≡ false) b more e (All-weaker (λ y. is_lt (compare_dates y b) ≡ false) (λ y. is_lt (compare_dates y a) ≡ false) (λ y. no_earlier a b y e) more up.0),
            up,
          )
    ]

count_by_date : (x : Dated) (xs : List Dated) → count x (by_date xs) ≡ count x xs
unfolding by_date
count_by_date x [] = refl
count_by_date x (a ∷ more) = count_insert x a (by_date more) ∙ ap (λ n. cond (is_eq (compare_dates x a)) 1 0 + n) (count_by_date x more)

Ascends_by_date : (xs : List Dated) → Ascends (by_date xs)
unfolding by_date
Ascends_by_date [] = tt
Ascends_by_date (a ∷ more) = Ascends_insert a (by_date more) (Ascends_by_date more)

-- ---- a sort

Ascends_sorted : (xs : List Dated) → IsSorted compare_dates xs → Ascends xs
Ascends_sorted [] h = tt
Ascends_sorted (x ∷ []) h = (All-nil (λ y. is_lt (compare_dates y x) ≡ false), tt)
Ascends_sorted (x ∷ y ∷ ys) h =
    let first : is_lt (compare_dates y x) ≡ false = h 0 x (omega arith) (omega arith) in
    let rest : Ascends (y ∷ ys) = Ascends_sorted (y ∷ ys) (λ k d low high.
    let e : suc k + 1 ≡ suc (k + 1) = omega arith in
    subst (λ n. is_lt (compare_dates (get_or (x ∷ y ∷ ys) n d) (get_or (y ∷ ys) k d)) ≡ false) e (h (suc k) d (omega arith) (omega arith))) in
    (All-cons (λ z. is_lt (compare_dates z x) ≡ false) y ys first (All-weaker (λ z. is_lt (compare_dates z y) ≡ false) (λ z. is_lt (compare_dates z x) ≡ false) (λ z. no_earlier x y z first) ys rest.0), rest)

pub sorted_by_date : (xs ys : List Dated) → IsPermutation xs ys → IsSorted compare_dates ys → ys ≡ by_date xs
sorted_by_date xs ys permutation sorted =
    same_counts ys (by_date xs) (Ascends_sorted ys sorted) (Ascends_by_date xs)
    (λ x. sym (count_is x ys) ∙ sum_by-IsPermutation (once x) xs ys permutation ∙ count_is x xs ∙ sym (count_by_date x xs))

-- ---- the dates of messages

pub dates_push : (k : ℕ) (xs : List Facts) (x : Facts) → dates_from k (xs ++ x ∷ []) ≡ dates_from k xs ++ (x.sent, k + length xs) ∷ []
unfolding dates_from
dates_push k [] x = ap (λ n. (x.sent, n) ∷ []) (let e : k ≡ k + 0 = omega arith in e)
dates_push k (y ∷ ys) x = ap (λ l. (y.sent, k) ∷ l) (dates_push (suc k) ys x ∙ ap (λ n. dates_from (suc k) ys ++ (x.sent, n) ∷ []) (let e : suc k + length ys ≡ k + length (y ∷ ys) = omega arith in e))

pub dates_more : (facts : List Facts) (i : ℕ) (x : Facts) → i < length facts → x ≡ get_or facts i x → dates_from 0 (take (i + 1) facts) ≡ dates_from 0 (take i facts) ++ (x.sent, i) ∷ []
dates_more facts i x less is =
    let size : 0 + length (take i facts) ≡ i = omega (arith, length-take i facts) in
    ap (dates_from 0) (take_more facts i x less) ∙ dates_push 0 (take i facts) (get_or facts i x)
    ∙ ap (λ v. dates_from 0 (take i facts) ++ (v.sent, 0 + length (take i facts)) ∷ []) (sym is)
    ∙ ap (λ n. dates_from 0 (take i facts) ++ (x.sent, n) ∷ []) size

dates_below : (k n : ℕ) (facts : List Facts) → k + length facts ≡ n → All (λ d. d.1 < n) (dates_from k facts)
unfolding dates_from
dates_below k n [] e = All-nil (λ d. d.1 < n)
dates_below k n (f ∷ more) e = All-cons (λ d. d.1 < n) (f.sent, k) (dates_from (suc k) more) (omega arith) (dates_below (suc k) n more (omega arith))

pub order_below : (facts : List Facts) (ys : List Dated) → IsPermutation (dates_from 0 facts) ys → All (λ place. place < length facts) (map (λ d. d.1) ys)
order_below facts ys permutation = All-map (λ place. place < length facts) (λ d. d.1) ys (All-permutation (λ d. d.1 < length facts) (dates_from 0 facts) ys permutation (dates_below 0 (length facts) facts (omega arith)))

length_insert : (a : Dated) (xs : List Dated) → length (insert_by_date a xs) ≡ length xs + 1
unfolding insert_by_date
length_insert a [] = let e : 1 ≡ 0 + 1 = omega arith in e
length_insert a (b ∷ more) =
    elim (cases_Bool (is_lt (compare_dates b a))) [
      | inl e ↦ rw e (let i = length_insert a more in omega (arith, i))
      | inr e ↦ rw e (omega arith)
    ]

length_by_date : (xs : List Dated) → length (by_date xs) ≡ length xs
unfolding by_date
length_by_date [] = refl
length_by_date (a ∷ more) = let one = length_insert a (by_date more) in let rest = length_by_date more in omega (arith, one, rest)

length_dates : (k : ℕ) (facts : List Facts) → length (dates_from k facts) ≡ length facts
unfolding dates_from
length_dates k [] = refl
length_dates k (f ∷ more) = ap suc (length_dates (suc k) more)

pub length_order : (facts : List Facts) → length (date_order facts) ≡ length facts
unfolding date_order
length_order facts = length-map (by_date (dates_from 0 facts)) (λ d. d.1) ∙ length_by_date (dates_from 0 facts) ∙ length_dates 0 facts
