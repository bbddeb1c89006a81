-- The items of a FETCH, item by item.
use Rattle.std.proofs.Common.{◌≡◌, ℕ, suc, ◌+◌, ◌-◌, ◌<◌, ◌≤◌, Bool, true, false, List, [], ◌∷◌, ◌++◌, refl, sym, ap, ◌∙◌, arith, append_assoc, Option, Some, None}
use Rattle.imap_values.specs.declared.error.ParseError.{ParseError}
use Rattle.imap_values.specs.declared.error.ParseError.TheVariants as errors
use Rattle.imap_grammar.specs.declared.response.Item.{Item}
use Rattle.imap_values.specs.Words.{FailsAs}
use Rattle.imap_grammar.specs.ItemData.{ItemData, item_data_of, items_data_of}
use Rattle.imap_grammar.specs.Items.{item_at, items_at, item_end_at, continue_items, prepend_item}

-- items in front of those that are read after them
abbrev pub prepend_items : List ItemData → Option (List ItemData × List ℕ) → Option (List ItemData × List ℕ)
prepend_items front None = None
prepend_items front (Some x) = Some (front ++ x.0, x.1)

pub items_data_of-push : (is : List Item) (i : Item) → items_data_of (is ++ i ∷ []) ≡ items_data_of is ++ item_data_of i ∷ []
items_data_of-push [] i = refl
items_data_of-push (j ∷ is) i = ap (λ (ts : List ItemData). item_data_of j ∷ ts) (items_data_of-push is i)

regroup : (front : List ItemData) (t : ItemData) (more : Option (List ItemData × List ℕ)) → prepend_items front (prepend_item t more) ≡ prepend_items (front ++ t ∷ []) more
regroup front t None = refl
regroup front t (Some x) = ap (λ (ts : List ItemData). Some (ts, x.1)) (sym (append_assoc front (t ∷ []) x.0))

step : (n : ℕ) (left rest after : List ℕ) (t : ItemData) (ends : Bool) → item_at left ≡ Some (t, rest) → item_end_at rest ≡ Some (ends, after) → items_at (suc n) left ≡ continue_items t ends after (items_at n after)
unfolding items_at
step n left rest after t ends e f = rw (e, f) refl

pub goes_on : (front : List ItemData) (count k : ℕ) (left rest after : List ℕ) (t : ItemData) (ends : Bool) (total : Option (List ItemData × List ℕ)) → k < count → item_at left ≡ Some (t, rest) → item_end_at rest ≡ Some (ends, after) → ends ≡ false
    → prepend_items front (items_at (count - k) left) ≡ total → prepend_items (front ++ t ∷ []) (items_at (count - (k + 1)) after) ≡ total
goes_on front count k left rest after t ends total lt e f test so =
    let n : count - k ≡ suc (count - (k + 1)) = omega arith in
    let one : items_at (count - k) left ≡ prepend_item t (items_at (count - (k + 1)) after) =
    ap (λ (m : ℕ). items_at m left) n ∙ step (count - (k + 1)) left rest after t ends e f ∙ ap (λ (b : Bool). continue_items t b after (items_at (count - (k + 1)) after)) test in
    sym (ap (prepend_items front) one ∙ regroup front t (items_at (count - (k + 1)) after)) ∙ so

pub ends_here : (front : List ItemData) (count k : ℕ) (left rest after : List ℕ) (t : ItemData) (ends : Bool) (total : Option (List ItemData × List ℕ)) → k < count → item_at left ≡ Some (t, rest) → item_end_at rest ≡ Some (ends, after) → ends ≡ true
    → prepend_items front (items_at (count - k) left) ≡ total → total ≡ Some (front ++ t ∷ [], after)
ends_here front count k left rest after t ends total lt e f test so =
    let n : count - k ≡ suc (count - (k + 1)) = omega arith in
    let one : items_at (count - k) left ≡ Some (t ∷ [], after) =
    ap (λ (m : ℕ). items_at m left) n ∙ step (count - (k + 1)) left rest after t ends e f ∙ ap (λ (b : Bool). continue_items t b after (items_at (count - (k + 1)) after)) test in
    sym so ∙ ap (prepend_items front) one

pub no_item : (s : ParseError) (front : List ItemData) (count k : ℕ) (left : List ℕ) (total : Option (List ItemData × List ℕ)) → k < count → FailsAs s (item_at left) → prepend_items front (items_at (count - k) left) ≡ total → FailsAs s total
unfolding items_at
no_item errors.Memory front count k left total lt e so = tt
no_item errors.NotInGrammar front count k left total lt e so =
    let n : count - k ≡ suc (count - (k + 1)) = omega arith in
    let one : prepend_items front (items_at (count - k) left) ≡ None = rw (n, e) refl in
    sym so ∙ one

pub no_separator : (s : ParseError) (front : List ItemData) (count k : ℕ) (left rest : List ℕ) (t : ItemData) (total : Option (List ItemData × List ℕ)) → k < count → item_at left ≡ Some (t, rest) → FailsAs s (item_end_at rest) → prepend_items front (items_at (count - k) left) ≡ total → FailsAs s total
unfolding items_at
no_separator errors.Memory front count k left rest t total lt e f so = tt
no_separator errors.NotInGrammar front count k left rest t total lt e f so =
    let n : count - k ≡ suc (count - (k + 1)) = omega arith in
    let one : prepend_items front (items_at (count - k) left) ≡ None = rw (n, e, f) refl in
    sym so ∙ one

pub none_left : (front : List ItemData) (count k : ℕ) (left : List ℕ) (total : Option (List ItemData × List ℕ)) → count ≤ k → prepend_items front (items_at (count - k) left) ≡ total → total ≡ None
unfolding items_at
none_left front count k left total le so =
    let n : count - k ≡ 0 = omega arith in
    let one : prepend_items front (items_at (count - k) left) ≡ None = rw n refl in
    sym so ∙ one

nil_front : (o : Option (List ItemData × List ℕ)) → prepend_items [] o ≡ o
nil_front None = refl
nil_front (Some x) = refl

pub at_start : (n : ℕ) (left : List ℕ) → prepend_items [] (items_at (n - 0) left) ≡ items_at n left
at_start n left = let same : n - 0 ≡ n = omega arith in rw same (nil_front (items_at n left))
