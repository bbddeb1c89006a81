-- The flags of open elements, and what isn't open.
use Rattle.std.proofs.Common.{◌≡◌, ◌≢◌, ◌<◌, ℕ, zero, suc, Bool, true, false, not, ◌||◌, if◌then◌else◌, List, [], ◌∷◌, ◌++◌, length, map, take, drop, reverse, get_or, set, refl, sym, ap, subst, ◌∙◌, arith, inl, inr}
use Rattle.std.proofs.lemmas.Bool.{cases_Bool}
use Rattle.std.proofs.lemmas.List.{map-append, reverse-append, length-reverse, get_or-set_same, get_or-set_other, length-set}
use Rattle.std.proofs.lemmas.List.Folds.{list_any-append, list_all-append}
use Rattle.std.specs.List.{list_all, prefix_len, suffix_len, position_or_len}
use Rattle.html_syntax.specs.Tokenizer.{same, is_among}
use Rattle.html_rules.specs.Tables.{Name, message_elements}
use Rattle.html_rules.proofs.Facts.{and_true, or_false, no_of, same-true, same-refl}
use Rattle.html_wash.specs.Closings.{Lookup, region, looked_up, blocks, begins_with_element, ended}
use Rattle.html_wash.specs.Elements.{name_of, number_of}
use Rattle.html_wash.specs.Seen.{stack, FlagsOpen, are_absent}
use Rattle.html_wash.specs.declared.element.Element.{Element}
use Rattle.html_wash.proofs.Elements.{number_below, same_numbers}

-- ---- the flags

pub none_open : (flags : List Bool) → length flags ≡ 58 → FlagsOpen flags []
none_open flags size = record { size = size; each = λ e h. absurd cc }

same_number : (a b : Element) → name_of a ≡ name_of b → number_of a ≡ number_of b
unfolding number_of
same_number a b e = ap (λ (name : Name). position_or_len (λ n. same n name) message_elements) e

set_size : (flags : List Bool) (i : ℕ) (b : Bool) → length (set flags i b) ≡ length flags
set_size flags i b = length-set flags i b

other_number : (x e : Element) → same (name_of x) (name_of e) ≡ false → number_of e ≢ number_of x
other_number x e h k = let no : true ≡ false = sym (same-refl (name_of e)) ∙ ap (λ (n : Name). same n (name_of e)) (same_numbers e x k) ∙ h in absurd cc

flag_more : (flags : List Bool) (elements : List Element) (x e : Element) → FlagsOpen flags elements → is_among (map name_of elements) (name_of e) ≡ true → get_or (set flags (number_of x) true) (number_of e) false ≡ true
flag_more flags elements x e f h = elim (cases_Bool (same (name_of x) (name_of e))) [
  | inl is ↦
      let n : number_of e ≡ number_of x = sym (same_number x e (same-true (name_of x) (name_of e) is)) in
      ap (λ i. get_or (set flags (number_of x) true) i false) n ∙ get_or-set_same flags (number_of x) true false (subst (λ k. number_of x < k) (sym f.size) (number_below x))
  | inr other ↦ get_or-set_other flags (number_of x) (number_of e) true false (other_number x e other) ∙ f.each e h
]

flag_one : (flags : List Bool) (x e : Element) → length flags ≡ 58 → same (name_of x) (name_of e) ≡ true → get_or (set flags (number_of x) true) (number_of e) false ≡ true
flag_one flags x e size is =
    let n : number_of e ≡ number_of x = sym (same_number x e (same-true (name_of x) (name_of e) is)) in
    ap (λ i. get_or (set flags (number_of x) true) i false) n ∙ get_or-set_same flags (number_of x) true false (subst (λ k. number_of x < k) (sym size) (number_below x))

or_no : (b : Bool) → (b || false) ≡ b
or_no true = refl
or_no false = refl

among_more : (elements : List Element) (x : Element) (name : Name) → is_among (map name_of (elements ++ x ∷ [])) name ≡ (is_among (map name_of elements) name || same (name_of x) name)
among_more elements x name =
    ap (λ names. is_among names name) (map-append name_of elements (x ∷ []))
    ∙ list_any-append (λ n. same n name) (map name_of elements) (name_of x ∷ [])
    ∙ ap (λ b. is_among (map name_of elements) name || b) (or_no (same (name_of x) name))

pub one_more : (flags more : List Bool) (elements items : List Element) (x : Element) → FlagsOpen flags elements → more ≡ set flags (number_of x) true → items ≡ elements ++ x ∷ [] → FlagsOpen more items
one_more flags more elements items x f m i =
    let all : FlagsOpen (set flags (number_of x) true) (elements ++ x ∷ []) =
    record {
      size = set_size flags (number_of x) true ∙ f.size;
      each = λ e h. elim (cases_Bool (is_among (map name_of elements) (name_of e))) [
        | inl before ↦ flag_more flags elements x e f before
        | inr new ↦ flag_one flags x e f.size (ap (λ b. b || same (name_of x) (name_of e)) (sym new) ∙ sym (among_more elements x (name_of e)) ∙ h)
      ];
    } in
    rw (m, i) all

pub one_less : (flags : List Bool) (elements rest : List Element) (x : Element) → FlagsOpen flags elements → elements ≡ rest ++ x ∷ [] → FlagsOpen flags rest
one_less flags elements rest x f i =
    record {
      size = f.size;
      each = λ e h. f.each e (ap (λ (es : List Element). is_among (map name_of es) (name_of e)) i ∙ among_more rest x (name_of e) ∙ ap (λ b. b || same (name_of x) (name_of e)) h);
    }

among_of_same : (elements : List Element) (x e : Element) → same (name_of x) (name_of e) ≡ true → is_among (map name_of elements) (name_of e) ≡ is_among (map name_of elements) (name_of x)
among_of_same elements x e is = ap (is_among (map name_of elements)) (sym (same-true (name_of x) (name_of e) is))

pub one_gone : (flags less : List Bool) (rest : List Element) (x : Element) → FlagsOpen flags rest → is_among (map name_of rest) (name_of x) ≡ false → less ≡ set flags (number_of x) false → FlagsOpen less rest
one_gone flags less rest x f gone m =
    let all : FlagsOpen (set flags (number_of x) false) rest =
    record {
      size = set_size flags (number_of x) false ∙ f.size;
      each = λ e h. elim (cases_Bool (same (name_of x) (name_of e))) [
        | inl is ↦ let no : true ≡ false = sym h ∙ among_of_same rest x e is ∙ gone in absurd cc
        | inr other ↦ get_or-set_other flags (number_of x) (number_of e) false false (other_number x e other) ∙ f.each e h
      ];
    } in
    rw m all

swapped : (a b : Bool) → (a || (b || false)) ≡ (b || a)
swapped true true = refl
swapped true false = refl
swapped false true = refl
swapped false false = refl

or_right_true : (a b : Bool) → b ≡ true → (a || b) ≡ true
or_right_true true b h = refl
or_right_true false b h = h

among_reverse : (names : List Name) (name : Name) → is_among (reverse names) name ≡ is_among names name
among_reverse [] name = refl
among_reverse (n ∷ names) name =
    ap (λ ns. is_among ns name) (reverse-append (n ∷ []) names)
    ∙ list_any-append (λ m. same m name) (reverse names) (n ∷ [])
    ∙ ap (λ b. b || (same n name || false)) (among_reverse names name)
    ∙ swapped (is_among names name) (same n name)

pub not_flagged : (flags : List Bool) (elements : List Element) (opened : List Name) (e : Element) → FlagsOpen flags elements → stack elements ≡ opened → get_or flags (number_of e) false ≡ false → is_among opened (name_of e) ≡ false
not_flagged flags elements opened e f view h =
    ap (λ ns. is_among ns (name_of e)) (sym view) ∙ among_reverse (map name_of elements) (name_of e)
    ∙ elim (cases_Bool (is_among (map name_of elements) (name_of e))) [
      | inl there ↦ let no : true ≡ false = sym (f.each e there) ∙ h in absurd cc
      | inr absent ↦ absent
    ]

-- ---- what isn't open is neither ended nor looked up

not_begins : (name : Name) (opened : List Name) (n : ℕ) → is_among opened name ≡ false → begins_with_element name (drop n opened) ≡ false
not_begins name [] zero h = refl
not_begins name [] (suc n) h = refl
not_begins name (x ∷ xs) zero h = (or_false (same x name) (is_among xs name) h).0
not_begins name (x ∷ xs) (suc n) h = not_begins name xs n (or_false (same x name) (is_among xs name) h).1

pub ended_absent : (name : Name) (opened : List Name) → is_among opened name ≡ false → ended name opened ≡ 0
unfolding ended
ended_absent name opened h =
    let n = position_or_len (λ (element : Name). same element name || blocks name element) opened in
    ap (λ (b : Bool). if b then suc n else 0) (not_begins name opened n h)

all_taken : (p : Name → Bool) (n : ℕ) (xs : List Name) → list_all p xs ≡ true → list_all p (take n xs) ≡ true
all_taken p zero xs h = refl
all_taken p (suc n) [] h = refl
all_taken p (suc n) (x ∷ xs) h = let both = and_true (p x) (list_all p xs) h in rw both.0 (all_taken p n xs both.1)

all_prefix : (p : Name → Bool) (xs : List Name) → list_all p xs ≡ true → prefix_len p xs ≡ length xs
all_prefix p [] h = refl
all_prefix p (x ∷ xs) h = let both = and_true (p x) (list_all p xs) h in let rest = all_prefix p xs both.1 in rw both.0 (omega (arith, rest))

all_reversed : (p : Name → Bool) (xs : List Name) → list_all p xs ≡ true → list_all p (reverse xs) ≡ true
all_reversed p [] h = refl
all_reversed p (x ∷ xs) h =
    let both = and_true (p x) (list_all p xs) h in
    ap (list_all p) (reverse-append (x ∷ []) xs) ∙ list_all-append p (reverse xs) (x ∷ []) ∙ rw (all_reversed p xs both.1, both.0) refl

-- no open element is among the names
not_closed : (closes opened : List Name) (x : Name) → are_absent opened closes ≡ true → is_among opened x ≡ true → is_among closes x ≡ false
not_closed [] opened x h there = refl
not_closed (c ∷ closes) opened x h there =
    let both = and_true (not (is_among opened c)) (are_absent opened closes) h in
    elim (cases_Bool (same c x)) [
      | inl is ↦ let no : true ≡ false = sym there ∙ ap (is_among opened) (sym (same-true c x is)) ∙ no_of (is_among opened c) both.0 in absurd cc
      | inr other ↦ rw other (not_closed closes opened x both.1 there)
    ]

all_kept : (closes opened xs : List Name) → are_absent opened closes ≡ true → ((x : Name) → is_among xs x ≡ true → is_among opened x ≡ true) → list_all (λ name. not (is_among closes name)) xs ≡ true
all_kept closes opened [] h f = refl
all_kept closes opened (x ∷ xs) h f =
    let first : is_among closes x ≡ false = not_closed closes opened x h (f x (ap (λ b. b || is_among xs x) (same-refl x))) in
    rw first (all_kept closes opened xs h (λ y there. f y (or_right_true (same x y) (is_among xs y) there)))

pub looked_up_absent : (l : Lookup) (opened : List Name) → are_absent opened l.closes ≡ true → looked_up l opened ≡ 0
unfolding looked_up
looked_up_absent l opened h =
    let p : Name → Bool = λ name. not (is_among l.closes name) in
    let r = region l opened in
    let all : list_all p r ≡ true = all_taken p (position_or_len (is_among l.stops) opened) opened (all_kept l.closes opened opened h (λ x there. there)) in
    let size : suffix_len p r ≡ length r = all_prefix p (reverse r) (all_reversed p r all) ∙ length-reverse r in
    omega (arith, size)
