-- The first listed name at the beginning of a text is the longest name of the definition.
use Rattle.std.proofs.Common.{◌≡◌, ℕ, ◌+◌, ◌≤◌, nat_lt, Bool, true, false, not, ◌&&◌, ◌==◌, if◌then◌else◌, List, [], ◌∷◌, ◌++◌, length, drop, map, Option, Some, None, option_map, refl, sym, ap, ◌∙◌, inl, inr, arith, length-append, eq-eqb, slice_index, rules}
use Rattle.std.proofs.lemmas.Bool.{cases_Bool, and_parts, eqb-true}
use Rattle.std.specs.List.{list_all}
use Rattle.html_syntax.specs.Characters.{semicolon}
use Rattle.html_references.specs.declared.names.FoundName.{FoundName}
use Rattle.html_syntax.specs.Names.{Name, names, names_without_semicolon, further_names, with_semicolon}
use Rattle.html_syntax.specs.References.{begins_with, longest, longer, is_closed, name_reference}
use Rattle.html_references.specs.CodeReferences.{Listed, listed_names, optional, required, begins_with_char, listed_with_first, found_in, found_at, found_name, found_reference}

-- ---- two words that a text begins with

pub begins-both : (v w text : List ℕ) → begins_with v w ≡ false → begins_with w v ≡ false → begins_with v text ≡ true → begins_with w text ≡ false
begins-both [] w text vw wv bv = absurd cc
begins-both (x ∷ v) [] text vw wv bv = absurd cc
begins-both (x ∷ v) (y ∷ w) [] vw wv bv = absurd cc
begins-both (x ∷ v) (y ∷ w) (c ∷ text) vw wv bv =
    let parts = and_parts (x == c) (begins_with v text) bv in
    elim (cases_Bool (y == c)) [
      | inl is ↦
          let same : x ≡ y = eqb-true x c parts.0 ∙ sym (eqb-true y c is) in
          rw is (begins-both v w text (tail x y v w same vw) (tail y x w v (sym same) wv) parts.1)
      | inr other ↦ rw other refl
    ]
  where
    tail : (x y : ℕ) (v w : List ℕ) → x ≡ y → begins_with (x ∷ v) (y ∷ w) ≡ false → begins_with v w ≡ false
    tail x y v w same h = ap (λ (b : Bool). b && begins_with v w) (sym (eq-eqb x y same)) ∙ h

pub begins_fits : (word text : List ℕ) → begins_with word text ≡ true → length word ≤ length text
begins_fits [] text h = omega arith
begins_fits (x ∷ word) [] h = absurd cc
begins_fits (x ∷ word) (c ∷ text) h = omega (arith, begins_fits word text (and_parts (x == c) (begins_with word text) h).1)

-- the word and a semicolon
begins-closed : (word text : List ℕ) → begins_with word text ≡ true → begins_with (word ++ semicolon ∷ []) text ≡ begins_with (semicolon ∷ []) (drop (length word) text)
begins-closed [] text h = refl
begins-closed (x ∷ word) [] h = absurd cc
begins-closed (x ∷ word) (c ∷ text) h = let parts = and_parts (x == c) (begins_with word text) h in rw parts.0 (begins-closed word text parts.1)

not_closed : (word text : List ℕ) → begins_with word text ≡ false → begins_with (word ++ semicolon ∷ []) text ≡ false
not_closed [] text h = absurd cc
not_closed (x ∷ word) [] h = refl
not_closed (x ∷ word) (c ∷ text) h = elim (cases_Bool (x == c)) [
  | inl is ↦ rw is (not_closed word text (ap (λ (b : Bool). b && begins_with word text) (sym is) ∙ h))
  | inr other ↦ rw other refl
]

-- ---- names that do not begin one another

apart : Name → Name → Bool
apart n m = not (begins_with n.spelling m.spelling) && not (begins_with m.spelling n.spelling)

all_apart : List Name → Bool
all_apart [] = true
all_apart (n ∷ ns) = list_all (apart n) ns && all_apart ns

-- the first of these names
first : List Name → List ℕ → Option Name
first [] text = None
first (n ∷ ns) text = if begins_with n.spelling text then Some n else first ns text

first_none : (n : Name) (ns : List Name) (text : List ℕ) → list_all (apart n) ns ≡ true → begins_with n.spelling text ≡ true → first ns text ≡ None
unfolding first apart
first_none n [] text h b = refl
first_none n (m ∷ ns) text h b =
    let parts = and_parts (apart n m) (list_all (apart n) ns) h in
    let both = and_parts (not (begins_with n.spelling m.spelling)) (not (begins_with m.spelling n.spelling)) parts.0 in
    rw (begins-both n.spelling m.spelling text (not_true _ both.0) (not_true _ both.1) b) (first_none n ns text parts.1 b)
  where
    not_true : (b : Bool) → not b ≡ true → b ≡ false
    not_true true h = absurd cc
    not_true false h = refl

-- a name that was found, with its semicolon
closed_at : Option Name → List ℕ → Option Name
closed_at None text = None
closed_at (Some n) text = if begins_with (n.spelling ++ semicolon ∷ []) text then Some (with_semicolon n) else None

longest-closed : (ns : List Name) (text : List ℕ) → all_apart ns ≡ true → longest (map with_semicolon ns) text ≡ closed_at (first ns text) text
unfolding first closed_at all_apart
longest-closed [] text h = refl
longest-closed (n ∷ ns) text h =
    let parts = and_parts (list_all (apart n) ns) (all_apart ns) h in
    let rest = longest-closed ns text parts.1 in
    elim (cases_Bool (begins_with n.spelling text)) [
      | inl is ↦
          let none : longest (map with_semicolon ns) text ≡ None = rest ∙ ap (λ (o : Option Name). closed_at o text) (first_none n ns text parts.0 is) in
          rw (is, none) refl
      | inr other ↦ rw (other, not_closed n.spelling text other) rest
    ]

-- the longer one of a name that was found and another
longer_of : Option Name → Option Name → Option Name
longer_of None best = best
longer_of (Some n) best = longer n best

longest-bare : (bs ns : List Name) (text : List ℕ) → all_apart bs ≡ true → longest (bs ++ ns) text ≡ longer_of (first bs text) (longest ns text)
unfolding first longer_of all_apart
longest-bare [] ns text h = refl
longest-bare (n ∷ bs) ns text h =
    let parts = and_parts (list_all (apart n) bs) (all_apart bs) h in
    let rest = longest-bare bs ns text parts.1 in
    elim (cases_Bool (begins_with n.spelling text)) [
      | inl is ↦
          let none : longest (bs ++ ns) text ≡ longest ns text = rest ∙ ap (λ (o : Option Name). longer_of o (longest ns text)) (first_none n bs text parts.0 is) in
          rw (is, none) refl
      | inr other ↦ rw other rest
    ]

-- ---- the name that the code finds

either : Option Name → Option Name → Option Name
either None other = other
either (Some n) other = Some n

first-append : (bs fs : List Name) (text : List ℕ) → first (bs ++ fs) text ≡ either (first bs text) (first fs text)
unfolding first either
first-append [] fs text = refl
first-append (n ∷ bs) fs text = elim (cases_Bool (begins_with n.spelling text)) [
  | inl is ↦ rw is refl
  | inr other ↦ rw other (first-append bs fs text)
]

required_at : Option Name → List ℕ → Option FoundName
required_at None text = None
required_at (Some n) text = found_at (required n) (drop (length n.spelling) text)

optional_at : Option Name → Option FoundName → List ℕ → Option FoundName
optional_at None other text = other
optional_at (Some n) other text = found_at (optional n) (drop (length n.spelling) text)

found-required : (fs : List Name) (text : List ℕ) → found_in (map required fs) text ≡ required_at (first fs text) text
unfolding first required_at
found-required [] text = refl
found-required (n ∷ fs) text = elim (cases_Bool (begins_with n.spelling text)) [
  | inl is ↦ rw is refl
  | inr other ↦ rw other (found-required fs text)
]

found-all : (bs fs : List Name) (text : List ℕ) → found_in (map optional bs ++ map required fs) text ≡ optional_at (first bs text) (required_at (first fs text) text) text
unfolding first optional_at
found-all [] fs text = found-required fs text
found-all (n ∷ bs) fs text = elim (cases_Bool (begins_with n.spelling text)) [
  | inl is ↦ rw is refl
  | inr other ↦ rw other (found-all bs fs text)
]

-- ---- both are the same

is_open : Name → Bool
is_open n = not (is_closed n.spelling)

closes : (word : List ℕ) → is_closed (word ++ semicolon ∷ []) ≡ true
closes [] = refl
closes (c ∷ []) = refl
closes (c ∷ d ∷ word) = closes (d ∷ word)

-- the text begins with the name, if there is one
abbrev Begins : List ℕ → Option Name → Type 0
Begins text None = Unit {0}
Begins text (Some n) = begins_with n.spelling text ≡ true

-- and it ends with no semicolon
abbrev BeginsOpen : List ℕ → Option Name → Type 0
BeginsOpen text None = Unit {0}
BeginsOpen text (Some n) = (begins_with n.spelling text ≡ true) × (is_closed n.spelling ≡ false)

first_begins : (ns : List Name) (text : List ℕ) → Begins text (first ns text)
unfolding first
first_begins [] text = tt
first_begins (n ∷ ns) text = elim (cases_Bool (begins_with n.spelling text)) [
  | inl is ↦ rw is is
  | inr other ↦ rw other (first_begins ns text)
]

first_open : (ns : List Name) (text : List ℕ) → list_all is_open ns ≡ true → BeginsOpen text (first ns text)
unfolding first is_open
first_open [] text h = tt
first_open (n ∷ ns) text h =
    let parts = and_parts (is_open n) (list_all is_open ns) h in
    elim (cases_Bool (begins_with n.spelling text)) [
      | inl is ↦ rw is (is, not_true (is_closed n.spelling) parts.0)
      | inr other ↦ rw other (first_open ns text parts.1)
    ]
  where
    not_true : (b : Bool) → not b ≡ true → b ≡ false
    not_true true h = absurd cc
    not_true false h = refl

read-closed : (n : Name) → found_name (with_semicolon n) ≡ record { len = length n.spelling + 1; character = n.char; is_closed = true }
read-closed n = rw (closes n.spelling, length-append n.spelling (semicolon ∷ [])) refl

longer-closed : (n : Name) → longer n (Some (with_semicolon n)) ≡ Some (with_semicolon n)
longer-closed n =
    let lt : nat_lt (length n.spelling) (length (n.spelling ++ semicolon ∷ [])) ≡ true = rw (length-append n.spelling (semicolon ∷ [])) (search (arith, rules)) in
    rw lt refl

same_required : (o : Option Name) (text : List ℕ) → Begins text o → option_map found_name (closed_at o text) ≡ required_at o text
unfolding closed_at required_at
same_required None text b = refl
same_required (Some n) text b = elim (cases_Bool (begins_with (n.spelling ++ semicolon ∷ []) text)) [
  | inl is ↦ rw (is, sym (begins-closed n.spelling text b) ∙ is) (ap (λ (r : FoundName). Some r) (read-closed n))
  | inr other ↦ rw (other, sym (begins-closed n.spelling text b) ∙ other) refl
]

same_found : (o p : Option Name) (text : List ℕ) → BeginsOpen text o → Begins text p
    → option_map found_name (longer_of o (closed_at (either o p) text)) ≡ optional_at o (required_at p text) text
unfolding closed_at longer_of either optional_at
same_found None p text b c = same_required p text c
same_found (Some n) p text b c = elim (cases_Bool (begins_with (n.spelling ++ semicolon ∷ []) text)) [
  | inl is ↦ rw (is, sym (begins-closed n.spelling text b.0) ∙ is, longer-closed n) (ap (λ (r : FoundName). Some r) (read-closed n))
  | inr other ↦ rw (other, sym (begins-closed n.spelling text b.0) ∙ other, b.1) refl
]

found-longest : (bs fs : List Name) (text : List ℕ) → all_apart bs ≡ true → all_apart (bs ++ fs) ≡ true → list_all is_open bs ≡ true
    → found_in (map optional bs ++ map required fs) text ≡ option_map found_name (longest (bs ++ map with_semicolon (bs ++ fs)) text)
found-longest bs fs text few all open_ones =
    found-all bs fs text
    ∙ sym (same_found (first bs text) (first fs text) text (first_open bs text open_ones) (first_begins fs text))
    ∙ ap (λ (o : Option Name). option_map found_name (longer_of (first bs text) (closed_at o text))) (sym (first-append bs fs text))
    ∙ ap (λ (o : Option Name). option_map found_name (longer_of (first bs text) o)) (sym (longest-closed (bs ++ fs) text all))
    ∙ ap (λ (o : Option Name). option_map found_name o) (sym (longest-bare bs (map with_semicolon (bs ++ fs)) text few))

bare_apart : all_apart names_without_semicolon ≡ true
unfolding all_apart apart
bare_apart = refl

names_apart : all_apart (names_without_semicolon ++ further_names) ≡ true
unfolding all_apart apart
names_apart = refl

bare_open : list_all is_open names_without_semicolon ≡ true
unfolding is_open
bare_open = refl

-- ---- by their first letter

is_word : List ℕ → Bool
is_word [] = false
is_word (c ∷ word) = true

is_spelled : Listed → Bool
is_spelled n = is_word n.name.spelling

all_spelled : list_all is_spelled listed_names ≡ true
unfolding is_spelled is_word listed_names
all_spelled = refl

begins-other : (c : ℕ) (cs word : List ℕ) → is_word word ≡ true → begins_with_char c word ≡ false → begins_with word (c ∷ cs) ≡ false
unfolding is_word
begins-other c cs [] h other = absurd cc
begins-other c cs (x ∷ word) h other = rw other refl

found-first : (ns : List Listed) (c : ℕ) (cs : List ℕ) → list_all is_spelled ns ≡ true → found_in (listed_with_first c ns) (c ∷ cs) ≡ found_in ns (c ∷ cs)
unfolding is_spelled
found-first [] c cs h = refl
found-first (n ∷ ns) c cs h =
    let parts = and_parts (is_word n.name.spelling) (list_all is_spelled ns) h in
    let rest = found-first ns c cs parts.1 in
    elim (cases_Bool (begins_with_char c n.name.spelling)) [
      | inl is ↦ rw (is, rest) refl
      | inr other ↦ rw (other, begins-other c cs n.name.spelling parts.0 other) rest
    ]

listed-longest : (text : List ℕ) → found_in listed_names text ≡ option_map found_name (longest names text)
unfolding listed_names
listed-longest text = found-longest names_without_semicolon further_names text bare_apart names_apart bare_open

pub found_is_longest : (text : List ℕ) → 1 ≤ length text → found_in (listed_with_first (slice_index text 0) listed_names) text ≡ option_map found_name (longest names text)
found_is_longest [] some = absurd (omega (arith, some))
found_is_longest (c ∷ cs) some = found-first listed_names c cs all_spelled ∙ listed-longest (c ∷ cs)

pub name_reference-found : (in_attribute : Bool) (o : Option Name) (text : List ℕ) → found_reference in_attribute (option_map found_name o) text ≡ name_reference in_attribute o text
name_reference-found in_attribute None text = refl
name_reference-found in_attribute (Some n) text = refl
