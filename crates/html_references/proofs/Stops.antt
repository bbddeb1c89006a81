-- Characters before which a reference ends: it is the same, whatever text begins with one of them.
use Rattle.std.proofs.Common.{◌≡◌, ℕ, ◌+◌, ◌≤◌, Bool, true, false, not, ◌&&◌, ◌||◌, ◌==◌, ltb, List, [], ◌∷◌, ◌++◌, length, drop, take_while, ◌*◌, refl, sym, ap, ◌∙◌, arith, inl, inr, Option, Some, None, cond, fold}
use Rattle.std.proofs.lemmas.Bool.{cases_Bool, and_parts, both_ways, eqb-true}
use Rattle.std.proofs.lemmas.Bool.Decides.{nat_tests}
use Rattle.std.proofs.lemmas.List.{drop-append-le, length-drop}
use Rattle.std.proofs.lemmas.List.Sums.{take_while-cons}
use Rattle.std.specs.List.{list_all}
use Rattle.std.specs.Char.{digit_value}
use Rattle.html_syntax.specs.Characters.{number_sign, semicolon, equals_sign, is_letter, is_digit}
use Rattle.html_syntax.specs.Names.{Name, names}
use Rattle.html_syntax.specs.References.{reference, no_reference, is_hex, begins_with, longer, longest, continues_name, is_closed, name_reference, number_reference, digits_reference, semicolon_len, char_of}

-- a character of a reference's spelling, or one that decides in an attribute whether a name is one
abbrev pub is_of_reference : ℕ → Bool
is_of_reference c = is_letter c || is_digit c || c == number_sign || c == semicolon || c == equals_sign

-- the text doesn't begin with such a character
abbrev pub Stops : List ℕ → Type 0
Stops [] = Unit {0}
Stops (c ∷ text) = is_of_reference c ≡ false

-- ---- names

spelt : (n : Name) → Bool
spelt n = list_all is_of_reference n.spelling

all_spelt : list_all spelt names ≡ true
unfolding spelt
all_spelt = refl

pub begins-stop : (w cs more : List ℕ) → Stops more → list_all is_of_reference w ≡ true → begins_with w (cs ++ more) ≡ begins_with w cs
begins-stop [] cs more s h = refl
begins-stop (x ∷ w) [] [] s h = refl
begins-stop (x ∷ w) [] (c ∷ more) s h = elim (cases_Bool (x == c)) [
  | inl is ↦ absurd (both_ways (is_of_reference c) s (sym (ap is_of_reference (eqb-true x c is)) ∙ (and_parts (is_of_reference x) (list_all is_of_reference w) h).0))
  | inr other ↦ rw other refl
]
begins-stop (x ∷ w) (c ∷ cs) more s h = ap (λ (b : Bool). x == c && b) (begins-stop w cs more s (and_parts (is_of_reference x) (list_all is_of_reference w) h).1)

longest-stop : (ns : List Name) (cs more : List ℕ) → Stops more → list_all spelt ns ≡ true → longest ns (cs ++ more) ≡ longest ns cs
unfolding spelt
longest-stop [] cs more s h = refl
longest-stop (n ∷ ns) cs more s h =
    let parts = and_parts (list_all is_of_reference n.spelling) (list_all spelt ns) h in
    rw (begins-stop n.spelling cs more s parts.0, longest-stop ns cs more s parts.1) refl

pub begins-len : (w cs : List ℕ) → begins_with w cs ≡ true → length w ≤ length cs
begins-len [] cs h = omega arith
begins-len (x ∷ w) [] h = absurd cc
begins-len (x ∷ w) (c ∷ cs) h = omega (arith, begins-len w cs (and_parts (x == c) (begins_with w cs) h).1)

-- the longest name is no longer than the text
abbrev Within : List ℕ → Option Name → Type 0
Within cs None = Unit {0}
Within cs (Some n) = length n.spelling ≤ length cs

longer-within : (cs : List ℕ) (n : Name) (best : Option Name) → length n.spelling ≤ length cs → Within cs best → Within cs (longer n best)
longer-within cs n None le h = le
longer-within cs n (Some m) le h = elim (ltb (length n.spelling) (length m.spelling)) as (λ b. Within cs (cond b (Some m) (Some n))) [
  | true ↦ h
  | false ↦ le
]

longest-within : (ns : List Name) (cs : List ℕ) → Within cs (longest ns cs)
longest-within [] cs = tt
longest-within (n ∷ ns) cs = elim (begins_with n.spelling cs) as (λ b. begins_with n.spelling cs ≡ b → Within cs (cond b (longer n (longest ns cs)) (longest ns cs))) [
  | true ↦ λ e. longer-within cs n (longest ns cs) (begins-len n.spelling cs e) (longest-within ns cs)
  | false ↦ λ e. longest-within ns cs
] refl

goes_on-stop : (cs more : List ℕ) → Stops more → continues_name (cs ++ more) ≡ continues_name cs
goes_on-stop [] [] s = refl
goes_on-stop [] (c ∷ more) s = grind (arith, nat_tests)
goes_on-stop (c ∷ cs) more s = refl

of_name-stop : (a : Bool) (best : Option Name) (cs more : List ℕ) → Stops more → Within cs best → name_reference a best (cs ++ more) ≡ name_reference a best cs
of_name-stop a None cs more s h = refl
of_name-stop a (Some n) cs more s h =
    let e : continues_name (drop (length n.spelling) (cs ++ more)) ≡ continues_name (drop (length n.spelling) cs) =
    ap continues_name (drop-append-le (length n.spelling) cs more h) ∙ goes_on-stop (drop (length n.spelling) cs) more s in
    rw e refl

of_name-len : (a : Bool) (best : Option Name) (cs : List ℕ) → Within cs best → (name_reference a best cs).len ≤ length cs
of_name-len a None cs h = omega arith
of_name-len a (Some n) cs h = elim (a && not (is_closed n.spelling) && continues_name (drop (length n.spelling) cs)) as (λ b. (cond b no_reference (record { len = length n.spelling; chars = n.char ∷ [] })).len ≤ length cs) [
  | true ↦ omega arith
  | false ↦ h
]

-- ---- numbers

taken : (p : ℕ → Bool) (c : ℕ) (cs : List ℕ) → p c ≡ true → take_while p (c ∷ cs) ≡ c ∷ take_while p cs
taken p c cs is = take_while-cons p c cs ∙ ap (λ (b : Bool). cond b (c ∷ take_while p cs) []) is

left : (p : ℕ → Bool) (c : ℕ) (cs : List ℕ) → p c ≡ false → take_while p (c ∷ cs) ≡ []
left p c cs other = take_while-cons p c cs ∙ ap (λ (b : Bool). cond b (c ∷ take_while p cs) []) other

take_while-stop : (p : ℕ → Bool) → ((c : ℕ) → is_of_reference c ≡ false → p c ≡ false) → (cs more : List ℕ) → Stops more → take_while p (cs ++ more) ≡ take_while p cs
take_while-stop p none [] [] s = refl
take_while-stop p none [] (c ∷ more) s = left p c more (none c s)
take_while-stop p none (c ∷ cs) more s = elim (cases_Bool (p c)) [
  | inl is ↦ taken p c (cs ++ more) is ∙ ap (λ (l : List ℕ). c ∷ l) (take_while-stop p none cs more s) ∙ sym (taken p c cs is)
  | inr other ↦ left p c (cs ++ more) other ∙ sym (left p c cs other)
]

take_while-len : (p : ℕ → Bool) (cs : List ℕ) → length (take_while p cs) ≤ length cs
take_while-len p [] = omega arith
take_while-len p (c ∷ cs) = elim (cases_Bool (p c)) [
  | inl is ↦ omega (arith, take_while-len p cs, ap length (taken p c cs is))
  | inr other ↦ omega (arith, ap length (left p c cs other))
]

semicolon_len-stop : (cs more : List ℕ) → Stops more → semicolon_len (cs ++ more) ≡ semicolon_len cs
semicolon_len-stop [] [] s = refl
semicolon_len-stop [] (c ∷ more) s = grind (arith, nat_tests)
semicolon_len-stop (c ∷ cs) more s = refl

semicolon_len-len : (cs : List ℕ) → semicolon_len cs ≤ length cs
semicolon_len-len [] = omega arith
semicolon_len-len (c ∷ cs) = elim (c == semicolon) as (λ b. cond b 1 0 ≤ length (c ∷ cs)) [
  | true ↦ omega arith
  | false ↦ omega arith
]

of_digits-stop : (base before : ℕ) (ds cs more : List ℕ) → Stops more → length ds ≤ length cs → digits_reference base before ds (cs ++ more) ≡ digits_reference base before ds cs
of_digits-stop base before [] cs more s le = refl
of_digits-stop base before (d ∷ ds) cs more s le =
    let e : semicolon_len (drop (length (d ∷ ds)) (cs ++ more)) ≡ semicolon_len (drop (length (d ∷ ds)) cs) =
    ap semicolon_len (drop-append-le (length (d ∷ ds)) cs more le) ∙ semicolon_len-stop (drop (length (d ∷ ds)) cs) more s in
    ap (λ (n : ℕ). record { len = before + length (d ∷ ds) + n; chars = char_of (fold (λ n c. n * base + digit_value c) 0 (d ∷ ds)) ∷ [] }) e

of_digits-len : (base before : ℕ) (ds cs : List ℕ) → length ds ≤ length cs → (digits_reference base before ds cs).len ≤ before + length cs
of_digits-len base before [] cs le = omega arith
of_digits-len base before (d ∷ ds) cs le =
    omega (arith, semicolon_len-len (drop (length (d ∷ ds)) cs), length-drop (length (d ∷ ds)) cs)

no_hex : (c : ℕ) → is_of_reference c ≡ false → is_hex c ≡ false
no_hex c h = grind (arith, nat_tests)

no_digit : (c : ℕ) → is_of_reference c ≡ false → is_digit c ≡ false
no_digit c h = grind (arith, nat_tests)

no_x : (c : ℕ) → is_of_reference c ≡ false → (c == 0x78 || c == 0x58) ≡ false
no_x c h = grind (arith, nat_tests)

of_number-stop : (cs more : List ℕ) → Stops more → number_reference (cs ++ more) ≡ number_reference cs
of_number-stop [] [] s = refl
of_number-stop [] (c ∷ more) s = rw (no_x c s, no_digit c s) refl
of_number-stop (c ∷ cs) more s = elim (cases_Bool (c == 0x78 || c == 0x58)) [
  | inl is ↦ rw is (ap (λ (l : List ℕ). digits_reference 16 2 l (cs ++ more)) (take_while-stop is_hex no_hex cs more s) ∙ of_digits-stop 16 2 (take_while is_hex cs) cs more s (take_while-len is_hex cs))
  | inr other ↦ rw other (ap (λ (l : List ℕ). digits_reference 10 1 l (c ∷ cs ++ more)) (take_while-stop is_digit no_digit (c ∷ cs) more s) ∙ of_digits-stop 10 1 (take_while is_digit (c ∷ cs)) (c ∷ cs) more s (take_while-len is_digit (c ∷ cs)))
]

of_number-len : (cs : List ℕ) → (number_reference cs).len ≤ length cs + 1
of_number-len [] = omega arith
of_number-len (c ∷ cs) = elim (cases_Bool (c == 0x78 || c == 0x58)) [
  | inl is ↦ rw is (omega (arith, of_digits-len 16 2 (take_while is_hex cs) cs (take_while-len is_hex cs)))
  | inr other ↦ rw other (omega (arith, of_digits-len 10 1 (take_while is_digit (c ∷ cs)) (c ∷ cs) (take_while-len is_digit (c ∷ cs))))
]

-- ---- references

pub reference-stop : (a : Bool) (cs more : List ℕ) → Stops more → reference a (cs ++ more) ≡ reference a cs
unfolding reference
reference-stop a [] [] s = refl
reference-stop a [] (c ∷ more) s =
    let no_sign : (c == 0x23) ≡ false = grind (arith, nat_tests) in
    rw (no_sign, longest-stop names [] (c ∷ more) s all_spelt) refl
reference-stop a (c ∷ cs) more s = elim (cases_Bool (c == 0x23)) [
  | inl is ↦ rw is (of_number-stop cs more s)
  | inr other ↦ rw (other, longest-stop names (c ∷ cs) more s all_spelt) (of_name-stop a (longest names (c ∷ cs)) (c ∷ cs) more s (longest-within names (c ∷ cs)))
]

pub reference-len : (a : Bool) (cs : List ℕ) → (reference a cs).len ≤ length cs
unfolding reference
reference-len a [] = omega arith
reference-len a (c ∷ cs) = elim (cases_Bool (c == 0x23)) [
  | inl is ↦ rw is (omega (arith, of_number-len cs))
  | inr other ↦ rw other (of_name-len a (longest names (c ∷ cs)) (c ∷ cs) (longest-within names (c ∷ cs)))
]
