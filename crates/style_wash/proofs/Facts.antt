-- Facts about characters, and about lists of them.
use Rattle.std.proofs.Common.{◌≡◌, ℕ, Bool, true, false, not, ◌&&◌, ◌||◌, ◌==◌, cond, List, [], ◌∷◌, ◌++◌, nat_lt, Some, refl, arith, eqb-true}
use Rattle.std.specs.Prelude.{find}
use Rattle.std.proofs.lemmas.Bool.Decides.{nat_tests}
use Rattle.std.specs.Char.{is_ascii_hexdigit}
use Rattle.std.specs.List.{list_all, list_any, onto_first, slice_split}
use Rattle.std.specs.Str.{bytes_eq}
use Rattle.style_wash.specs.Characters.{is_digit, is_letter, is_mark, is_name_char, is_quote, is_separator, is_style_char, is_white, is_word_char}

-- ---- tests

pub and_true : (a b : Bool) → (a && b) ≡ true → (a ≡ true) × (b ≡ true)
and_true true b e = (refl, e)
and_true false b e = absurd cc

pub or_false : (a b : Bool) → (a || b) ≡ false → (a ≡ false) × (b ≡ false)
or_false true b e = absurd cc
or_false false b e = (refl, e)

pub bytes_eq-true : (xs ys : List ℕ) → bytes_eq xs ys ≡ true → xs ≡ ys
bytes_eq-true [] [] e = refl
bytes_eq-true [] (y ∷ ys) e = absurd cc
bytes_eq-true (x ∷ xs) [] e = absurd cc
bytes_eq-true (x ∷ xs) (y ∷ ys) e =
    let both = and_true (x == y) (bytes_eq xs ys) e in
    let heads : x ≡ y = eqb-true x y both.0 in
    let tails : xs ≡ ys = bytes_eq-true xs ys both.1 in
    cc

-- ---- lists

pub all_append : (p : ℕ → Bool) (xs ys : List ℕ) → list_all p xs ≡ true → list_all p ys ≡ true → list_all p (xs ++ ys) ≡ true
all_append p [] ys a b = b
all_append p (x ∷ xs) ys a b =
    let both = and_true (p x) (list_all p xs) a in
    rw (both.0, all_append p xs ys both.1 b) refl

pub all_wider : (p q : ℕ → Bool) → ((c : ℕ) → p c ≡ true → q c ≡ true) → (xs : List ℕ) → list_all p xs ≡ true → list_all q xs ≡ true
all_wider p q wider [] a = refl
all_wider p q wider (x ∷ xs) a =
    let both = and_true (p x) (list_all p xs) a in
    rw (wider x both.0, all_wider p q wider xs both.1) refl

-- what holds of each text of a table holds of one that is found in it
pub found_all : (test p : List ℕ → Bool) (table : List (List ℕ)) (text : List ℕ) → list_all p table ≡ true → find test table ≡ Some text → p text ≡ true
found_all test p [] text a e = absurd cc
found_all test p (first ∷ more) text a found =
    let both = and_true (p first) (list_all p more) a in
    elim (test first) as (λ v. cond v (Some first) (find test more) ≡ Some text → p text ≡ true)
    [ true ↦ λ e. let same : first ≡ text = cc in rw (← same) both.0 | false ↦ λ e. found_all test p more text both.1 e ] found

pub among_all : (p : List ℕ → Bool) (table : List (List ℕ)) (text : List ℕ) → list_all p table ≡ true → list_any (bytes_eq text) table ≡ true → p text ≡ true
among_all p [] text a e = absurd cc
among_all p (first ∷ more) text a among =
    let both = and_true (p first) (list_all p more) a in
    elim (bytes_eq text first) as (λ v. bytes_eq text first ≡ v → (v || list_any (bytes_eq text) more) ≡ true → p text ≡ true) [
      | true ↦ λ e h. rw (bytes_eq-true text first e) both.0
      | false ↦ λ e h. among_all p more text both.1 h
    ] refl among

all_onto : (r : ℕ → Bool) (x : ℕ) (parts : List (List ℕ)) → list_all (list_all r) (onto_first x parts) ≡ true → (r x ≡ true) × (list_all (list_all r) parts ≡ true)
all_onto r x [] a = (let both = and_true (r x && true) true a in (and_true (r x) true both.0).0, refl)
all_onto r x (part ∷ parts) a =
    let both = and_true (r x && list_all r part) (list_all (list_all r) parts) a in
    let first = and_true (r x) (list_all r part) both.0 in
    (first.0, rw (first.1, both.1) refl)

-- what holds of each character of the parts holds of the separators or the characters of the whole
pub all_parts : (q r : ℕ → Bool) (xs : List ℕ) → list_all (list_all r) (slice_split q xs) ≡ true → list_all (λ c. q c || r c) xs ≡ true
all_parts q r [] a = refl
all_parts q r (x ∷ xs) a =
    elim (q x) as (λ v. list_all (list_all r) (cond v ([] ∷ slice_split q xs) (onto_first x (slice_split q xs))) ≡ true → ((v || r x) && list_all (λ c. q c || r c) xs) ≡ true)
    [ true ↦ λ a. all_parts q r xs a | false ↦ λ a. let both = all_onto r x (slice_split q xs) a in rw (both.0, all_parts q r xs both.1) refl ] a

pub all_wider_texts : (p q : List ℕ → Bool) → ((c : List ℕ) → p c ≡ true → q c ≡ true) → (xs : List (List ℕ)) → list_all p xs ≡ true → list_all q xs ≡ true
all_wider_texts p q wider [] a = refl
all_wider_texts p q wider (x ∷ xs) a =
    let both = and_true (p x) (list_all p xs) a in
    rw (wider x both.0, all_wider_texts p q wider xs both.1) refl

-- ---- characters

-- the characters of words, numbers and colours of `#`
abbrev pub is_plain_char : ℕ → Bool
is_plain_char c = is_word_char c || c == 46 || c == 37 || c == 35

-- the characters of unquoted items
abbrev pub is_item_char : ℕ → Bool
is_item_char c = is_plain_char c || c == 40 || c == 41 || c == 44

-- the characters of written properties and values: those of a washed style but `;`
abbrev pub is_safe : ℕ → Bool
is_safe c = is_style_char c && not (c == 59)

pub safe_char : (c : ℕ) → is_safe c ≡ true → (is_mark c ≡ false) × (is_style_char c ≡ true)
safe_char c e = (grind (arith, nat_tests), grind (arith, nat_tests))

pub ascii_char : (c : ℕ) → is_style_char c ≡ true → nat_lt c 128 ≡ true
ascii_char c e = grind (arith, nat_tests)

pub record PlainChar (c : ℕ) : Type 0 where
  pub separator : is_separator c ≡ false
  pub quote : is_quote c ≡ false
  pub bracket : (c == 40) ≡ false
  pub no_bracket : not (c == 40) ≡ true
  pub item : is_item_char c ≡ true

pub plain_char : (c : ℕ) → is_plain_char c ≡ true → PlainChar c
plain_char c e = record { separator = grind (arith, nat_tests); quote = grind (arith, nat_tests); bracket = grind (arith, nat_tests); no_bracket = grind (arith, nat_tests); item = grind (arith, nat_tests) }

pub record ItemChar (c : ℕ) : Type 0 where
  pub quote : is_quote c ≡ false
  pub semicolon : (c == 59) ≡ false
  pub safe : is_safe c ≡ true
  pub white : is_white c ≡ false

pub item_char : (c : ℕ) → is_item_char c ≡ true → ItemChar c
item_char c e = record { quote = grind (arith, nat_tests); semicolon = grind (arith, nat_tests); safe = grind (arith, nat_tests); white = grind (arith, nat_tests) }

pub record NameChar (c : ℕ) : Type 0 where
  pub apostrophe : (c == 39) ≡ false
  pub semicolon : (c == 59) ≡ false
  pub safe : is_safe c ≡ true

pub name_char : (c : ℕ) → is_name_char c ≡ true → NameChar c
name_char c e = record { apostrophe = grind (arith, nat_tests); semicolon = grind (arith, nat_tests); safe = grind (arith, nat_tests) }

pub word_char : (c : ℕ) → is_word_char c ≡ true → is_plain_char c ≡ true
word_char c e = grind (arith, nat_tests)

pub letter_char : (c : ℕ) → is_letter c ≡ true → is_plain_char c ≡ true
letter_char c e = grind (arith, nat_tests)

pub hexadecimal_char : (c : ℕ) → is_ascii_hexdigit c ≡ true → is_plain_char c ≡ true
hexadecimal_char c e = grind (arith, nat_tests)

-- digits and commas: the contents of the brackets of a colour
abbrev pub is_level_char : ℕ → Bool
is_level_char c = c == 44 || is_digit c

pub level_char : (c : ℕ) → is_level_char c ≡ true → is_item_char c ≡ true
level_char c e = grind (arith, nat_tests)

pub level_no_open : (c : ℕ) → is_level_char c ≡ true → not (c == 40) ≡ true
level_no_open c e = grind (arith, nat_tests)

pub name_no_open : (c : ℕ) → is_name_char c ≡ true → not (c == 40) ≡ true
name_no_open c e = grind (arith, nat_tests)

pub level_no_bracket : (c : ℕ) → is_level_char c ≡ true → (c == 41) ≡ false
level_no_bracket c e = grind (arith, nat_tests)

pub number_char : (c : ℕ) → not (is_digit c || c == 46) ≡ false → is_plain_char c ≡ true
number_char c e = grind (arith, nat_tests)
