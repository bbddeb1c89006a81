-- What the items of declarations are written with, and that a written item reads as itself.
use Rattle.std.proofs.Common.{◌≡◌, ℕ, ◌<◌, ◌≤◌, ◌+◌, ◌-◌, Bool, true, false, not, ◌&&◌, ◌||◌, ◌==◌, cond, List, [], ◌∷◌, ◌++◌, length, nat_le, take, drop, get_or, Some, None, refl, sym, ap, ◌∙◌, arith, length-append, eqb-true, nat_eq, ◌⊎◌, inl, inr, suc, subst}
use Rattle.std.specs.Prelude.{codes, slice_range, count_by}
use Rattle.std.specs.Char.{is_ascii_hexdigit}
use Rattle.std.specs.List.{list_all, starts_with, slice_split, position_or_len, before_first}
use Rattle.std.proofs.lemmas.Bool.{leb-true, le-leb}
use Rattle.std.proofs.lemmas.List.{take-append-drop, length-take, length-drop, get_or-take, get_or-drop, take_all, take-append-le}
use Rattle.std.proofs.Math.Seq.{take-suc, get_or-append_seam}
use Rattle.std.proofs.lemmas.List.Sums.{fails_before_first, list_all-from_AllPass}
use Rattle.style_wash.specs.Characters.{is_comma, is_digit, is_letter, is_name_char, is_quote, is_separator, is_white, is_word_char}
use Rattle.style_wash.specs.Tables.{is_unit, units}
use Rattle.style_wash.specs.Items.{Item, are_levels, begins_unit, inner, is_hex_colour, is_decimal, is_level, is_name, is_number, is_plain, is_rgb, is_word, item_of, last, written_item}
use Rattle.style_wash.specs.Items.Item.{Plain, Name}
use Rattle.style_wash.specs.Values.{Nesting, nesting_after, is_item_end}
use Rattle.style_wash.specs.Values.Nesting.{Outside, Until}
use Rattle.style_wash.proofs.Calls.{CallsOnlyRgbFirst, calls-append, calls_none, calls_first_none, calls_rgb, is_no_bracket}
use Rattle.style_wash.proofs.Facts.{and_true, all_append, all_wider, all_wider_texts, all_parts, among_all, bytes_eq-true, is_plain_char, is_item_char, is_safe, plain_char, item_char, name_char, word_char, letter_char, hexadecimal_char, number_char, is_level_char, level_char, level_no_bracket, level_no_open, name_no_open}

-- ---- walks over a text

-- no separator is outside of quotes and brackets, and all of these are closed
unfoldable pub holds : Nesting → List ℕ → Bool
holds Outside [] = true
holds (Until end) [] = false
holds place (c ∷ more) = not (is_item_end place c) && holds (nesting_after true place c) more

-- the text has no `;`, and all quotes are closed
unfoldable pub quiet : Nesting → List ℕ → Bool
quiet Outside [] = true
quiet (Until end) [] = false
quiet place (c ∷ more) = not (c == 59) && quiet (nesting_after false place c) more

holds-plain : (text : List ℕ) → list_all is_plain_char text ≡ true → holds Outside text ≡ true
unfolding holds
holds-plain [] a = refl
holds-plain (c ∷ more) a =
    let both = and_true (is_plain_char c) (list_all is_plain_char more) a in
    let plain = plain_char c both.0 in
    rw (plain.separator, plain.quote, plain.bracket, holds-plain more both.1) refl

pub quiet-items : (text : List ℕ) → list_all is_item_char text ≡ true → quiet Outside text ≡ true
unfolding quiet
quiet-items [] a = refl
quiet-items (c ∷ more) a =
    let both = and_true (is_item_char c) (list_all is_item_char more) a in
    let item = item_char c both.0 in
    rw (item.semicolon, item.quote, quiet-items more both.1) refl

holds-name : (name : List ℕ) → list_all is_name_char name ≡ true → holds (Until 39) (name ++ 39 ∷ []) ≡ true
unfolding holds
holds-name [] a = refl
holds-name (c ∷ more) a =
    let both = and_true (is_name_char c) (list_all is_name_char more) a in
    rw ((name_char c both.0).apostrophe, holds-name more both.1) refl

quiet-name : (name : List ℕ) → list_all is_name_char name ≡ true → quiet (Until 39) (name ++ 39 ∷ []) ≡ true
unfolding quiet
quiet-name [] a = refl
quiet-name (c ∷ more) a =
    let both = and_true (is_name_char c) (list_all is_name_char more) a in
    let char = name_char c both.0 in
    rw (char.semicolon, char.apostrophe, quiet-name more both.1) refl

holds-levels : (levels : List ℕ) → list_all is_level_char levels ≡ true → holds (Until 41) (levels ++ 41 ∷ []) ≡ true
unfolding holds
holds-levels [] a = refl
holds-levels (c ∷ more) a =
    let both = and_true (is_level_char c) (list_all is_level_char more) a in
    rw (level_no_bracket c both.0, holds-levels more both.1) refl

-- ---- unquoted items

-- what an unquoted item is written with
pub record IsUnquoted (text : List ℕ) : Type 0 where
  pub some : 0 < length text
  pub chars : list_all is_item_char text ≡ true
  pub whole : holds Outside text ≡ true
  pub calls : CallsOnlyRgbFirst text

of_plain_chars : (text : List ℕ) → 0 < length text → list_all is_plain_char text ≡ true → IsUnquoted text
of_plain_chars text some a = record {
  some = some;
  chars = all_wider is_plain_char is_item_char (λ c e. (plain_char c e).item) text a;
  whole = holds-plain text a;
  calls = calls_first_none text (all_wider is_plain_char is_no_bracket (λ c e. (plain_char c e).no_bracket) text a);
}

of_word : (text : List ℕ) → is_word text ≡ true → IsUnquoted text
of_word [] e = absurd cc
of_word (c ∷ more) e =
    let both = and_true (is_letter c) (list_all is_word_char more) e in
    of_plain_chars (c ∷ more) (omega arith) (rw (letter_char c both.0, all_wider is_word_char is_plain_char word_char more both.1) refl)

of_colour : (text : List ℕ) → is_hex_colour text ≡ true → IsUnquoted text
of_colour [] e = absurd cc
of_colour (c ∷ more) e =
    let first = and_true ((c == 35) && (length more == 3 || length more == 6)) (list_all is_ascii_hexdigit more) e in
    let sign : c ≡ 35 = eqb-true c 35 (and_true (c == 35) (length more == 3 || length more == 6) first.0).0 in
    of_plain_chars (c ∷ more) (omega arith) (rw (sign, all_wider is_ascii_hexdigit is_plain_char hexadecimal_char more first.1) refl)

unit_chars : (text : List ℕ) → is_unit text ≡ true → list_all is_plain_char text ≡ true
unfolding is_unit units
unit_chars text e = among_all (list_all is_plain_char) ([] ∷ units) text refl e

-- the digits of a number, before its unit
number_chars : (text : List ℕ) → list_all is_plain_char (before_first begins_unit text) ≡ true
number_chars text =
    list_all-from_AllPass is_plain_char (before_first begins_unit text) (λ k d below.
    let within : k < position_or_len begins_unit text = omega (arith, length-take (position_or_len begins_unit text) text) in
    ap is_plain_char (get_or-take (position_or_len begins_unit text) text k d within) ∙ number_char (get_or text k d) (fails_before_first begins_unit text k d within))

of_number : (text : List ℕ) → is_number text ≡ true → IsUnquoted text
unfolding is_number
of_number [] e = absurd cc
of_number (c ∷ more) e =
    let text : List ℕ = c ∷ more in
    let both = and_true (is_decimal (before_first begins_unit text)) (is_unit (drop (position_or_len begins_unit text) text)) e in
    of_plain_chars text (omega arith)
    (ap (list_all is_plain_char) (sym (take-append-drop (position_or_len begins_unit text) text))
    ∙ all_append is_plain_char (before_first begins_unit text) (drop (position_or_len begins_unit text) text) (number_chars text) (unit_chars _ both.1))

-- a text is all but its last character, and that
last_apart : (text : List ℕ) (size : ℕ) → length text ≡ size + 1 → text ≡ take size text ++ get_or text size 0 ∷ []
last_apart text size e =
    let lt : size < length text = omega arith in
    sym (take_all (suc size) text (omega arith)) ∙ take-suc text size 0 lt

level_digits : (part : List ℕ) → is_level part ≡ true → list_all is_digit part ≡ true
level_digits [] e = absurd cc
level_digits (a ∷ []) e = rw e refl
level_digits (a ∷ b ∷ []) e =
    let both = and_true (is_digit a) (is_digit b) e in
    rw (both.0, both.1) refl
level_digits (a ∷ b ∷ c ∷ []) e =
    let all = and_true (is_digit a && is_digit b && is_digit c) _ e in
    let three = and_true (is_digit a && is_digit b) (is_digit c) all.0 in
    let both = and_true (is_digit a) (is_digit b) three.0 in
    rw (both.0, both.1, three.1) refl
level_digits (a ∷ b ∷ c ∷ d ∷ more) e = absurd cc

level_chars : (text : List ℕ) → are_levels text ≡ true → list_all is_level_char text ≡ true
level_chars text e =
    let both = and_true (count_by is_comma text == 2) (list_all is_level (slice_split is_comma text)) e in
    all_parts is_comma is_digit text (all_wider_texts is_level (list_all is_digit) level_digits (slice_split is_comma text) both.1)

of_levels : (levels : List ℕ) → list_all is_level_char levels ≡ true → IsUnquoted (codes "rgb(" ++ (levels ++ 41 ∷ []))
unfolding holds
of_levels levels a = record {
  some = omega arith;
  chars = all_append is_item_char levels (41 ∷ []) (all_wider is_level_char is_item_char level_char levels a) refl;
  whole = holds-levels levels a;
  calls = calls_rgb (levels ++ 41 ∷ [])
      (calls-append levels (41 ∷ []) (calls_none levels (all_wider is_level_char is_no_bracket level_no_open levels a)) (calls_none (41 ∷ []) refl));
}

of_rgb : (text : List ℕ) → is_rgb text ≡ true → IsUnquoted text
unfolding is_rgb
of_rgb text e =
    let all = and_true (starts_with nat_eq text (codes "rgb(") && nat_le 5 (length text) && (last text == 41)) (are_levels (slice_range text 4 (length text - 1))) e in
    let most = and_true (starts_with nat_eq text (codes "rgb(") && nat_le 5 (length text)) (last text == 41) all.0 in
    let first = and_true (starts_with nat_eq text (codes "rgb(")) (nat_le 5 (length text)) most.0 in
    let five : 5 ≤ length text = leb-true 5 (length text) first.1 in
    let begins : codes "rgb(" ≡ take 4 text = bytes_eq-true (codes "rgb(") (take 4 text) first.0 in
    let ends : get_or text (length text - 1) 0 ≡ 41 = eqb-true (last text) 41 most.1 in
    let size = length text - 1 - 4 in
    let apart : drop 4 text ≡ take size (drop 4 text) ++ get_or (drop 4 text) size 0 ∷ [] = last_apart (drop 4 text) size (omega (arith, length-drop 4 text)) in
    let at : get_or (drop 4 text) size 0 ≡ 41 = get_or-drop 4 text size 0 ∙ ap (λ (n : ℕ). get_or text n 0) (let place : 4 + size ≡ length text - 1 = omega arith in place) ∙ ends in
    let whole : text ≡ codes "rgb(" ++ (take size (drop 4 text) ++ 41 ∷ []) =
    sym (take-append-drop 4 text) ∙ ap (λ (xs : List ℕ). xs ++ drop 4 text) (sym begins)
    ∙ ap (λ (xs : List ℕ). codes "rgb(" ++ xs) (apart ∙ ap (λ (c : ℕ). take size (drop 4 text) ++ c ∷ []) at) in
    let P : List ℕ → Type 0 = λ xs. IsUnquoted xs in
    subst P (sym whole) (of_levels (take size (drop 4 text)) (level_chars (take size (drop 4 text)) all.1))

or_cases : (a b : Bool) → (a || b) ≡ true → (a ≡ true) ⊎ (b ≡ true)
or_cases true b e = inl refl
or_cases false b e = inr e

of_plain : (text : List ℕ) → is_plain text ≡ true → IsUnquoted text
unfolding is_plain
of_plain text e = elim (or_cases (is_word text || is_number text || is_hex_colour text) (is_rgb text) e) [
  | inr rgb ↦ of_rgb text rgb
  | inl others ↦ elim (or_cases (is_word text || is_number text) (is_hex_colour text) others) [
    | inr colour ↦ of_colour text colour
    | inl two ↦ elim (or_cases (is_word text) (is_number text) two) [ inl word ↦ of_word text word | inr number ↦ of_number text number ]
  ]
]

-- ---- written items

-- a text begins with a character that is no separator
pub record BeginsDark (text : List ℕ) : Type 0 where
  pub first : ℕ
  pub more : List ℕ
  pub is : text ≡ first ∷ more
  pub dark : is_separator first ≡ false

-- and ends with one that is no white space
pub record EndsDark (text : List ℕ) : Type 0 where
  pub front : List ℕ
  pub last : ℕ
  pub is : text ≡ front ++ last ∷ []
  pub dark : is_white last ≡ false

-- an item whose written form reads as the item, and is one text in a value and in a style
pub record IsGood (item : Item) : Type 0 where
  pub reads : item_of (written_item item) ≡ Some item
  pub whole : holds Outside (written_item item) ≡ true
  pub silent : quiet Outside (written_item item) ≡ true
  pub safe : list_all is_safe (written_item item) ≡ true
  pub calls : CallsOnlyRgbFirst (written_item item)
  pub begins : BeginsDark (written_item item)
  pub ends : EndsDark (written_item item)

ends_of : (text : List ℕ) → 0 < length text → list_all is_item_char text ≡ true → EndsDark text
ends_of [] some a = absurd (omega arith)
ends_of (c ∷ []) some a = record { front = []; last = c; is = refl; dark = (item_char c (and_true (is_item_char c) true a).0).white }
ends_of (c ∷ d ∷ more) some a =
    let rest = ends_of (d ∷ more) (omega arith) (and_true (is_item_char c) (list_all is_item_char (d ∷ more)) a).1 in
    record { front = c ∷ rest.front; last = rest.last; is = ap (λ (xs : List ℕ). c ∷ xs) rest.is; dark = rest.dark }

pub not_true : (b : Bool) → not b ≡ true → b ≡ false
not_true true e = absurd cc
not_true false e = refl

begins_of : (text : List ℕ) → 0 < length text → holds Outside text ≡ true → BeginsDark text
unfolding holds
begins_of [] some h = absurd (omega arith)
begins_of (c ∷ more) some h = record {
  first = c;
  more = more;
  is = refl;
  dark = not_true (is_separator c) (and_true (not (is_separator c)) (holds (nesting_after true Outside c) more) h).0;
}

good_plain : (text : List ℕ) → is_plain text ≡ true → IsGood (Plain text)
unfolding item_of
good_plain text e =
    let unquoted = of_plain text e in
    record {
      reads = rw e refl;
      whole = unquoted.whole;
      silent = quiet-items text unquoted.chars;
      safe = all_wider is_item_char is_safe (λ c h. (item_char c h).safe) text unquoted.chars;
      calls = unquoted.calls;
      begins = begins_of text unquoted.some unquoted.whole;
      ends = ends_of text unquoted.some unquoted.chars;
    }

-- ---- names

length-quoted : (name : List ℕ) → length (39 ∷ name ++ 39 ∷ []) ≡ length name + 2
length-quoted name = omega (arith, length-append name (39 ∷ []))

inner-quoted : (name : List ℕ) → inner (39 ∷ name ++ 39 ∷ []) ≡ name
inner-quoted name =
    let size : length (39 ∷ name ++ 39 ∷ []) - 1 - 1 ≡ length name = omega (arith, length-quoted name) in
    let whole : length name ≤ length name = omega arith in
    ap (λ (n : ℕ). take n (name ++ 39 ∷ [])) size ∙ take-append-le (length name) name (39 ∷ []) whole ∙ take_all (length name) name whole

last-quoted : (name : List ℕ) → last (39 ∷ name ++ 39 ∷ []) ≡ 39
last-quoted name =
    let place : length (39 ∷ name ++ 39 ∷ []) - 1 ≡ length (39 ∷ name) = omega (arith, length-quoted name) in
    ap (λ (n : ℕ). get_or (39 ∷ name ++ 39 ∷ []) n 0) place ∙ get_or-append_seam (39 ∷ name) 39 [] 0

is_name-quoted : (name : List ℕ) → 1 ≤ length name → length name ≤ 64 → list_all is_name_char name ≡ true → is_name (39 ∷ name ++ 39 ∷ []) ≡ true
unfolding is_name
is_name-quoted name some few a =
    let three : nat_le 3 (length (39 ∷ name ++ 39 ∷ [])) ≡ true = le-leb 3 _ (omega (arith, length-quoted name)) in
    let fits : nat_le (length (39 ∷ name ++ 39 ∷ [])) 66 ≡ true = le-leb _ 66 (omega (arith, length-quoted name)) in
    let closed : (last (39 ∷ name ++ 39 ∷ []) == 39) ≡ true = rw (last-quoted name) refl in
    let chars : list_all is_name_char (inner (39 ∷ name ++ 39 ∷ [])) ≡ true = rw (inner-quoted name) a in
    rw (three, fits, closed, chars) refl

item_of-quoted : (name : List ℕ) → is_name (39 ∷ name ++ 39 ∷ []) ≡ true → item_of (39 ∷ name ++ 39 ∷ []) ≡ Some (Name name)
unfolding item_of is_plain is_number is_rgb
item_of-quoted name e = rw e (ap (λ (xs : List ℕ). Some (Name xs)) (inner-quoted name))

good_quoted : (name : List ℕ) → 1 ≤ length name → length name ≤ 64 → list_all is_name_char name ≡ true → IsGood (Name name)
unfolding holds quiet
good_quoted name some few a = record {
  reads = item_of-quoted name (is_name-quoted name some few a);
  whole = holds-name name a;
  silent = quiet-name name a;
  safe = all_append is_safe name (39 ∷ []) (all_wider is_name_char is_safe (λ c h. (name_char c h).safe) name a) refl;
  calls = calls_first_none (39 ∷ name ++ 39 ∷ []) (all_append is_no_bracket name (39 ∷ []) (all_wider is_name_char is_no_bracket name_no_open name a) refl);
  begins = record { first = 39; more = name ++ 39 ∷ []; is = refl; dark = refl };
  ends = record { front = 39 ∷ name; last = 39; is = refl; dark = refl };
}

good_name : (text : List ℕ) → is_name text ≡ true → IsGood (Name (inner text))
unfolding is_name
good_name text e =
    let all = and_true (is_quote (get_or text 0 0) && nat_le 3 (length text) && nat_le (length text) 66 && (last text == get_or text 0 0)) (list_all is_name_char (inner text)) e in
    let most = and_true (is_quote (get_or text 0 0) && nat_le 3 (length text) && nat_le (length text) 66) (last text == get_or text 0 0) all.0 in
    let sizes = and_true (is_quote (get_or text 0 0) && nat_le 3 (length text)) (nat_le (length text) 66) most.0 in
    let low : 3 ≤ length text = leb-true 3 (length text) (and_true (is_quote (get_or text 0 0)) (nat_le 3 (length text)) sizes.0).1 in
    let high : length text ≤ 66 = leb-true (length text) 66 sizes.1 in
    let size : length (inner text) ≡ length text - 2 = omega (arith, length-take (length text - 1 - 1) (drop 1 text), length-drop 1 text) in
    good_quoted (inner text) (omega arith) (omega arith) all.1

item_cases : (text : List ℕ) (item : Item) (plain name : Bool) → is_plain text ≡ plain → is_name text ≡ name
    → cond plain (Some (Plain text)) (cond name (Some (Name (inner text))) None) ≡ Some item → IsGood item
item_cases text item true name p n e = let same : Plain text ≡ item = cc in subst IsGood same (good_plain text p)
item_cases text item false true p n e = let same : Name (inner text) ≡ item = cc in subst IsGood same (good_name text n)
item_cases text item false false p n e = absurd cc

-- what is read is good
pub good_item : (text : List ℕ) (item : Item) → item_of text ≡ Some item → IsGood item
unfolding item_of
good_item text item e = item_cases text item (is_plain text) (is_name text) refl refl e
