-- Lines, in plain words.
use Rattle.std.proofs.Common.{◌≡◌, ℕ, ◌+◌, ◌-◌, ◌*◌, ◌<◌, Bool, true, false, ◌&&◌, ◌==◌, List, [], ◌∷◌, ◌++◌, length, take, drop, refl, sym, ap, subst, ◌∙◌, append_assoc, inl, inr, arith, length-append}
use Rattle.std.specs.List.{fold, list_all}
use Rattle.std.specs.Cmp.Lexicographic.{same_text}
use Rattle.std.proofs.lemmas.Bool.{cases_Bool}
use Rattle.std.proofs.lemmas.List.{append-nil, take-append-drop, take_at, drop_at}
use Rattle.std.proofs.lemmas.List.Sums.{fold-append}
use Rattle.std.proofs.lemmas.List.Folds.{list_all-append}
use Rattle.imap_framing.specs.Lines.{Tail, tail_with, tail_else, tail_of, is_digit, has_literals}
use Rattle.imap_framing.specs.Lines.Tail.{Out, Open, Number, Size}
use Rattle.imap_framing.specs.Units.{FrameState, step, frame_state_from, frame_state, after_line, after_line_feed, ends_with_carriage_return, IsUnit}
use Rattle.imap_framing.specs.Units.FrameState.{Line}
use Rattle.imap_framing.specs.Laws.{IsLine, line_end, value, EndsWithSize}
use Rattle.imap_framing.proofs.StateLemmas.{is_feed, byte_on}

-- ---- sizes

-- a line that ends with `{` and digits
pub record EndsWithDigits (line : List ℕ) (n : ℕ) : Type 0 where
  pub front : List ℕ
  pub digits : List ℕ
  pub some : 0 < length digits
  pub all : list_all is_digit digits ≡ true
  pub value_is : value digits ≡ n
  pub line_is : line ≡ front ++ 123 ∷ digits

abbrev Says : Tail → List ℕ → Type 0
Says Out line = Unit {0}
Says Open line = (front : List ℕ) × (line ≡ front ++ 123 ∷ [])
Says (Number n) line = EndsWithDigits line n
Says (Size n) line = EndsWithSize line n

is_same : (a b : ℕ) → (a == b) ≡ true → a ≡ b
is_same a b test = grind arith

value_push : (digits : List ℕ) (c : ℕ) → value (digits ++ c ∷ []) ≡ value digits * 10 + (c - 48)
value_push digits c = fold-append (λ (n d : ℕ). n * 10 + (d - 48)) 0 digits (c ∷ [])

all_push : (digits : List ℕ) (c : ℕ) → list_all is_digit digits ≡ true → is_digit c ≡ true → list_all is_digit (digits ++ c ∷ []) ≡ true
all_push digits c all test = list_all-append is_digit digits (c ∷ []) ∙ rw (all, test) refl

says_else : (tail : Tail) (line : List ℕ) (c : ℕ) → Says tail line → Says (tail_else tail c) (line ++ c ∷ [])
says_else Out line c says = tt
says_else Open line c says = elim (cases_Bool (is_digit c)) [
  | inl test ↦ rw test (record {
    front = says.0;
    digits = c ∷ [];
    some = omega arith;
    all = rw test refl;
    value_is = omega arith;
    line_is = ap (λ (xs : List ℕ). xs ++ c ∷ []) says.1 ∙ append_assoc says.0 (123 ∷ []) (c ∷ []);
  })
  | inr test ↦ rw test tt
]
says_else (Number n) line c says = elim (cases_Bool (is_digit c)) [
  | inl test ↦ rw test (record {
    front = says.front;
    digits = says.digits ++ c ∷ [];
    some = omega (arith, length-append says.digits (c ∷ []));
    all = all_push says.digits c says.all test;
    value_is = value_push says.digits c ∙ ap (λ (m : ℕ). m * 10 + (c - 48)) says.value_is;
    line_is = ap (λ (xs : List ℕ). xs ++ c ∷ []) says.line_is ∙ append_assoc says.front (123 ∷ says.digits) (c ∷ []);
  })
  | inr test ↦ elim (cases_Bool (c == 125)) [
    | inl closed ↦ rw (test, closed) (record {
      front = says.front;
      digits = says.digits;
      some = says.some;
      all = says.all;
      value_is = says.value_is;
      line_is = ap (λ (xs : List ℕ). xs ++ c ∷ []) says.line_is ∙ ap (λ (d : ℕ). says.front ++ (123 ∷ says.digits) ++ d ∷ []) (is_same c 125 closed);
    })
    | inr other ↦ rw (test, other) tt
  ]
]
says_else (Size n) line c says = tt

says_with : (tail : Tail) (line : List ℕ) (c : ℕ) → Says tail line → Says (tail_with tail c) (line ++ c ∷ [])
says_with tail line c says = elim (cases_Bool (c == 123)) [
  | inl test ↦ rw test (line, ap (λ (d : ℕ). line ++ d ∷ []) (is_same c 123 test))
  | inr test ↦ rw test (says_else tail line c says)
]

says_from : (tail : Tail) (front bytes : List ℕ) → Says tail front → Says (fold tail_with tail bytes) (front ++ bytes)
says_from tail front [] says = subst (λ (xs : List ℕ). Says tail xs) (sym (append-nil front)) says
says_from tail front (c ∷ bytes) says = subst (λ (xs : List ℕ). Says (fold tail_with (tail_with tail c) bytes) xs) (append_assoc front (c ∷ []) bytes) (says_from (tail_with tail c) (front ++ c ∷ []) bytes (says_with tail front c says))

pub only_sizes : (line : List ℕ) (n : ℕ) → tail_of line ≡ Size n → EndsWithSize line n
only_sizes line n is = subst (λ (tail : Tail). Says tail line) is (says_from Out [] line tt)

digit_else : (tail : Tail) (c : ℕ) → is_digit c ≡ true → tail_with tail c ≡ tail_else tail c
digit_else tail c digit = let other : (c == 123) ≡ false = grind arith in rw other refl

both : (a b : Bool) → (a && b) ≡ true → (a ≡ true) × (b ≡ true)
both true b test = (refl, test)
both false b test = absurd cc

number_on : (n : ℕ) (digits : List ℕ) → list_all is_digit digits ≡ true → fold tail_with (Number n) digits ≡ Number (fold (λ m c. m * 10 + (c - 48)) n digits)
number_on n [] all = refl
number_on n (c ∷ digits) all =
    let tests = both (is_digit c) (list_all is_digit digits) all in
    let one : tail_with (Number n) c ≡ Number (n * 10 + (c - 48)) = digit_else (Number n) c tests.0 ∙ rw (tests.0) refl in
    ap (λ (t : Tail). fold tail_with t digits) one ∙ number_on (n * 10 + (c - 48)) digits tests.1

digits_on : (digits : List ℕ) → 0 < length digits → list_all is_digit digits ≡ true → fold tail_with Open digits ≡ Number (value digits)
digits_on [] some all = absurd (omega arith)
digits_on (c ∷ digits) some all =
    let tests = both (is_digit c) (list_all is_digit digits) all in
    let one : tail_with Open c ≡ Number (0 * 10 + (c - 48)) = digit_else Open c tests.0 ∙ rw (tests.0) (ap Number (omega arith)) in
    ap (λ (t : Tail). fold tail_with t digits) one ∙ number_on (0 * 10 + (c - 48)) digits tests.1

pub sizes : (line : List ℕ) (n : ℕ) → EndsWithSize line n → tail_of line ≡ Size n
sizes line n ends =
    let opened : List ℕ = ends.front ++ 123 ∷ ends.digits in
    let number : tail_of opened ≡ Number (value ends.digits) = fold-append tail_with Out ends.front (123 ∷ ends.digits) ∙ digits_on ends.digits ends.some ends.all in
    ap tail_of ends.line_is ∙ fold-append tail_with Out opened (125 ∷ []) ∙ ap (λ (t : Tail). tail_with t 125) number ∙ ap Size ends.value_is

-- ---- ends of lines

returned : (line : List ℕ) → ends_with_carriage_return line ≡ true → line ≡ take (length line - 1) line ++ 13 ∷ []
returned line test =
    let last : 13 ∷ [] ≡ drop (length line - 1) line = same_text (13 ∷ []) (drop (length line - 1) line) (sym test) in
    sym (take-append-drop (length line - 1) line) ∙ ap (λ (xs : List ℕ). take (length line - 1) line ++ xs) (sym last)

ended : (first : Bool) (line : List ℕ) → after_line_feed first (line ++ 13 ∷ []) ≡ after_line first line
ended first line =
    let len : length (line ++ 13 ∷ []) - 1 ≡ length line = omega (arith, length-append line (13 ∷ [])) in
    rw (len, drop_at line (13 ∷ []) (length line) refl, take_at line (13 ∷ []) (length line) refl) refl

-- a byte that ends no line
goes_on : (first : Bool) (line : List ℕ) (c : ℕ) (back : List ℕ) → IsLine (line ++ c ∷ back) → step (Line first line) c ≡ Line first (line ++ c ∷ [])
unfolding step
goes_on first line c back is = elim (cases_Bool (is_feed c)) [
  | inr other ↦ byte_on first line c other
  | inl feed ↦ elim (cases_Bool (ends_with_carriage_return line)) [
    | inr none ↦ rw (feed, none) (ap (λ (d : ℕ). Line first (line ++ d ∷ [])) (sym (is_same c 10 feed)))
    | inl return ↦
        let front : List ℕ = take (length line - 1) line in
        absurd (is front back (ap (λ (d : ℕ). line ++ d ∷ back) (is_same c 10 feed) ∙ ap (λ (xs : List ℕ). xs ++ 10 ∷ back) (returned line return) ∙ append_assoc front (13 ∷ []) (10 ∷ back)))
  ]
]

line_from : (first : Bool) (front line : List ℕ) → IsLine (front ++ line) → frame_state_from (Line first front) (line ++ line_end) ≡ after_line first (front ++ line)
unfolding frame_state_from step
line_from first front [] is = ended first front ∙ ap (after_line first) (sym (append-nil front))
line_from first front (c ∷ line) is =
    let shifted : front ++ c ∷ [] ++ line ≡ front ++ c ∷ line = append_assoc front (c ∷ []) line in
    ap (λ (p : FrameState). frame_state_from p (line ++ line_end)) (goes_on first front c line is)
    ∙ line_from first (front ++ c ∷ []) line (subst (λ (xs : List ℕ). IsLine xs) (sym shifted) is) ∙ ap (after_line first) shifted

pub first_line : (line : List ℕ) → IsLine line → frame_state (line ++ line_end) ≡ after_line true line
first_line line is = line_from true [] line is

pub plain_unit : (line : List ℕ) → IsLine line → has_literals line ≡ false → IsUnit (line ++ line_end)
plain_unit line is none = first_line line is ∙ rw none refl
