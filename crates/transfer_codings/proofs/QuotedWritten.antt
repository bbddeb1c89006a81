-- What the quoted-printable text of bytes decodes to, and how long its lines are.
use Rattle.std.proofs.Common.{◌≡◌, ℕ, suc, ◌+◌, ◌*◌, ◌/◌, ◌%◌, ◌<◌, ◌≤◌, ◌==◌, ◌⊎◌, nat_le, Bool, true, false, not, cond, ◌&&◌, List, [], ◌∷◌, ◌++◌, length, Some, refl, sym, ap, subst, ◌∙◌, inl, inr, arith}
use Rattle.std.specs.List.{All, join_by, onto_first}
use Rattle.std.specs.Str.Lines.{lines, lines_of_parts}
use Rattle.std.proofs.lemmas.Bool.{and_cases, and_parts, cases_Bool, eqb-true, leb-true, ne_eqb, not-true, or_from, true≢false}
use Rattle.std.proofs.lemmas.List.{append-nil, append_assoc, length-append}
use Rattle.std.proofs.lemmas.List.Elements.{All-append, All-cons, All-nil, All-same}
use Rattle.std.proofs.lemmas.List.Splits.{slice_split_none}
use Rattle.base64.specs.GeneralPurpose.{IsBytes}
use Rattle.base64.specs.Tables.{all_below}
use Rattle.base64.proofs.Tables.{all_below_at}
use Rattle.base64.proofs.EngineFacts.{front_bytes}
use Rattle.transfer_codings.specs.Base64.{is_equals}
use Rattle.transfer_codings.specs.Quoted.{byte_of_digits, hex_value, is_blank, is_line_feed, quoted_bytes, unescaped}
use Rattle.transfer_codings.specs.QuotedRows.{break, broken_lines, column_after, escape_of, fits, is_empty, placed_unit, quoted_text, rest_of_line, rows_text, is_literal, unit_of, upper_digit}
use Rattle.transfer_codings.proofs.Base64Written.{is_value, is_value-some}
use Rattle.transfer_codings.proofs.Lines.{lines-break}
use Rattle.transfer_codings.proofs.QuotedEnds.{EndsWell, IsOneLine, ends_well-nothing, ends_well-push, quoted_bytes-end, quoted_bytes-hard, quoted_bytes-soft}
use Rattle.transfer_codings.proofs.QuotedLemmas.{unescaped-plain, unescaped-some}
use Rattle.transfer_codings.proofs.RowLemmas.{broken_lines-some, rows_text-rest, unit_of-escaped, unit_of-literal}

-- ---- digits

abbrev is_right : ℕ → Bool
is_right value =
    is_value (hex_value (upper_digit value)) value && (not (is_equals (upper_digit value)) && (not (is_line_feed (upper_digit value)) && not (is_blank (upper_digit value))))

all_right : all_below is_right 16 ≡ true
all_right = refl

record IsDigit (digit value : ℕ) : Type 0 where
  value_is : hex_value digit ≡ Some value
  no_equals : is_equals digit ≡ false
  no_line_feed : is_line_feed digit ≡ false
  no_blank : is_blank digit ≡ false

digit_of : (value : ℕ) → value < 16 → IsDigit (upper_digit value) value
digit_of value small =
    let digit = upper_digit value in
    let all = and_parts (is_value (hex_value digit) value) (not (is_equals digit) && (not (is_line_feed digit) && not (is_blank digit))) (all_below_at is_right 16 value all_right small) in
    let two = and_parts (not (is_equals digit)) (not (is_line_feed digit) && not (is_blank digit)) all.1 in
    let one = and_parts (not (is_line_feed digit)) (not (is_blank digit)) two.1 in
    record {
      value_is = is_value-some (hex_value digit) value all.0;
      no_equals = not-true (is_equals digit) two.0;
      no_line_feed = not-true (is_line_feed digit) one.0;
      no_blank = not-true (is_blank digit) one.1;
    }

-- ---- units

-- a text on one line that is read as these bytes, whatever follows
record Wrote (text done : List ℕ) : Type 0 where
  reads : (rest : List ℕ) → unescaped (text ++ rest) ≡ done ++ unescaped rest
  one : IsOneLine text

wrote-nothing : Wrote [] []
wrote-nothing = record { reads = λ rest. refl; one = All-nil (λ byte. is_line_feed byte ≡ false) }

wrote-more : (row done unit : List ℕ) (byte : ℕ) → Wrote row done → Wrote unit (byte ∷ []) → Wrote (row ++ unit) (done ++ byte ∷ [])
wrote-more row done unit byte first next = record {
  reads = λ rest. ap unescaped (append_assoc row unit rest) ∙ first.reads (unit ++ rest) ∙ ap (λ xs. done ++ xs) (next.reads rest)
      ∙ sym (append_assoc done (byte ∷ []) (unescaped rest));
  one = All-append (λ byte. is_line_feed byte ≡ false) row unit first.one next.one;
}

unescaped-empty : unescaped [] ≡ []
unfolding unescaped
unescaped-empty = refl

wrote-all : (row done : List ℕ) → Wrote row done → unescaped row ≡ done
wrote-all row done wrote =
    ap unescaped (sym (append-nil row)) ∙ wrote.reads [] ∙ ap (λ xs. done ++ xs) unescaped-empty ∙ append-nil done

record IsUnit (at_end : Bool) (unit : List ℕ) (byte : ℕ) : Type 0 where
  wrote : Wrote unit (byte ∷ [])
  short : length unit ≤ 3
  ends : at_end ≡ true → (front : List ℕ) → EndsWell (front ++ unit)

unit-literal : (at_end : Bool) (byte : ℕ) → is_literal at_end byte ≡ true → IsUnit at_end (byte ∷ []) byte
unit-literal at_end byte h =
    let plain : ℕ → Type 0 = λ b. is_line_feed b ≡ false in
    let outer = and_parts (nat_le 32 byte && nat_le byte 126 && not (byte == 61)) (not (at_end && (byte == 32))) h in
    let middle = and_parts (nat_le 32 byte && nat_le byte 126) (not (byte == 61)) outer.0 in
    let inner = and_parts (nat_le 32 byte) (nat_le byte 126) middle.0 in
    let low : 32 ≤ byte = leb-true 32 byte inner.0 in
    let other : is_equals byte ≡ false = not-true (byte == 61) middle.1 in
    let no_feed : is_line_feed byte ≡ false = ne_eqb byte 10 (λ e. omega arith) in
    let no_tab : (byte == 9) ≡ false = ne_eqb byte 9 (λ e. omega arith) in
    let no_end : at_end && (byte == 32) ≡ false = not-true (at_end && (byte == 32)) outer.1 in
    record {
      wrote = record { reads = λ rest. unescaped-plain byte rest other; one = All-cons plain byte [] no_feed (All-nil plain) };
      short = omega arith;
      ends = λ e front. ends_well-push front byte (or_from (byte == 32) (byte == 9) (elim (and_cases at_end (byte == 32) no_end) [
        | inl no_at_end ↦ absurd (true≢false (sym e ∙ no_at_end))
        | inr no_space ↦ no_space
      ]) no_tab) other;
    }

unit-escaped : (at_end : Bool) (byte : ℕ) → byte < 256 → IsUnit at_end (escape_of byte) byte
unit-escaped at_end byte small =
    let plain : ℕ → Type 0 = λ b. is_line_feed b ≡ false in
    let high = upper_digit (byte / 16) in
    let low = upper_digit (byte % 16) in
    let h = digit_of (byte / 16) (omega arith) in
    let l = digit_of (byte % 16) (omega arith) in
    let joined : byte / 16 * 16 + byte % 16 ≡ byte = omega arith in
    let pair : byte_of_digits (hex_value high) (hex_value low) ≡ Some byte =
    ap (λ o. byte_of_digits o (hex_value low)) h.value_is ∙ ap (byte_of_digits (Some (byte / 16))) l.value_is ∙ ap Some joined in
    record {
      wrote = record {
        reads = λ rest. unescaped-some (high ∷ low ∷ rest) byte pair;
        one = All-cons plain 61 (high ∷ low ∷ []) refl (All-cons plain high (low ∷ []) h.no_line_feed (All-cons plain low [] l.no_line_feed (All-nil plain)));
      };
      short = omega arith;
      ends = λ e front. subst EndsWell (append_assoc front (61 ∷ high ∷ []) (low ∷ [])) (ends_well-push (front ++ 61 ∷ high ∷ []) low l.no_blank l.no_equals);
    }

unit-is : (at_end : Bool) (byte : ℕ) → byte < 256 → IsUnit at_end (unit_of at_end byte) byte
unit-is at_end byte small = elim (cases_Bool (is_literal at_end byte)) [
  | inl plain ↦ subst (λ (unit : List ℕ). IsUnit at_end unit byte) (sym (unit_of-literal at_end byte plain)) (unit-literal at_end byte plain)
  | inr other ↦ subst (λ (unit : List ℕ). IsUnit at_end unit byte) (sym (unit_of-escaped at_end byte other)) (unit-escaped at_end byte small)
]

-- ---- what a line decodes to

-- what follows a line is read as these bytes
IsTail : List ℕ → List ℕ → Type 0
IsTail tail read = (row done : List ℕ) → Wrote row done → EndsWell row → quoted_bytes (row ++ tail) ≡ done ++ read

decode-step : (goes_on : Bool) (row done unit rest tail : List ℕ) (byte : ℕ) (more read : List ℕ) → Wrote row done → Wrote unit (byte ∷ [])
    → ((r d : List ℕ) → Wrote r d → (r ≡ row ++ unit) ⊎ (r ≡ unit) → quoted_bytes (r ++ (rest ++ tail)) ≡ d ++ (more ++ read))
    → quoted_bytes (row ++ (((cond goes_on [] (61 ∷ 13 ∷ 10 ∷ []) ++ unit) ++ rest) ++ tail)) ≡ done ++ byte ∷ (more ++ read)
decode-step true row done unit rest tail byte more read wrote next later =
    ap (λ xs. quoted_bytes (row ++ xs)) (append_assoc unit rest tail)
    ∙ ap quoted_bytes (sym (append_assoc row unit (rest ++ tail)))
    ∙ later (row ++ unit) (done ++ byte ∷ []) (wrote-more row done unit byte wrote next) (inl refl)
    ∙ append_assoc done (byte ∷ []) (more ++ read)
decode-step false row done unit rest tail byte more read wrote next later =
    quoted_bytes-soft row ((unit ++ rest) ++ tail) wrote.one
    ∙ ap (λ xs. unescaped row ++ quoted_bytes xs) (append_assoc unit rest tail)
    ∙ ap (λ xs. unescaped row ++ xs) (later unit (byte ∷ []) next (inr refl))
    ∙ ap (λ xs. xs ++ byte ∷ (more ++ read)) (wrote-all row done wrote)

line-decode : (line tail read : List ℕ) → IsTail tail read → IsBytes line → (column : ℕ) (row done : List ℕ) → Wrote row done
    → (is_empty line ≡ true → EndsWell row) → quoted_bytes (row ++ (rest_of_line column line ++ tail)) ≡ done ++ (line ++ read)
unfolding placed_unit column_after IsTail
line-decode [] tail read ends bytes column row done wrote well = ends row done wrote (well refl)
line-decode (byte ∷ more) tail read ends bytes column row done wrote well =
    let at_end = is_empty more in
    let unit = unit_of at_end byte in
    let is : IsUnit at_end unit byte = unit-is at_end byte (bytes 0) in
    let next = column_after column at_end byte in
    decode-step (fits column (length unit) at_end) row done unit (rest_of_line next more) tail byte more read wrote is.wrote
    (λ r d w shape. line-decode more tail read ends (λ i. bytes (suc i)) next r d w (λ e. elim shape [
      | inl both ↦ subst EndsWell (sym both) (is.ends e row)
      | inr alone ↦ subst EndsWell (sym alone) (is.ends e [])
    ]))

-- ---- what a text decodes to

abbrev pub plainly : List ℕ → List ℕ
plainly line = line

join-step : (cut : Bool) (first second : ℕ) (more : List ℕ) (here after : List (List ℕ)) → (cut ≡ true → (first ≡ 13) × (second ≡ 10))
    → 0 < length here → join_by plainly break here ≡ more → join_by plainly break after ≡ second ∷ more
    → join_by plainly break (cond cut ([] ∷ here) (onto_first first after)) ≡ first ∷ second ∷ more
join-step true first second more [] after are some whole rest = absurd (omega arith)
join-step true first second more (line ∷ others) after are some whole rest =
    let both = are refl in
    ap (λ xs. 13 ∷ 10 ∷ xs) whole ∙ ap (λ x. x ∷ 10 ∷ more) (sym both.0) ∙ ap (λ y. first ∷ y ∷ more) (sym both.1)
join-step false first second more here [] are some whole rest = ap (λ xs. first ∷ xs) rest
join-step false first second more here (line ∷ others) are some whole rest = ap (λ xs. first ∷ xs) rest

pub join-broken_lines : (text : List ℕ) → join_by plainly break (broken_lines text) ≡ text
unfolding broken_lines
join-broken_lines [] = refl
join-broken_lines (only ∷ []) = refl
join-broken_lines (first ∷ second ∷ more) =
    join-step ((first == 13) && (second == 10)) first second more (broken_lines more) (broken_lines (second ∷ more))
    (λ e. let both = and_parts (first == 13) (second == 10) e in (eqb-true first 13 both.0, eqb-true second 10 both.1))
    (broken_lines-some more) (join-broken_lines more) (join-broken_lines (second ∷ more))

pub back_bytes : (front back : List ℕ) → IsBytes (front ++ back) → IsBytes back
back_bytes [] back are = are
back_bytes (x ∷ front) back are = back_bytes front back (λ i. are (suc i))

text-decode : (line : List ℕ) (others : List (List ℕ)) → IsBytes (join_by plainly break (line ∷ others))
    → quoted_bytes (join_by rows_text break (line ∷ others)) ≡ join_by plainly break (line ∷ others)
unfolding IsTail
text-decode line [] are =
    ap (λ xs. quoted_bytes (xs ++ [])) (rows_text-rest line)
    ∙ line-decode line [] [] (λ row done wrote well. ap quoted_bytes (append-nil row) ∙ quoted_bytes-end row wrote.one well ∙ wrote-all row done wrote ∙ sym (append-nil done))
    (front_bytes line [] are) 0 [] [] wrote-nothing (λ e. ends_well-nothing)
text-decode line (next ∷ more) are =
    let written = join_by rows_text break (next ∷ more) in
    let read = join_by plainly break (next ∷ more) in
    let later = text-decode next more (back_bytes (line ++ 13 ∷ 10 ∷ []) read (subst IsBytes (sym (append_assoc line (13 ∷ 10 ∷ []) read)) are)) in
    ap (λ xs. quoted_bytes (xs ++ 13 ∷ 10 ∷ written)) (rows_text-rest line)
    ∙ line-decode line (13 ∷ 10 ∷ written) (13 ∷ 10 ∷ read)
    (λ row done wrote well. quoted_bytes-hard row written wrote.one well ∙ ap (λ xs. xs ++ 13 ∷ 10 ∷ quoted_bytes written) (wrote-all row done wrote) ∙ ap (λ xs. done ++ 13 ∷ 10 ∷ xs) later)
    (front_bytes line (13 ∷ 10 ∷ read) are) 0 [] [] wrote-nothing (λ e. ends_well-nothing)

lines-decode : (all : List (List ℕ)) → 0 < length all → IsBytes (join_by plainly break all)
    → quoted_bytes (join_by rows_text break all) ≡ join_by plainly break all
lines-decode [] some are = absurd (omega arith)
lines-decode (line ∷ others) some are = text-decode line others are

pub quoted_text-decode : (bytes : List ℕ) → IsBytes bytes → quoted_bytes (quoted_text bytes) ≡ bytes
unfolding quoted_text
quoted_text-decode bytes are =
    lines-decode (broken_lines bytes) (broken_lines-some bytes) (subst IsBytes (sym (join-broken_lines bytes)) are) ∙ join-broken_lines bytes

-- ---- how long the lines are

abbrev AllShort : List ℕ → Type 0
AllShort text = All (λ line. length line ≤ 76) (lines text)

AllShort-same : (text other : List ℕ) → text ≡ other → AllShort other → AllShort text
AllShort-same text other e short = All-same (λ (line : List ℕ). length line ≤ 76) (lines text) (lines other) (ap lines e) short

short-break : (line rest : List ℕ) → IsOneLine line → length line ≤ 76 → AllShort rest → AllShort (line ++ 13 ∷ 10 ∷ rest)
short-break line rest one fit later =
    let short : List ℕ → Type 0 = λ xs. length xs ≤ 76 in
    All-same short (lines (line ++ 13 ∷ 10 ∷ rest)) (line ∷ lines rest) (lines-break line rest one) (All-cons short line (lines rest) fit later)

last_part : (empty : Bool) (line : List ℕ) → length line ≤ 76 → All (λ xs. length xs ≤ 76) (cond empty [] (line ∷ []))
last_part true line fit = All-nil (λ (xs : List ℕ). length xs ≤ 76)
last_part false line fit = All-cons (λ (xs : List ℕ). length xs ≤ 76) line [] fit (All-nil (λ (xs : List ℕ). length xs ≤ 76))

short-end : (line : List ℕ) → IsOneLine line → length line ≤ 76 → AllShort line
short-end line one fit =
    All-same (λ (xs : List ℕ). length xs ≤ 76) (lines line) (lines_of_parts (line ∷ [])) (ap lines_of_parts (slice_split_none is_line_feed line one))
    (last_part (length line == 0) line fit)

IsShortTail : List ℕ → Type 0
IsShortTail tail = (row : List ℕ) → IsOneLine row → length row ≤ 76 → AllShort (row ++ tail)

-- one more than nothing, where a line goes on
abbrev soft_size : Bool → ℕ
soft_size at_end = cond at_end 0 1

short-step : (goes_on : Bool) (row unit more tail : List ℕ) → IsOneLine row → length row + 1 ≤ 76
    → (goes_on ≡ true → AllShort ((row ++ unit) ++ (rest_of_line (length (row ++ unit)) more ++ tail)))
    → AllShort (unit ++ (rest_of_line (length unit) more ++ tail))
    → AllShort (row ++ (((cond goes_on [] (61 ∷ 13 ∷ 10 ∷ []) ++ unit) ++ rest_of_line (cond goes_on (length row) 0 + length unit) more) ++ tail))
short-step true row unit more tail one room same new =
    let rest = rest_of_line (length row + length unit) more in
    AllShort-same (row ++ ((unit ++ rest) ++ tail)) ((row ++ unit) ++ (rest_of_line (length (row ++ unit)) more ++ tail))
    (ap (λ xs. row ++ xs) (append_assoc unit rest tail) ∙ sym (append_assoc row unit (rest ++ tail))
    ∙ ap (λ n. (row ++ unit) ++ (rest_of_line n more ++ tail)) (sym (length-append row unit)))
    (same refl)
short-step false row unit more tail one room same new =
    let here : 0 + length unit ≡ length unit = omega arith in
    let rest = rest_of_line (0 + length unit) more in
    let ended : List ℕ = row ++ 61 ∷ [] in
    let plain : ℕ → Type 0 = λ b. is_line_feed b ≡ false in
    AllShort-same (row ++ 61 ∷ 13 ∷ 10 ∷ ((unit ++ rest) ++ tail)) (ended ++ 13 ∷ 10 ∷ (unit ++ (rest_of_line (length unit) more ++ tail)))
    (sym (append_assoc row (61 ∷ []) (13 ∷ 10 ∷ ((unit ++ rest) ++ tail))) ∙ ap (λ xs. ended ++ 13 ∷ 10 ∷ xs) (append_assoc unit rest tail)
    ∙ ap (λ n. ended ++ 13 ∷ 10 ∷ (unit ++ (rest_of_line n more ++ tail))) here)
    (short-break ended (unit ++ (rest_of_line (length unit) more ++ tail)) (All-append plain row (61 ∷ []) one (All-cons plain 61 [] refl (All-nil plain)))
    (omega (arith, length-append row (61 ∷ []))) new)

soft_size-le : (at_end : Bool) → soft_size at_end ≤ 1
soft_size-le true = omega arith
soft_size-le false = omega arith

line-short : (line tail : List ℕ) → IsShortTail tail → IsBytes line → (row : List ℕ) → IsOneLine row → length row + soft_size (is_empty line) ≤ 76
    → AllShort (row ++ (rest_of_line (length row) line ++ tail))
unfolding placed_unit column_after IsShortTail
line-short [] tail ends bytes row one room = ends row one (omega arith)
line-short (byte ∷ more) tail ends bytes row one room =
    let at_end = is_empty more in
    let unit = unit_of at_end byte in
    let is : IsUnit at_end unit byte = unit-is at_end byte (bytes 0) in
    let more_bytes : IsBytes more = λ i. bytes (suc i) in
    let small : length unit ≤ 3 = is.short in
    let soft : soft_size at_end ≤ 1 = soft_size-le at_end in
    short-step (fits (length row) (length unit) at_end) row unit more tail one room
    (λ e.
    let fit : length row + length unit + soft_size at_end ≤ 76 = leb-true (length row + length unit + soft_size at_end) 76 e in
    line-short more tail ends more_bytes (row ++ unit) (All-append (λ b. is_line_feed b ≡ false) row unit one is.wrote.one)
    (omega (arith, length-append row unit)))
    (line-short more tail ends more_bytes unit is.wrote.one (omega arith))

text-short : (line : List ℕ) (others : List (List ℕ)) → IsBytes (join_by plainly break (line ∷ others))
    → AllShort (join_by rows_text break (line ∷ others))
unfolding IsShortTail
text-short line [] are =
    AllShort-same (rows_text line ++ []) (rest_of_line 0 line ++ []) (ap (λ xs. xs ++ []) (rows_text-rest line))
    (line-short line [] (λ row one fit. AllShort-same (row ++ []) row (append-nil row) (short-end row one fit))
    (front_bytes line [] are) [] (All-nil (λ b. is_line_feed b ≡ false)) (omega (arith, soft_size-le (is_empty line))))
text-short line (next ∷ more) are =
    let written = join_by rows_text break (next ∷ more) in
    let read = join_by plainly break (next ∷ more) in
    let later = text-short next more (back_bytes (line ++ 13 ∷ 10 ∷ []) read (subst IsBytes (sym (append_assoc line (13 ∷ 10 ∷ []) read)) are)) in
    AllShort-same (rows_text line ++ 13 ∷ 10 ∷ written) (rest_of_line 0 line ++ 13 ∷ 10 ∷ written) (ap (λ xs. xs ++ 13 ∷ 10 ∷ written) (rows_text-rest line))
    (line-short line (13 ∷ 10 ∷ written) (λ row one fit. short-break row written one fit later)
    (front_bytes line (13 ∷ 10 ∷ read) are) [] (All-nil (λ b. is_line_feed b ≡ false)) (omega (arith, soft_size-le (is_empty line))))

lines-short : (all : List (List ℕ)) → 0 < length all → IsBytes (join_by plainly break all) → AllShort (join_by rows_text break all)
lines-short [] some are = absurd (omega arith)
lines-short (line ∷ others) some are = text-short line others are

pub quoted_text-short : (bytes : List ℕ) → IsBytes bytes → All (λ line. length line ≤ 76) (lines (quoted_text bytes))
unfolding quoted_text
quoted_text-short bytes are =
    lines-short (broken_lines bytes) (broken_lines-some bytes) (subst IsBytes (sym (join-broken_lines bytes)) are)
