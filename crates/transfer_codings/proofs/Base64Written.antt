-- What the base64 text of bytes decodes to, and how long its lines are.
use Rattle.std.proofs.Common.{◌≡◌, ℕ, zero, suc, ◌+◌, ◌-◌, ◌*◌, ◌/◌, ◌%◌, min, ◌<◌, ◌≤◌, ◌==◌, ◌⊎◌, Bool, true, false, not, cond, ◌&&◌, List, [], ◌∷◌, ◌++◌, length, get_or, take, drop, replicate, slice_index, Option, Some, None, refl, sym, ap, ◌∙◌, inl, inr, arith}
use Rattle.std.specs.List.{All, before_first, cons_option}
use Rattle.std.specs.Str.Lines.{lines}
use Rattle.std.proofs.lemmas.Bool.{and_parts, cases_lt, eqb-true, not-true}
use Rattle.std.proofs.lemmas.List.{append-nil, append_assoc, drop_all, drop-drop, get_or_past, get_or-drop, get_or-take, length-append, length-drop, length-replicate, length-take, take-append-drop}
use Rattle.std.proofs.lemmas.List.Elements.{All-append, All-cons, All-nil, All-replicate, All-same}
use Rattle.std.proofs.lemmas.List.Sums.{take_while-cons}
use Rattle.base64.specs.Engines.{standard}
use Rattle.base64.specs.GeneralPurpose.{IsBytes, encode_of}
use Rattle.base64.specs.Rfc4648.{encode_group, encode_one, encode_symbols, encode_two, padding_len, unpadded_len}
use Rattle.base64.specs.Tables.{all_below}
use Rattle.base64.proofs.RoundTrip.{length-encode_symbols}
use Rattle.base64.proofs.Tables.{all_below_at}
use Rattle.transfer_codings.specs.Base64.{alphabet, base64_line, base64_lines, bytes_of, is_equals, line_piece, sextet_of, sextets}
use Rattle.transfer_codings.specs.Quoted.{is_line_feed}
use Rattle.transfer_codings.proofs.Lines.{lines-break}

-- ---- the characters of the alphabet

abbrev pub is_value : Option ℕ → ℕ → Bool
is_value (Some sextet) value = sextet == value
is_value None value = false

pub is_value-some : (o : Option ℕ) (value : ℕ) → is_value o value ≡ true → o ≡ Some value
is_value-some (Some sextet) value h = ap Some (eqb-true sextet value h)
is_value-some None value h = cc

-- the character of a value has that value, and is neither `=` nor LF
abbrev is_right : ℕ → Bool
is_right value =
    let character = slice_index alphabet value in
    is_value (sextet_of character) value && (not (is_equals character) && not (is_line_feed character))

all_right : all_below is_right 64 ≡ true
unfolding sextet_of
all_right = refl

record IsCharacter (character value : ℕ) : Type 0 where
  sextet : sextet_of character ≡ Some value
  no_equals : is_equals character ≡ false
  no_line_feed : is_line_feed character ≡ false

character_of : (value : ℕ) → value < 64 → IsCharacter (slice_index alphabet value) value
character_of value small =
    let character = slice_index alphabet value in
    let right = all_below_at is_right 64 value all_right small in
    let parts = and_parts (is_value (sextet_of character) value) (not (is_equals character) && not (is_line_feed character)) right in
    let others = and_parts (not (is_equals character)) (not (is_line_feed character)) parts.1 in
    record {
      sextet = is_value-some (sextet_of character) value parts.0;
      no_equals = not-true (is_equals character) others.0;
      no_line_feed = not-true (is_line_feed character) others.1;
    }

-- ---- the sextets that count, character by character

abbrev live : List ℕ → List ℕ
live text = sextets (before_first is_equals text)

live-cons : (character : ℕ) (text : List ℕ) → is_equals character ≡ false → live (character ∷ text) ≡ cons_option (sextet_of character) (live text)
live-cons character text other =
    ap sextets (take_while-cons (λ b. not (is_equals b)) character text ∙ ap (λ t. cond (not t) (character ∷ before_first is_equals text) []) other)

live-equals : (text : List ℕ) → live (61 ∷ text) ≡ []
live-equals text = ap sextets (take_while-cons (λ b. not (is_equals b)) 61 text)

live-break : (text : List ℕ) → live (13 ∷ 10 ∷ text) ≡ live text
unfolding sextet_of
live-break text = live-cons 13 (10 ∷ text) refl ∙ live-cons 10 text refl

live-character : (value : ℕ) (text : List ℕ) → value < 64 → live (slice_index alphabet value ∷ text) ≡ value ∷ live text
live-character value text small =
    let character = slice_index alphabet value in
    let right = character_of value small in
    live-cons character text right.no_equals ∙ ap (λ o. cons_option o (live text)) right.sextet

-- ---- a group of three bytes

live-group : (a b c : ℕ) (text : List ℕ) → a < 256 → b < 256 → c < 256
    → live (encode_group alphabet a b c ++ text) ≡ (a / 4) ∷ (a % 4 * 16 + b / 16) ∷ (b % 16 * 4 + c / 64) ∷ (c % 64) ∷ live text
live-group a b c text fa fb fc =
    let t = alphabet in
    let s1 = slice_index t (a % 4 * 16 + b / 16) in
    let s2 = slice_index t (b % 16 * 4 + c / 64) in
    let s3 = slice_index t (c % 64) in
    live-character (a / 4) (s1 ∷ s2 ∷ s3 ∷ text) (omega arith)
    ∙ ap (λ xs. (a / 4) ∷ xs) (live-character (a % 4 * 16 + b / 16) (s2 ∷ s3 ∷ text) (omega arith)
    ∙ ap (λ xs. (a % 4 * 16 + b / 16) ∷ xs) (live-character (b % 16 * 4 + c / 64) (s3 ∷ text) (omega arith)
    ∙ ap (λ xs. (b % 16 * 4 + c / 64) ∷ xs) (live-character (c % 64) text (omega arith))))

first_byte : (a b : ℕ) → a < 256 → b < 256 → a / 4 * 4 + (a % 4 * 16 + b / 16) / 16 ≡ a
first_byte a b fa fb = omega arith

second_byte : (a b c : ℕ) → b < 256 → c < 256 → (a % 4 * 16 + b / 16) % 16 * 16 + (b % 16 * 4 + c / 64) / 4 ≡ b
second_byte a b c fb fc = omega arith

third_byte : (b c : ℕ) → c < 256 → (b % 16 * 4 + c / 64) % 4 * 64 + c % 64 ≡ c
third_byte b c fc = omega arith

bytes_of-group : (a b c : ℕ) (text : List ℕ) → a < 256 → b < 256 → c < 256
    → bytes_of (live (encode_group alphabet a b c ++ text)) ≡ a ∷ b ∷ c ∷ bytes_of (live text)
unfolding bytes_of
bytes_of-group a b c text fa fb fc =
    let e = live-group a b c text fa fb fc in
    rw (e, first_byte a b fa fb, second_byte a b c fb fc, third_byte b c fc) refl

bytes_of-two_left : (a b : ℕ) (text : List ℕ) → a < 256 → b < 256
    → bytes_of (live (encode_two alphabet a b ++ 61 ∷ text)) ≡ a ∷ b ∷ []
unfolding bytes_of
bytes_of-two_left a b text fa fb =
    let s1 = slice_index alphabet (a % 4 * 16 + b / 16) in
    let s2 = slice_index alphabet (b % 16 * 4) in
    let e = live-character (a / 4) (s1 ∷ s2 ∷ 61 ∷ text) (omega arith)
    ∙ ap (λ xs. (a / 4) ∷ xs) (live-character (a % 4 * 16 + b / 16) (s2 ∷ 61 ∷ text) (omega arith)
    ∙ ap (λ xs. (a % 4 * 16 + b / 16) ∷ xs) (live-character (b % 16 * 4) (61 ∷ text) (omega arith)
    ∙ ap (λ xs. (b % 16 * 4) ∷ xs) (live-equals text))) in
    let second : (a % 4 * 16 + b / 16) % 16 * 16 + b % 16 * 4 / 4 ≡ b = omega arith in
    rw (e, first_byte a b fa fb, second) refl

bytes_of-one_left : (a : ℕ) (text : List ℕ) → a < 256 → bytes_of (live (encode_one alphabet a ++ 61 ∷ text)) ≡ a ∷ []
unfolding bytes_of
bytes_of-one_left a text fa =
    let s1 = slice_index alphabet (a % 4 * 16) in
    let e = live-character (a / 4) (s1 ∷ 61 ∷ text) (omega arith)
    ∙ ap (λ xs. (a / 4) ∷ xs) (live-character (a % 4 * 16) (61 ∷ text) (omega arith)
    ∙ ap (λ xs. (a % 4 * 16) ∷ xs) (live-equals text)) in
    let first : a / 4 * 4 + a % 4 * 16 / 16 ≡ a = omega arith in
    rw (e, first) refl

-- whole groups
bytes_of-groups : (m text : List ℕ) → IsBytes m → length m % 3 ≡ 0
    → bytes_of (live (encode_symbols alphabet m ++ text)) ≡ m ++ bytes_of (live text)
unfolding encode_symbols
bytes_of-groups [] text bytes whole = refl
bytes_of-groups (a ∷ []) text bytes whole = absurd (omega arith)
bytes_of-groups (a ∷ b ∷ []) text bytes whole = absurd (omega arith)
bytes_of-groups (a ∷ b ∷ c ∷ rest) text bytes whole =
    bytes_of-group a b c (encode_symbols alphabet rest ++ text) (bytes 0) (bytes 1) (bytes 2)
    ∙ ap (λ xs. a ∷ b ∷ c ∷ xs) (bytes_of-groups rest text (λ i. bytes (suc (suc (suc i)))) (omega (arith, whole)))

-- groups, and the padding of the last
bytes_of-padded : (m : List ℕ) (padding : ℕ) → IsBytes m → padding ≡ padding_len (length m)
    → bytes_of (live (encode_symbols alphabet m ++ (replicate padding 61 ++ 13 ∷ 10 ∷ []))) ≡ m
unfolding encode_symbols bytes_of
bytes_of-padded [] padding bytes e = rw e (ap bytes_of (live-break []))
bytes_of-padded (a ∷ []) padding bytes e = rw e (bytes_of-one_left a (61 ∷ 13 ∷ 10 ∷ []) (bytes 0))
bytes_of-padded (a ∷ b ∷ []) padding bytes e = rw e (bytes_of-two_left a b (13 ∷ 10 ∷ []) (bytes 0) (bytes 1))
bytes_of-padded (a ∷ b ∷ c ∷ rest) padding bytes e =
    bytes_of-group a b c (encode_symbols alphabet rest ++ (replicate padding 61 ++ 13 ∷ 10 ∷ [])) (bytes 0) (bytes 1) (bytes 2)
    ∙ ap (λ xs. a ∷ b ∷ c ∷ xs) (bytes_of-padded rest padding (λ i. bytes (suc (suc (suc i)))) (omega (arith, e)))

-- ---- lines

bytes_of-last : (m rest : List ℕ) → IsBytes m → rest ≡ [] → bytes_of (live (base64_line m ++ rest)) ≡ m ++ bytes_of (live rest)
unfolding base64_line bytes_of
bytes_of-last m rest bytes last =
    let symbols : List ℕ = encode_symbols alphabet m in
    let padding : List ℕ = replicate (padding_len (length m)) 61 in
    rw (last, append-nil (symbols ++ padding ++ 13 ∷ 10 ∷ []), append_assoc symbols padding (13 ∷ 10 ∷ []), append-nil m) (bytes_of-padded m (padding_len (length m)) bytes refl)

bytes_of-line : (m rest : List ℕ) → IsBytes m → (length m % 3 ≡ 0) ⊎ (rest ≡ [])
    → bytes_of (live (base64_line m ++ rest)) ≡ m ++ bytes_of (live rest)
unfolding base64_line
bytes_of-line m rest bytes (inl whole) =
    let none : padding_len (length m) ≡ 0 = omega (arith, whole) in
    let joined : (encode_symbols alphabet m ++ replicate (padding_len (length m)) 61 ++ 13 ∷ 10 ∷ []) ++ rest ≡ encode_symbols alphabet m ++ 13 ∷ 10 ∷ rest =
    ap (λ n. (encode_symbols alphabet m ++ replicate n 61 ++ 13 ∷ 10 ∷ []) ++ rest) none
    ∙ ap (λ xs. (xs ++ 13 ∷ 10 ∷ []) ++ rest) (append-nil (encode_symbols alphabet m)) ∙ append_assoc (encode_symbols alphabet m) (13 ∷ 10 ∷ []) rest in
    ap (λ xs. bytes_of (live xs)) joined ∙ bytes_of-groups m (13 ∷ 10 ∷ rest) bytes whole ∙ ap (λ xs. m ++ bytes_of xs) (live-break rest)
bytes_of-line m rest bytes (inr last) = bytes_of-last m rest bytes last

-- the encoding holds no LF
plain-character : (value : ℕ) (text : List ℕ) → value < 64 → All (λ byte. is_line_feed byte ≡ false) text
    → All (λ byte. is_line_feed byte ≡ false) (slice_index alphabet value ∷ text)
plain-character value text small plain =
    All-cons (λ byte. is_line_feed byte ≡ false) (slice_index alphabet value) text (character_of value small).no_line_feed plain

symbols-plain : (m : List ℕ) → IsBytes m → All (λ byte. is_line_feed byte ≡ false) (encode_symbols alphabet m)
unfolding encode_symbols
symbols-plain [] bytes = All-nil (λ byte. is_line_feed byte ≡ false)
symbols-plain (a ∷ []) bytes =
    let fa : a < 256 = bytes 0 in
    let s1 = slice_index alphabet (a % 4 * 16) in
    plain-character (a / 4) (s1 ∷ []) (omega arith)
    (plain-character (a % 4 * 16) [] (omega arith) (All-nil (λ byte. is_line_feed byte ≡ false)))
symbols-plain (a ∷ b ∷ []) bytes =
    let fa : a < 256 = bytes 0 in
    let fb : b < 256 = bytes 1 in
    let s1 = slice_index alphabet (a % 4 * 16 + b / 16) in
    let s2 = slice_index alphabet (b % 16 * 4) in
    plain-character (a / 4) (s1 ∷ s2 ∷ []) (omega arith)
    (plain-character (a % 4 * 16 + b / 16) (s2 ∷ []) (omega arith)
    (plain-character (b % 16 * 4) [] (omega arith) (All-nil (λ byte. is_line_feed byte ≡ false))))
symbols-plain (a ∷ b ∷ c ∷ rest) bytes =
    let fa : a < 256 = bytes 0 in
    let fb : b < 256 = bytes 1 in
    let fc : c < 256 = bytes 2 in
    let s1 = slice_index alphabet (a % 4 * 16 + b / 16) in
    let s2 = slice_index alphabet (b % 16 * 4 + c / 64) in
    let s3 = slice_index alphabet (c % 64) in
    let more = encode_symbols alphabet rest in
    plain-character (a / 4) (s1 ∷ s2 ∷ s3 ∷ more) (omega arith)
    (plain-character (a % 4 * 16 + b / 16) (s2 ∷ s3 ∷ more) (omega arith)
    (plain-character (b % 16 * 4 + c / 64) (s3 ∷ more) (omega arith)
    (plain-character (c % 64) more (omega arith) (symbols-plain rest (λ i. bytes (suc (suc (suc i))))))))

encoding-plain : (m : List ℕ) → IsBytes m → All (λ byte. is_line_feed byte ≡ false) (encode_of standard m)
encoding-plain m bytes =
    let plain : ℕ → Type 0 = λ byte. is_line_feed byte ≡ false in
    All-append plain (encode_symbols alphabet m) (replicate (padding_len (length m)) 61) (symbols-plain m bytes)
    (All-replicate plain (padding_len (length m)) 61 refl)

pub length-encoding : (m : List ℕ) → length (encode_of standard m) ≡ unpadded_len (length m) + padding_len (length m)
length-encoding m =
    omega (arith, length-append (encode_symbols alphabet m) (replicate (padding_len (length m)) 61), length-encode_symbols alphabet m, length-replicate {A = ℕ} (padding_len (length m)) 61)

-- ---- all lines

IsBytes-piece : (bytes : List ℕ) (number : ℕ) → IsBytes bytes → IsBytes (line_piece bytes number)
IsBytes-piece bytes number are i =
    let rest = drop (57 * number) bytes in
    elim (cases_lt i 57) [
      | inl within ↦
          let e : get_or (take 57 rest) i 0 ≡ get_or rest i 0 = get_or-take 57 rest i 0 within in
          let f : get_or rest i 0 ≡ get_or bytes (57 * number + i) 0 = get_or-drop (57 * number) bytes i 0 in
          let small = are (57 * number + i) in
          omega arith
      | inr past ↦
          let e : get_or (take 57 rest) i 0 ≡ 0 = get_or_past (take 57 rest) i 0 (omega (arith, length-take 57 rest)) in
          omega arith
    ]

pieces-joined : (bytes : List ℕ) (number : ℕ) → line_piece bytes number ++ drop (57 * (number + 1)) bytes ≡ drop (57 * number) bytes
pieces-joined bytes number =
    let rest = drop (57 * number) bytes in
    let next : 57 * (number + 1) ≡ 57 * number + 57 = omega arith in
    ap (λ n. take 57 rest ++ drop n bytes) next ∙ ap (λ xs. take 57 rest ++ xs) (sym (drop-drop 57 (57 * number) bytes)) ∙ take-append-drop 57 rest

pub base64_lines-decode : (bytes : List ℕ) (first count : ℕ) → IsBytes bytes → first + count ≡ (length bytes + 56) / 57
    → bytes_of (live (base64_lines bytes first count)) ≡ drop (57 * first) bytes
unfolding base64_lines bytes_of
base64_lines-decode bytes first zero are e = sym (drop_all (57 * first) bytes (omega arith))
base64_lines-decode bytes first (suc count) are e =
    let piece = line_piece bytes first in
    let rest = base64_lines bytes (first + 1) count in
    let long : length piece ≡ min 57 (length bytes - 57 * first) = length-take 57 (drop (57 * first) bytes) ∙ ap (min 57) (length-drop (57 * first) bytes) in
    let whole : (length piece % 3 ≡ 0) ⊎ (rest ≡ []) = elim (cases_lt (length bytes) (57 * first + 57)) [
      | inl short ↦ let last : count ≡ 0 = omega arith in inr (ap (base64_lines bytes (first + 1)) last)
      | inr full ↦ let size : length piece ≡ 57 = omega arith in inl (rw size refl)
    ] in
    bytes_of-line piece rest (IsBytes-piece bytes first are) whole
    ∙ ap (λ xs. piece ++ xs) (base64_lines-decode bytes (first + 1) count are (omega arith))
    ∙ pieces-joined bytes first

pub base64_lines-short : (bytes : List ℕ) (first count : ℕ) → IsBytes bytes
    → All (λ line. length line ≤ 76) (lines (base64_lines bytes first count))
unfolding base64_lines base64_line
base64_lines-short bytes first zero are = All-nil (λ (line : List ℕ). length line ≤ 76)
base64_lines-short bytes first (suc count) are =
    let short : List ℕ → Type 0 = λ line. length line ≤ 76 in
    let piece = line_piece bytes first in
    let rest = base64_lines bytes (first + 1) count in
    let long : length piece ≤ 57 = omega (arith, length-take 57 (drop (57 * first) bytes)) in
    let split : lines (base64_lines bytes first (suc count)) ≡ encode_of standard piece ∷ lines rest =
    ap lines (append_assoc (encode_of standard piece) (13 ∷ 10 ∷ []) rest)
    ∙ lines-break (encode_of standard piece) rest (encoding-plain piece (IsBytes-piece bytes first are)) in
    All-same short _ _ split (All-cons short (encode_of standard piece) (lines rest) (omega (arith, length-encoding piece)) (base64_lines-short bytes (first + 1) count are))
