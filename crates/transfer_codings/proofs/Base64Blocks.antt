-- Lines whose bytes are encoded together.
use Rattle.std.proofs.Common.{◌≡◌, ℕ, zero, suc, ◌+◌, ◌-◌, ◌*◌, ◌/◌, ◌%◌, min, ◌<◌, ◌≤◌, List, [], ◌∷◌, ◌++◌, length, take, drop, replicate, ◌⊎◌, refl, sym, ap, ◌∙◌, inl, inr, arith}
use Rattle.std.proofs.lemmas.Bool.{cases_lt}
use Rattle.std.proofs.lemmas.List.{append-nil, append_assoc, drop_at, drop-append-le, drop-drop, drop-take, length-append, length-drop, length-take, take-append-drop, take_all, take_at, take_min, take-append-le, take-take}
use Rattle.base64.specs.Engines.{standard}
use Rattle.base64.specs.GeneralPurpose.{encode_of}
use Rattle.base64.specs.Rfc4648.{encode_symbols, padding_len}
use Rattle.base64.proofs.Canonical.{encode_symbols-append}
use Rattle.transfer_codings.specs.Base64.{alphabet, base64_line, base64_lines, line_piece}
use Rattle.transfer_codings.proofs.Base64Written.{length-encoding}

-- whole groups are encoded by themselves
encoding-append : (front back : List ℕ) → length front % 3 ≡ 0
    → encode_of standard (front ++ back) ≡ encode_of standard front ++ encode_of standard back
encoding-append front back whole =
    let none : padding_len (length front) ≡ 0 = omega (arith, whole) in
    let same : padding_len (length (front ++ back)) ≡ padding_len (length back) = omega (arith, whole, length-append front back) in
    let padding : List ℕ = replicate (padding_len (length back)) 61 in
    let alone : encode_of standard front ≡ encode_symbols alphabet front =
    ap (λ n. encode_symbols alphabet front ++ replicate n 61) none ∙ append-nil (encode_symbols alphabet front) in
    ap (λ n. encode_symbols alphabet (front ++ back) ++ replicate n 61) same
    ∙ ap (λ xs. xs ++ padding) (encode_symbols-append alphabet front back whole)
    ∙ append_assoc (encode_symbols alphabet front) (encode_symbols alphabet back) padding
    ∙ ap (λ xs. xs ++ encode_of standard back) (sym alone)

record FirstLine (bytes : List ℕ) : Type 0 where
  here : take 76 (encode_of standard bytes) ≡ encode_of standard (take 57 bytes)
  after : drop 76 (encode_of standard bytes) ≡ encode_of standard (drop 57 bytes)

first_line : (bytes : List ℕ) → 57 ≤ length bytes → FirstLine bytes
first_line bytes full =
    let front : List ℕ = take 57 bytes in
    let size : length front ≡ 57 = omega (arith, length-take 57 bytes, full) in
    let long : length (encode_of standard front) ≡ 76 = omega (arith, length-encoding front, size) in
    let split : encode_of standard bytes ≡ encode_of standard front ++ encode_of standard (drop 57 bytes) =
    ap (λ xs. encode_of standard xs) (sym (take-append-drop 57 bytes)) ∙ encoding-append front (drop 57 bytes) (omega (arith, size)) in
    record {
      here = ap (take 76) split ∙ take_at (encode_of standard front) (encode_of standard (drop 57 bytes)) 76 long;
      after = ap (drop 76) split ∙ drop_at (encode_of standard front) (encode_of standard (drop 57 bytes)) 76 long;
    }

-- each line of an encoding encodes the bytes of its place
encoding-line : (bytes : List ℕ) (number : ℕ) → 57 * number < length bytes
    → take 76 (drop (76 * number) (encode_of standard bytes)) ≡ encode_of standard (line_piece bytes number)
encoding-line bytes zero some = elim (cases_lt (length bytes) 57) [
  | inl short ↦
      take_all 76 (encode_of standard bytes) (omega (arith, length-encoding bytes))
      ∙ ap (λ xs. encode_of standard xs) (sym (take_all 57 bytes (omega arith)))
  | inr full ↦ (first_line bytes full).here
]
encoding-line bytes (suc number) some =
    let full : 57 ≤ length bytes = omega arith in
    let outer : 76 * suc number ≡ 76 + 76 * number = omega arith in
    let inner : 57 + 57 * number ≡ 57 * suc number = omega arith in
    let encoding = encode_of standard bytes in
    ap (λ n. take 76 (drop n encoding)) outer
    ∙ ap (take 76) (sym (drop-drop (76 * number) 76 encoding))
    ∙ ap (λ xs. take 76 (drop (76 * number) xs)) (first_line bytes full).after
    ∙ encoding-line (drop 57 bytes) number (omega (arith, length-drop 57 bytes))
    ∙ ap (λ xs. encode_of standard (take 57 xs)) (drop-drop (57 * number) 57 bytes)
    ∙ ap (λ n. encode_of standard (take 57 (drop n bytes))) inner

-- the bytes of a line among those of a block of lines
block-line : (bytes : List ℕ) (first number most : ℕ) → 57 * number ≤ most → (57 ≤ most - 57 * number) ⊎ (57 * first + most ≡ length bytes)
    → line_piece (take most (drop (57 * first) bytes)) number ≡ line_piece bytes (first + number)
block-line bytes first number most within enough =
    let rest : List ℕ = drop (57 * first) bytes in
    let m : ℕ = most - 57 * number in
    let left : List ℕ = drop (57 * number) rest in
    let parts : most ≡ 57 * number + m = omega arith in
    let place : 57 * first + 57 * number ≡ 57 * (first + number) = omega arith in
    let cut : take 57 (take m left) ≡ take 57 left = elim enough [
      | inl full ↦ take-take 57 m left full
      | inr end ↦ ap (take 57) (take_all m left (omega (arith, length-drop (57 * number) rest, length-drop (57 * first) bytes, end)))
    ] in
    ap (λ n. take 57 (drop (57 * number) (take n rest))) parts
    ∙ ap (take 57) (drop-take (57 * number) m rest)
    ∙ cut
    ∙ ap (take 57) (drop-drop (57 * number) (57 * first) bytes)
    ∙ ap (λ n. take 57 (drop n bytes)) place

-- a line of the encoding of a block, with its end, is that line of the text
pub block-written : (bytes out old : List ℕ) (first count number end stop size : ℕ)
    → first + count ≤ (length bytes + 56) / 57 → number < count → end ≡ min (57 * (first + count)) (length bytes)
    → out ≡ encode_of standard (take (end - 57 * first) (drop (57 * first) bytes)) ++ old
    → size ≡ length (encode_of standard (take (end - 57 * first) (drop (57 * first) bytes)))
    → stop ≡ min (76 * number + 76) size
    → take (stop - 76 * number) (drop (76 * number) out) ++ 13 ∷ 10 ∷ [] ≡ base64_line (line_piece bytes (first + number))
unfolding base64_line
block-written bytes out old first count number end stop size lines some ends written e stops =
    let most : ℕ = end - 57 * first in
    let piece : List ℕ = take most (drop (57 * first) bytes) in
    let text = encode_of standard piece in
    let long : length piece ≡ most = omega (arith, length-take most (drop (57 * first) bytes), length-drop (57 * first) bytes) in
    let within : 57 * number < most = omega arith in
    let size_is = length-encoding piece in
    let here : 76 * number ≤ length text = omega arith in
    let left : List ℕ = drop (76 * number) text in
    let width : stop - 76 * number ≡ min 76 (length left) = omega (arith, length-drop (76 * number) text) in
    let enough : (57 ≤ most - 57 * number) ⊎ (57 * first + most ≡ length bytes) = elim (cases_lt (most - 57 * number) 57) [
      | inl short ↦ inr (omega arith)
      | inr full ↦ inl full
    ] in
    let line : take (stop - 76 * number) (drop (76 * number) out) ≡ encode_of standard (line_piece bytes (first + number)) =
    ap (λ xs. take (stop - 76 * number) (drop (76 * number) xs)) written
    ∙ ap (λ xs. take (stop - 76 * number) xs) (drop-append-le (76 * number) text old here)
    ∙ ap (λ n. take n (left ++ old)) width
    ∙ take-append-le (min 76 (length left)) left old (omega arith)
    ∙ take_min 76 left
    ∙ encoding-line piece number (omega arith)
    ∙ ap (λ xs. encode_of standard xs) (block-line bytes first number most (omega arith) enough) in
    ap (λ xs. xs ++ 13 ∷ 10 ∷ []) line

-- the lines of a block follow those before it
pub base64_lines-join : (bytes : List ℕ) (first before after : ℕ)
    → base64_lines bytes first (before + after) ≡ base64_lines bytes first before ++ base64_lines bytes (first + before) after
unfolding base64_lines
base64_lines-join bytes first zero after =
    let count : zero + after ≡ after = omega arith in
    let place : first ≡ first + zero = omega arith in
    ap (base64_lines bytes first) count ∙ ap (λ n. base64_lines bytes n after) place
base64_lines-join bytes first (suc before) after =
    let line : List ℕ = base64_line (line_piece bytes first) in
    let count : suc before + after ≡ suc (before + after) = omega arith in
    let place : first + 1 + before ≡ first + suc before = omega arith in
    ap (base64_lines bytes first) count
    ∙ ap (λ xs. line ++ xs) (base64_lines-join bytes (first + 1) before after)
    ∙ sym (append_assoc line (base64_lines bytes (first + 1) before) (base64_lines bytes (first + 1 + before) after))
    ∙ ap (λ n. (line ++ base64_lines bytes (first + 1) before) ++ base64_lines bytes n after) place

base64_lines-one : (bytes : List ℕ) (first : ℕ) → base64_lines bytes first 1 ≡ base64_line (line_piece bytes first)
unfolding base64_lines
base64_lines-one bytes first = append-nil (base64_line (line_piece bytes first))

pub base64_lines-none : (bytes : List ℕ) (first : ℕ) → base64_lines bytes first 0 ≡ []
unfolding base64_lines
base64_lines-none bytes first = refl

-- one line more
pub base64_lines-more : (bytes : List ℕ) (first count : ℕ)
    → base64_lines bytes first (count + 1) ≡ base64_lines bytes first count ++ base64_line (line_piece bytes (first + count))
base64_lines-more bytes first count =
    base64_lines-join bytes first count 1 ∙ ap (λ xs. base64_lines bytes first count ++ xs) (base64_lines-one bytes (first + count))
