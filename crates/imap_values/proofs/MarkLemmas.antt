-- Bytes that are found many at a time.
use Rattle.std.proofs.Common.{◌≡◌, ℕ, zero, suc, ◌+◌, ◌-◌, ◌<◌, ◌≤◌, true, false, eqb, List, length, take, drop, get_or, refl, sym, ap, subst, ◌∙◌, arith}
use Rattle.std.proofs.lemmas.Bool.{false_from_ne_true}
use Rattle.std.proofs.lemmas.List.{length-drop, take_rest, get_or-drop}
use Rattle.std.proofs.lemmas.List.Sums.{position_or_len_is}
use Rattle.memchr.specs.Find.{is_byte2}
use Rattle.imap_values.specs.declared.words.Class.TheVariants as classes
use Rattle.imap_values.specs.Strings.{NoQuoteBefore}
use Rattle.imap_values.specs.Words.{all_in_class, is_line_end}
use Rattle.imap_values.proofs.QuotedLemmas.{one_more}

not_34 : (c : ℕ) → (is_byte2 34 92 c ≡ true → ⊥) → eqb c 34 ≡ false
not_34 c none = grind (arith, false_from_ne_true _ none)

not_92 : (c : ℕ) → (is_byte2 34 92 c ≡ true → ⊥) → eqb c 92 ≡ false
not_92 c none = grind (arith, false_from_ne_true _ none)

skip : (bytes : List ℕ) (at n : ℕ) → at + n ≤ length bytes → ((k : ℕ) → k < n → is_byte2 34 92 (get_or (drop at bytes) k 0) ≡ true → ⊥) → NoQuoteBefore bytes at → NoQuoteBefore bytes (at + n)
skip bytes at zero le plain so = let same : at + 0 ≡ at = omega arith in rw same so
skip bytes at (suc n) le plain so =
    let before = skip bytes at n (omega arith) (λ k lt. plain k (omega arith)) so in
    let byte : get_or (drop at bytes) n 0 ≡ get_or bytes (at + n) 0 = get_or-drop at bytes n 0 in
    let none : is_byte2 34 92 (get_or bytes (at + n) 0) ≡ true → ⊥ = λ is. plain n (omega arith) (subst (λ (c : ℕ). is_byte2 34 92 c ≡ true) (sym byte) is) in
    let more = one_more bytes (at + n) (omega arith) (not_34 (get_or bytes (at + n) 0) none) (not_92 (get_or bytes (at + n) 0) none) before in
    subst (λ (k : ℕ). NoQuoteBefore bytes k) (omega arith) more

-- up to the first such byte
pub skip_to : (bytes : List ℕ) (at n : ℕ) → at + n ≤ length bytes → ((k : ℕ) → 0 ≤ k → k < n → is_byte2 34 92 (get_or (take (length bytes - at) (drop at bytes)) k 0) ≡ true → ⊥) → NoQuoteBefore bytes at → NoQuoteBefore bytes (at + n)
skip_to bytes at n le plain so = skip bytes at n le (λ k lt is. plain k (omega arith) lt (subst (λ (xs : List ℕ). is_byte2 34 92 (get_or xs k 0) ≡ true) (sym (take_rest bytes at)) is)) so

pub one_line : (text : List ℕ) → ((k : ℕ) → 0 ≤ k → k < length text → is_byte2 13 10 (get_or text k 0) ≡ true → ⊥) → true ≡ all_in_class classes.Line text
one_line text none =
    let whole = position_or_len_is is_line_end text (length text) 0 (omega arith) (λ k lt. false_from_ne_true _ (none k (omega arith) lt)) (λ lt. absurd (omega arith)) in
    let left : length (drop (length text) text) ≡ 0 = length-drop (length text) text ∙ omega arith in
    rw (whole, left) refl

pub more_lines : (text : List ℕ) (k : ℕ) → k < length text → ((i : ℕ) → 0 ≤ i → i < k → is_byte2 13 10 (get_or text i 0) ≡ true → ⊥) → is_byte2 13 10 (get_or text k 0) ≡ true → false ≡ all_in_class classes.Line text
more_lines text k lt none is =
    let first = position_or_len_is is_line_end text k 0 (omega arith) (λ i below. false_from_ne_true _ (none i (omega arith) below)) (λ _. is) in
    let left : length (drop k text) ≡ length text - k = length-drop k text in
    rw (first, left) (grind arith)

pub skip_all : (bytes : List ℕ) (at : ℕ) → at ≤ length bytes → ((k : ℕ) → 0 ≤ k → k < length (take (length bytes - at) (drop at bytes)) → is_byte2 34 92 (get_or (take (length bytes - at) (drop at bytes)) k 0) ≡ true → ⊥) → NoQuoteBefore bytes at → NoQuoteBefore bytes (length bytes)
skip_all bytes at le plain so =
    let len : length (take (length bytes - at) (drop at bytes)) ≡ length bytes - at = ap (λ (xs : List ℕ). length xs) (take_rest bytes at) ∙ length-drop at bytes in
    let end : at + (length bytes - at) ≡ length bytes = omega arith in
    subst (λ (k : ℕ). NoQuoteBefore bytes k) end (skip_to bytes at (length bytes - at) (omega arith) (λ k low lt. plain k low (omega (arith, len))) so)
