-- Texts without CR and LF.
use Rattle.std.proofs.Common.{◌≡◌, ℕ, zero, suc, ◌+◌, ◌*◌, ◌/◌, ◌%◌, inl, inr, Bool, true, List, [], ◌∷◌, ◌++◌, length, take, drop, get_or, replicate, refl, ◌∙◌, arith}
use Rattle.std.specs.Prelude.{◌&&◌, ◌||◌, ◌==◌, not, codes}
use Rattle.std.specs.List.{filter, flat_map, join_by, list_all, prefix_len}
use Rattle.std.proofs.lemmas.Bool.{and_parts, cases_Bool}
use Rattle.std.proofs.lemmas.Bool.Decides.{nat_tests}
use Rattle.std.proofs.lemmas.List.Folds.{list_all-append}
use Rattle.base64.specs.Engines.{standard}
use Rattle.base64.specs.GeneralPurpose.{encode_of}
use Rattle.base64.specs.Rfc4648.{encode_group, encode_symbols, padding_len}
use Rattle.compose_drafts.specs.Lines.{is_line, is_unbroken}
use Rattle.compose_drafts.specs.Texts.{box_text, encoded_word, encoded_words, escaped, in_angles, is_plain, is_printable, has_word_mark, phrase, pieces, written}

pub both : (a b : Bool) → a ≡ true → b ≡ true → (a && b) ≡ true
both a b e f = rw (e, f) refl

pub all_append : {X : Type 0} (p : X → Bool) (xs ys : List X) → list_all p xs ≡ true → list_all p ys ≡ true → list_all p (xs ++ ys) ≡ true
all_append p xs ys a b = list_all-append p xs ys ∙ both (list_all p xs) (list_all p ys) a b

pub all_take : (p : ℕ → Bool) (n : ℕ) (xs : List ℕ) → list_all p xs ≡ true → list_all p (take n xs) ≡ true
all_take p zero xs h = refl
all_take p (suc n) [] h = refl
all_take p (suc n) (x ∷ xs) h = let parts = and_parts (p x) (list_all p xs) h in both (p x) (list_all p (take n xs)) parts.0 (all_take p n xs parts.1)

pub all_drop : {X : Type 0} (p : X → Bool) (n : ℕ) (xs : List X) → list_all p xs ≡ true → list_all p (drop n xs) ≡ true
all_drop p zero xs h = h
all_drop p (suc n) [] h = refl
all_drop p (suc n) (x ∷ xs) h = all_drop p n xs (and_parts (p x) (list_all p xs) h).1

pub all_weaker : {X : Type 0} (p q : X → Bool) → ((c : X) → p c ≡ true → q c ≡ true) → (xs : List X) → list_all p xs ≡ true → list_all q xs ≡ true
all_weaker p q less [] h = refl
all_weaker p q less (x ∷ xs) h = let parts = and_parts (p x) (list_all p xs) h in both (q x) (list_all q xs) (less x parts.0) (all_weaker p q less xs parts.1)

pub all_get : {X : Type 0} (p : X → Bool) (xs : List X) (k : ℕ) (d : X) → list_all p xs ≡ true → p d ≡ true → p (get_or xs k d) ≡ true
all_get p [] k d h e = e
all_get p (x ∷ xs) zero d h e = (and_parts (p x) (list_all p xs) h).0
all_get p (x ∷ xs) (suc k) d h e = all_get p xs k d (and_parts (p x) (list_all p xs) h).1 e

pub all_prefix : (p : ℕ → Bool) (xs : List ℕ) → list_all p (take (prefix_len p xs) xs) ≡ true
all_prefix p [] = refl
all_prefix p (x ∷ xs) = elim (cases_Bool (p x)) [
  | inl e ↦
      let longer : 1 + prefix_len p xs ≡ suc (prefix_len p xs) = omega arith in
      rw (e, longer) (both (p x) (list_all p (take (prefix_len p xs) xs)) e (all_prefix p xs))
  | inr e ↦ rw e refl
]

pub all_flat : {X : Type 0} (p : ℕ → Bool) (f : X → List ℕ) → ((x : X) → list_all p (f x) ≡ true) → (xs : List X) → list_all p (flat_map f xs) ≡ true
all_flat p f each [] = refl
all_flat p f each (x ∷ xs) = all_append p (f x) (flat_map f xs) (each x) (all_flat p f each xs)

pub all_join : {X : Type 0} (p : ℕ → Bool) (f : X → List ℕ) (sep : List ℕ) → ((x : X) → list_all p (f x) ≡ true) → list_all p sep ≡ true → (xs : List X) → list_all p (join_by f sep xs) ≡ true
all_join p f sep each s [] = refl
all_join p f sep each s (x ∷ xs) = all_append p (f x) (flat_map (λ y. sep ++ f y) xs) (each x) (all_flat p (λ y. sep ++ f y) (λ y. all_append p sep (f y) s (each y)) xs)

pub all_filter : {X : Type 0} (p : X → Bool) (xs : List X) → list_all p (filter p xs) ≡ true
all_filter p [] = refl
all_filter p (x ∷ xs) = elim (cases_Bool (p x)) [
  | inl e ↦ rw e (both (p x) (list_all p (filter p xs)) e (all_filter p xs))
  | inr e ↦ rw e (all_filter p xs)
]

pub all_replicate : (p : ℕ → Bool) (n c : ℕ) → p c ≡ true → list_all p (replicate n c) ≡ true
all_replicate p zero c e = refl
all_replicate p (suc n) c e = both (p c) (list_all p (replicate n c)) e (all_replicate p n c e)

-- ---- base64

two : (a b : ℕ) → is_unbroken a ≡ true → is_unbroken b ≡ true → is_line (a ∷ b ∷ []) ≡ true
two a b e f = both (is_unbroken a) (is_line (b ∷ [])) e (both (is_unbroken b) true f refl)

symbol : (t : List ℕ) (k : ℕ) → is_line t ≡ true → is_unbroken (get_or t k 0) ≡ true
symbol t k h = all_get is_unbroken t k 0 h refl

pub symbols_unbroken : (t m : List ℕ) → is_line t ≡ true → is_line (encode_symbols t m) ≡ true
unfolding encode_symbols
symbols_unbroken t [] h = refl
symbols_unbroken t (a ∷ []) h = two (get_or t (a / 4) 0) (get_or t (a % 4 * 16) 0) (symbol t (a / 4) h) (symbol t (a % 4 * 16) h)
symbols_unbroken t (a ∷ b ∷ []) h =
    both (is_unbroken (get_or t (a / 4) 0)) (is_line (get_or t (a % 4 * 16 + b / 16) 0 ∷ get_or t (b % 16 * 4) 0 ∷ [])) (symbol t (a / 4) h)
    (two (get_or t (a % 4 * 16 + b / 16) 0) (get_or t (b % 16 * 4) 0) (symbol t (a % 4 * 16 + b / 16) h) (symbol t (b % 16 * 4) h))
symbols_unbroken t (a ∷ b ∷ c ∷ rest) h =
    all_append is_unbroken (encode_group t a b c) (encode_symbols t rest)
    (all_append is_unbroken (get_or t (a / 4) 0 ∷ get_or t (a % 4 * 16 + b / 16) 0 ∷ []) (get_or t (b % 16 * 4 + c / 64) 0 ∷ get_or t (c % 64) 0 ∷ [])
    (two (get_or t (a / 4) 0) (get_or t (a % 4 * 16 + b / 16) 0) (symbol t (a / 4) h) (symbol t (a % 4 * 16 + b / 16) h))
    (two (get_or t (b % 16 * 4 + c / 64) 0) (get_or t (c % 64) 0) (symbol t (b % 16 * 4 + c / 64) h) (symbol t (c % 64) h)))
    (symbols_unbroken t rest h)

pub base64_unbroken : (m : List ℕ) → is_line (encode_of standard m) ≡ true
base64_unbroken m =
    all_append is_unbroken (encode_symbols standard.encode_table m) (replicate (padding_len (length m)) 61) (symbols_unbroken standard.encode_table m refl) (all_replicate is_unbroken (padding_len (length m)) 61 refl)

-- ---- texts of fields

pub printable_unbroken : (c : ℕ) → is_printable c ≡ true → is_unbroken c ≡ true
printable_unbroken c e = grind (arith, nat_tests)

pub word_unbroken : (piece : List ℕ) → is_line (encoded_word piece) ≡ true
word_unbroken piece = all_append is_unbroken (codes "=?utf-8?B?" ++ encode_of standard piece) (codes "?=") (all_append is_unbroken (codes "=?utf-8?B?") (encode_of standard piece) refl (base64_unbroken piece)) refl

pub words_unbroken : (text : List ℕ) → is_line (encoded_words text) ≡ true
words_unbroken text = all_join is_unbroken encoded_word (32 ∷ []) word_unbroken refl (pieces text)

plain_unbroken : (text : List ℕ) → is_plain text ≡ true → is_line text ≡ true
unfolding is_plain
plain_unbroken text e = all_weaker is_printable is_unbroken printable_unbroken text (and_parts (list_all is_printable text) (not (has_word_mark text)) e).0

pub written_unbroken : (text : List ℕ) → is_line (written text) ≡ true
unfolding written
written_unbroken text = elim (cases_Bool (is_plain text)) [
  | inl e ↦ rw e (plain_unbroken text e)
  | inr e ↦ rw e (words_unbroken text)
]

escaped_unbroken : (c : ℕ) → is_unbroken c ≡ true → is_line (escaped c) ≡ true
escaped_unbroken c e = elim (cases_Bool (c == 34 || c == 92)) [
  | inl f ↦ rw f (two 92 c refl e)
  | inr f ↦ rw f (both (is_unbroken c) true e refl)
]

all_escaped : (text : List ℕ) → is_line text ≡ true → is_line (flat_map escaped text) ≡ true
all_escaped [] h = refl
all_escaped (c ∷ text) h =
    let parts = and_parts (is_unbroken c) (is_line text) h in
    all_append is_unbroken (escaped c) (flat_map escaped text) (escaped_unbroken c parts.0) (all_escaped text parts.1)

pub phrase_unbroken : (name : List ℕ) → is_line (phrase name) ≡ true
phrase_unbroken name = elim (cases_Bool (is_plain name)) [
  | inl e ↦ rw e (all_append is_unbroken (flat_map escaped name) (34 ∷ []) (all_escaped name (plain_unbroken name e)) refl)
  | inr e ↦ rw e (words_unbroken name)
]

pub angles_unbroken : (text : List ℕ) → is_line text ≡ true → is_line (in_angles text) ≡ true
angles_unbroken text h = all_append is_unbroken text (62 ∷ []) h refl

pub box_unbroken : (name address : List ℕ) → is_line address ≡ true → is_line (box_text name address) ≡ true
unfolding box_text
box_unbroken name address h = elim (cases_Bool (length name == 0)) [
  | inl e ↦ rw e h
  | inr e ↦ rw e (all_append is_unbroken (phrase name) (32 ∷ in_angles address) (phrase_unbroken name) (angles_unbroken address h))
]
