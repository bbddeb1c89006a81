-- The items of a value, an item at a time.
use Rattle.std.proofs.Common.{◌≡◌, ℕ, zero, suc, ◌+◌, ◌-◌, ◌<◌, ◌≤◌, inl, inr, ◌⊎◌, Bool, true, false, ◌&&◌, cond, eqb, List, [], ◌∷◌, ◌++◌, length, take, drop, Option, Some, None, refl, sym, ap, ◌∙◌, subst, arith, append_assoc, length-drop}
use Rattle.std.specs.Prelude.{◌==◌, is_some, codes, nat_eq}
use Rattle.std.specs.List.{list_any, prefix_len, position_or_len, starts_with, before_first, after_first}
use Rattle.std.proofs.lemmas.Bool.{cases_Bool, cases_lt, eqb-true, eqb-false, ne_eqb}
use Rattle.std.proofs.lemmas.List.{drop_all, drop-drop, append-nil, nil_from_length, take_rest}
use Rattle.transfer_codings.specs.declared.coding.Coding.{Coding}
use Rattle.transfer_codings.specs.declared.charset.Charset.{Charset}
use Rattle.header_words.specs.Fields.{is_blank}
use Rattle.header_words.specs.EncodedWords.{EncodedWord, is_question, text_len, ends_word, word_with, word_named, word_at, without_language, coding_of_letter, item_at, rest_of_word, items_from, items_of, leads_to_word, joined, with_words_decoded, without_gap, word_text}
use Rattle.header_words.specs.EncodedWords.Item.{Word, Byte}
use Rattle.transfer_codings.specs.Charsets.{charset_named}

abbrev pub is_equals : ℕ → Bool
is_equals b = b == 61

-- ---- what follows a word

-- the back of a list, shorter than it
pub record IsBack (xs ys : List ℕ) : Type 0 where
  pub front : ℕ
  pub is : xs ≡ drop front ys
  pub some : 0 < front

back_deeper : (xs ys : List ℕ) (n : ℕ) → IsBack xs ys → IsBack (drop n xs) ys
back_deeper xs ys n b = record { front = b.front + n; is = ap (drop n) b.is ∙ drop-drop n b.front ys; some = (let s = b.some in omega arith) }

back_drop : (ys : List ℕ) (n : ℕ) → IsBack (drop (suc n) ys) ys
back_drop ys n = record { front = suc n; is = refl; some = omega arith }

-- what a reading leaves
record Leaves (found : Option EncodedWord) (bytes : List ℕ) : Type 0 where
  back : (word : EncodedWord) → found ≡ Some word → IsBack word.after bytes

leaves_none : (bytes : List ℕ) → Leaves None bytes
leaves_none bytes = record { back = λ word e. absurd (cc) }

back_same : (xs zs ys : List ℕ) → xs ≡ zs → IsBack zs ys → IsBack xs ys
back_same xs zs ys e b = subst (λ (l : List ℕ). IsBack l ys) (sym e) b

with_leaves : (charset : Option Charset) (coding : Option Coding) (bytes : List ℕ) (ys : List ℕ) → IsBack bytes ys → Leaves (word_with charset coding bytes) ys
with_leaves None coding bytes ys b = leaves_none ys
with_leaves (Some charset) None bytes ys b = leaves_none ys
with_leaves (Some charset) (Some coding) bytes ys b =
    elim (cases_Bool (ends_word (text_len coding bytes) bytes)) [
      | inl ends ↦
          record {
            back = λ word e.
                let whole : word.after ≡ drop 2 (drop (text_len coding bytes) bytes) = (let f = rw ends at e in let g : word ≡ record { charset = charset; coding = coding; text = take (text_len coding bytes) bytes; after = drop 2 (drop (text_len coding bytes) bytes) } = cc in ap (λ (w : EncodedWord). w.after) g) in
                back_same word.after (drop 2 (drop (text_len coding bytes) bytes)) ys whole (back_deeper (drop (text_len coding bytes) bytes) ys 2 (back_deeper bytes ys (text_len coding bytes) b));
          }
      | inr runs ↦ record { back = λ word e. (let f = rw runs at e in absurd (cc)) }
    ]

named_leaves : (name bytes ys : List ℕ) → IsBack bytes ys → Leaves (word_named name bytes) ys
named_leaves name [] ys b = leaves_none ys
named_leaves name (letter ∷ []) ys b = leaves_none ys
named_leaves name (letter ∷ mark ∷ bytes) ys b =
    elim (cases_Bool (is_question mark)) [
      | inl marks ↦
          subst (λ (t : Bool). Leaves (cond t (word_with (charset_named (without_language name)) (coding_of_letter letter) bytes) None) ys) (sym marks)
          (with_leaves (charset_named (without_language name)) (coding_of_letter letter) bytes ys (back_deeper (letter ∷ mark ∷ bytes) ys 2 b))
      | inr other ↦
          subst (λ (t : Bool). Leaves (cond t (word_with (charset_named (without_language name)) (coding_of_letter letter) bytes) None) ys) (sym other) (leaves_none ys)
    ]

pub word_leaves : (bytes : List ℕ) (word : EncodedWord) → word_at bytes ≡ Some word → IsBack word.after bytes
unfolding word_at
word_leaves bytes word e =
    elim (cases_Bool (starts_with nat_eq bytes (codes "=?"))) [
      | inl opens ↦
          let rest = drop 2 bytes in
          let at = position_or_len is_question rest in
          let f : word_named (before_first is_question rest) (after_first is_question rest) ≡ Some word = rw opens at e in
          let back : IsBack (drop (at + 1) rest) bytes = back_deeper rest bytes (at + 1) (back_drop bytes 1) in
          (named_leaves (before_first is_question rest) (after_first is_question rest) bytes back).back word f
      | inr other ↦ (let f = rw other at e in absurd (cc))
    ]

-- ---- items

pub items_skip : (skip : ℕ) (bytes : List ℕ) → items_from skip bytes ≡ items_of (drop skip bytes)
unfolding items_from
items_skip zero [] = refl
items_skip zero (b ∷ bytes) = refl
items_skip (suc skip) [] = refl
items_skip (suc skip) (b ∷ bytes) = items_skip skip bytes

-- a byte in which no word begins
pub items_byte : (b : ℕ) (bytes : List ℕ) → word_at (b ∷ bytes) ≡ None → items_of (b ∷ bytes) ≡ Byte b ∷ items_of bytes
unfolding items_from
items_byte b bytes e = ap (λ w. item_at w b ∷ items_from (rest_of_word w bytes) bytes) e

rest_length : (m : ℕ) (bytes : List ℕ) → drop (length bytes - length (drop m bytes)) bytes ≡ drop m bytes
rest_length m bytes =
    elim (cases_lt m (length bytes)) [
      | inl lt ↦ ap (λ k. drop k bytes) (let q : length bytes - length (drop m bytes) ≡ m = omega (arith, length-drop m bytes) in q)
      | inr ge ↦ drop_all (length bytes - length (drop m bytes)) bytes (omega (arith, length-drop m bytes)) ∙ sym (drop_all m bytes ge)
    ]

after_rest : (b : ℕ) (bytes after : List ℕ) → IsBack after (b ∷ bytes) → drop (length bytes - length after) bytes ≡ after
after_rest b bytes after back =
    let m = back.front - 1 in
    let front : back.front ≡ suc m = (let s = back.some in omega arith) in
    let is : after ≡ drop m bytes = back.is ∙ ap (λ k. drop k (b ∷ bytes)) front in
    ap (λ l. drop (length bytes - length l) bytes) is ∙ rest_length m bytes ∙ sym is

pub items_word : (bytes : List ℕ) (word : EncodedWord) → word_at bytes ≡ Some word → items_of bytes ≡ Word word ∷ items_of word.after
unfolding items_from word_at
items_word [] word e = absurd (cc)
items_word (b ∷ bytes) word e =
    ap (λ w. item_at w b ∷ items_from (rest_of_word w bytes) bytes) e
    ∙ ap (λ ns. Word word ∷ ns) (items_skip (length bytes - length word.after) bytes ∙ ap items_of (after_rest b bytes word.after (word_leaves (b ∷ bytes) word e)))

-- ---- where no word begins

turned : (a b : ℕ) → eqb a b ≡ false → eqb b a ≡ false
turned a b e = ne_eqb b a (λ f. eqb-false a b e (sym f))

pub no_word : (b : ℕ) (bytes : List ℕ) → is_equals b ≡ false → word_at (b ∷ bytes) ≡ None
unfolding word_at
no_word b bytes e =
    let none : starts_with nat_eq (b ∷ bytes) (codes "=?") ≡ false = ap (λ t. t && starts_with nat_eq bytes (codes "?")) (turned b 61 e) in
    rw none refl

blank_equals : (b : ℕ) → is_blank b ≡ true → is_equals b ≡ false
blank_equals b h =
    elim (cases_Bool (is_equals b)) [
      | inl yes' ↦ (let at : b ≡ 61 = eqb-true b 61 yes' in let f : is_blank 61 ≡ true = ap is_blank (sym at) ∙ h in absurd (cc))
      | inr no' ↦ no'
    ]

no_word_blank : (b : ℕ) (bytes : List ℕ) → is_blank b ≡ true → word_at (b ∷ bytes) ≡ None
no_word_blank b bytes h = no_word b bytes (blank_equals b h)

-- ---- white space after a word

blanks_of : (b : ℕ) (bytes : List ℕ) → is_blank b ≡ true → drop (prefix_len is_blank (b ∷ bytes)) (b ∷ bytes) ≡ drop (prefix_len is_blank bytes) bytes
blanks_of b bytes h = ap (λ t. drop (cond t (1 + prefix_len is_blank bytes) 0) (b ∷ bytes)) h ∙ ap (λ k. drop k (b ∷ bytes)) (let q : 1 + prefix_len is_blank bytes ≡ suc (prefix_len is_blank bytes) = omega arith in q)

no_blanks : (b : ℕ) (bytes : List ℕ) → is_blank b ≡ false → drop (prefix_len is_blank (b ∷ bytes)) (b ∷ bytes) ≡ b ∷ bytes
no_blanks b bytes h = ap (λ t. drop (cond t (1 + prefix_len is_blank bytes) 0) (b ∷ bytes)) h

abbrev next_of : List ℕ → List ℕ
next_of bytes = drop (prefix_len is_blank bytes) bytes

-- bytes with a word at their front have no blank there
word_no_blank : (b : ℕ) (bytes : List ℕ) (word : EncodedWord) → word_at (b ∷ bytes) ≡ Some word → is_blank b ≡ false
word_no_blank b bytes word e =
    elim (cases_Bool (is_blank b)) [
      | inl blank ↦ (let f = no_word_blank b bytes blank in absurd (cc))
      | inr other ↦ other
    ]

-- a word that was found, or none
record Has (found : Option EncodedWord) : Type 0 where
  word : EncodedWord
  is : found ≡ Some word

cases_word : (found : Option EncodedWord) → Has found ⊎ (found ≡ None)
cases_word None = inr refl
cases_word (Some word) = inl (record { word = word; is = refl })

no_bytes : false ≡ is_some (word_at [])
unfolding word_at
no_bytes = refl

leads_is : (bytes : List ℕ) → leads_to_word (items_of bytes) ≡ is_some (word_at (next_of bytes))
unfolding items_from
leads_is [] = no_bytes
leads_is (b ∷ bytes) =
    elim (cases_word (word_at (b ∷ bytes))) [
      | inl has ↦
          ap leads_to_word (items_word (b ∷ bytes) has.word has.is) ∙ sym (ap is_some has.is)
          ∙ sym (ap (λ l. is_some (word_at l)) (no_blanks b bytes (word_no_blank b bytes has.word has.is)))
      | inr none ↦
          elim (cases_Bool (is_blank b)) [
            | inl blank ↦
                ap leads_to_word (items_byte b bytes none) ∙ ap (λ t. t && leads_to_word (items_of bytes)) blank ∙ leads_is bytes
                ∙ sym (ap (λ l. is_some (word_at l)) (blanks_of b bytes blank))
            | inr other ↦
                ap leads_to_word (items_byte b bytes none) ∙ ap (λ t. t && leads_to_word (items_of bytes)) other
                ∙ sym (ap is_some none) ∙ sym (ap (λ l. is_some (word_at l)) (no_blanks b bytes other))
          ]
    ]

-- the text of the items, where a word comes next
abbrev pub text_after : Bool → List ℕ → List ℕ
text_after after_word bytes = joined after_word (items_of bytes)

joined_word : (after_word : Bool) (bytes : List ℕ) (word : EncodedWord) → word_at bytes ≡ Some word → text_after after_word bytes ≡ word_text word ++ text_after true word.after
unfolding joined
joined_word after_word bytes word e = ap (joined after_word) (items_word bytes word e)

joined_byte : (after_word : Bool) (b : ℕ) (bytes : List ℕ) → word_at (b ∷ bytes) ≡ None → text_after after_word (b ∷ bytes) ≡ cond (after_word && (is_blank b && leads_to_word (items_of bytes))) [] (b ∷ []) ++ text_after (after_word && is_blank b) bytes
unfolding joined
joined_byte after_word b bytes e = ap (joined after_word) (items_byte b bytes e)

joined_nothing : (after_word : Bool) → text_after after_word [] ≡ []
unfolding joined items_from
joined_nothing after_word = refl

-- white space before another word is dropped
gap_dropped : (bytes : List ℕ) → is_some (word_at (next_of bytes)) ≡ true → text_after true bytes ≡ text_after false (next_of bytes)
gap_dropped [] h = joined_nothing true ∙ sym (joined_nothing false)
gap_dropped (b ∷ bytes) h =
    elim (cases_word (word_at (b ∷ bytes))) [
      | inl has ↦
          joined_word true (b ∷ bytes) has.word has.is ∙ sym (joined_word false (b ∷ bytes) has.word has.is)
          ∙ sym (ap (text_after false) (no_blanks b bytes (word_no_blank b bytes has.word has.is)))
      | inr none ↦
          elim (cases_Bool (is_blank b)) [
            | inl blank ↦
                let same = blanks_of b bytes blank in
                let more : is_some (word_at (next_of bytes)) ≡ true = sym (ap (λ l. is_some (word_at l)) same) ∙ h in
                let leads : leads_to_word (items_of bytes) ≡ true = leads_is bytes ∙ more in
                joined_byte true b bytes none
                ∙ ap (λ t. cond (t && leads_to_word (items_of bytes)) [] (b ∷ []) ++ text_after t bytes) blank
                ∙ ap (λ t. cond t [] (b ∷ []) ++ text_after true bytes) leads
                ∙ gap_dropped bytes more ∙ sym (ap (text_after false) same)
            | inr other ↦
                let here : is_some (word_at (b ∷ bytes)) ≡ true = sym (ap (λ l. is_some (word_at l)) (no_blanks b bytes other)) ∙ h in
                let f = rw none at here in
                absurd (cc)
          ]
    ]

-- other white space stays
gap_kept : (bytes : List ℕ) → is_some (word_at (next_of bytes)) ≡ false → text_after true bytes ≡ text_after false bytes
gap_kept [] h = joined_nothing true ∙ sym (joined_nothing false)
gap_kept (b ∷ bytes) h =
    elim (cases_word (word_at (b ∷ bytes))) [
      | inl has ↦ joined_word true (b ∷ bytes) has.word has.is ∙ sym (joined_word false (b ∷ bytes) has.word has.is)
      | inr none ↦
          elim (cases_Bool (is_blank b)) [
            | inl blank ↦
                let same = blanks_of b bytes blank in
                let more : is_some (word_at (next_of bytes)) ≡ false = sym (ap (λ l. is_some (word_at l)) same) ∙ h in
                let leads : leads_to_word (items_of bytes) ≡ false = leads_is bytes ∙ more in
                joined_byte true b bytes none
                ∙ ap (λ t. cond (t && leads_to_word (items_of bytes)) [] (b ∷ []) ++ text_after t bytes) blank
                ∙ ap (λ t. cond t [] (b ∷ []) ++ text_after true bytes) leads
                ∙ ap (λ l. b ∷ l) (gap_kept bytes more) ∙ sym (joined_byte false b bytes none)
            | inr other ↦
                joined_byte true b bytes none
                ∙ ap (λ t. cond (t && leads_to_word (items_of bytes)) [] (b ∷ []) ++ text_after t bytes) other
                ∙ sym (joined_byte false b bytes none)
          ]
    ]

pub gap_is : (bytes : List ℕ) → text_after true bytes ≡ text_after false (without_gap bytes)
gap_is bytes =
    elim (cases_Bool (is_some (word_at (next_of bytes)))) [
      | inl word ↦ gap_dropped bytes word ∙ sym (ap (λ t. text_after false (cond t (next_of bytes) bytes)) word)
      | inr none ↦ gap_kept bytes none ∙ sym (ap (λ t. text_after false (cond t (next_of bytes) bytes)) none)
    ]

-- ---- the code's steps

-- a word comes next
pub word_next : (bytes left : List ℕ) (word : EncodedWord) → Some word ≡ word_at bytes → left ≡ without_gap word.after → word_text word ++ text_after false left ≡ text_after false bytes
word_next bytes left word e f =
    ap (λ l. word_text word ++ text_after false l) f ∙ sym (ap (λ l. word_text word ++ l) (gap_is word.after)) ∙ sym (joined_word false bytes word (sym e))

drop_longest : (n : ℕ) (bytes : List ℕ) → length (drop n bytes) ≤ length bytes
drop_longest n bytes = omega (arith, length-drop n bytes)

gap_fits : (bytes : List ℕ) → length (without_gap bytes) ≤ length bytes
gap_fits bytes =
    elim (cases_Bool (is_some (word_at (next_of bytes)))) [
      | inl word ↦ rw word (drop_longest (prefix_len is_blank bytes) bytes)
      | inr none ↦ rw none (omega arith)
    ]

pub word_shorter : (bytes left : List ℕ) (word : EncodedWord) → 0 < length bytes → Some word ≡ word_at bytes → left ≡ without_gap word.after → length left < length bytes
word_shorter bytes left word some e f =
    let back = word_leaves bytes word (sym e) in
    omega (arith, ap length f, gap_fits word.after, ap length back.is, length-drop back.front bytes, back.some)

-- bytes up to the next `=` are themselves
bytes_next : (bytes : List ℕ) → text_after false bytes ≡ take (position_or_len is_equals bytes) bytes ++ text_after false (drop (position_or_len is_equals bytes) bytes)
bytes_next [] = refl
bytes_next (b ∷ bytes) =
    elim (cases_Bool (is_equals b)) [
      | inl equals ↦ sym (ap (λ n. take n (b ∷ bytes) ++ text_after false (drop n (b ∷ bytes))) (let q : position_or_len is_equals (b ∷ bytes) ≡ 0 = rw equals refl in q))
      | inr other ↦
          let n = position_or_len is_equals bytes in
          let at : position_or_len is_equals (b ∷ bytes) ≡ suc n = rw other (omega arith) in
          joined_byte false b bytes (no_word b bytes other) ∙ ap (λ l. b ∷ l) (bytes_next bytes)
          ∙ sym (ap (λ k. take k (b ∷ bytes) ++ text_after false (drop k (b ∷ bytes))) at)
    ]

-- no word comes next
pub none_next : (bytes : List ℕ) (size : ℕ) → 0 < length bytes → None ≡ word_at bytes → size ≡ 1 + position_or_len is_equals (drop 1 bytes) → take size bytes ++ text_after false (drop size bytes) ≡ text_after false bytes
none_next [] size some e f = absurd (omega arith)
none_next (b ∷ bytes) size some e f =
    let n = position_or_len is_equals bytes in
    let is : size ≡ suc n = omega arith in
    ap (λ k. take k (b ∷ bytes) ++ text_after false (drop k (b ∷ bytes))) is
    ∙ ap (λ l. b ∷ l) (sym (bytes_next bytes)) ∙ sym (joined_byte false b bytes (sym e))

pub none_pushed : (bytes before after : List ℕ) (size : ℕ) → 0 < length bytes → None ≡ word_at bytes → size ≡ 1 + position_or_len is_equals (drop 1 bytes) → after ≡ before ++ take size bytes → after ++ text_after false (take (length bytes - size) (drop size bytes)) ≡ before ++ text_after false bytes
none_pushed bytes before after size some e f g =
    ap (λ l. l ++ text_after false (take (length bytes - size) (drop size bytes))) g
    ∙ ap (λ l. (before ++ take size bytes) ++ text_after false l) (take_rest bytes size)
    ∙ append_assoc before (take size bytes) (text_after false (drop size bytes))
    ∙ ap (λ l. before ++ l) (none_next bytes size some e f)

-- nothing is left
pub joined_all : (value text rest : List ℕ) → text ++ text_after false rest ≡ text_after false value → length rest ≡ 0 → text ≡ with_words_decoded value
unfolding with_words_decoded
joined_all value text rest h none =
    sym (append-nil text) ∙ ap (λ l. text ++ l) (sym (ap (text_after false) (nil_from_length rest none) ∙ joined_nothing false)) ∙ h

-- ---- values without a question mark

and_false : (t : Bool) → (t && false) ≡ false
and_false true = refl
and_false false = refl

no_mark : (bytes : List ℕ) → list_any is_question bytes ≡ false → starts_with nat_eq bytes (codes "?") ≡ false
no_mark [] h = refl
no_mark (c ∷ bytes) h =
    elim (cases_Bool (is_question c)) [
      | inl marks ↦ (let f = rw marks at h in absurd (cc))
      | inr none ↦ ap (λ t. t && true) (turned c 63 none)
    ]

no_question : (b : ℕ) (bytes : List ℕ) → list_any is_question bytes ≡ false → word_at (b ∷ bytes) ≡ None
unfolding word_at
no_question b bytes h =
    let none : starts_with nat_eq (b ∷ bytes) (codes "=?") ≡ false = ap (λ t. nat_eq 61 b && t) (no_mark bytes h) ∙ and_false (nat_eq 61 b) in
    rw none refl

question_later : (b : ℕ) (bytes : List ℕ) → list_any is_question (b ∷ bytes) ≡ false → list_any is_question bytes ≡ false
question_later b bytes h =
    elim (cases_Bool (is_question b)) [
      | inl marks ↦ (let f = rw marks at h in absurd (cc))
      | inr none ↦ (let f = rw none at h in f)
    ]

pub plain_is : (value : List ℕ) → list_any is_question value ≡ false → text_after false value ≡ value
plain_is [] h = joined_nothing false
plain_is (b ∷ bytes) h =
    let more = question_later b bytes h in
    joined_byte false b bytes (no_question b bytes more) ∙ ap (λ l. b ∷ l) (plain_is bytes more)

pub plain_value : (value : List ℕ) → list_any is_question value ≡ false → value ≡ with_words_decoded value
unfolding with_words_decoded
plain_value value h = sym (plain_is value h)
