-- Values whose characters are ASCII are the same as bytes and as characters.
use Rattle.std.proofs.Common.{◌≡◌, ℕ, zero, suc, ◌-◌, Bool, true, false, nat_lt, List, [], ◌∷◌, ◌++◌, length, take, drop, reverse, IsUtf8, IsAscii, chars, Some, None, refl, sym, ap, ◌∙◌, arith, inl, inr, ltb-true}
use Rattle.std.proofs.lemmas.Bool.{cases_Bool}
use Rattle.std.proofs.lemmas.Bool.Decides.{nat_tests}
use Rattle.std.proofs.lemmas.List.{reverse-reverse, reverse-append, length-reverse, length-drop, take-append-drop}
use Rattle.std.proofs.lemmas.List.Folds.{list_all-append}
use Rattle.std.proofs.Math.Seq.{take-append_seam}
use Rattle.std.proofs.lemmas.Str.{chars-IsAscii, encodes-chars, encodes-IsAscii}
use Rattle.std.specs.List.{list_all, prefix_len}
use Rattle.html_rules.specs.Values.{is_number, is_word, is_word_char}
use Rattle.html_rules.proofs.Facts.{and_true}
use Rattle.html_rules.proofs.Parts.{both_true}
use Rattle.style_wash.specs.Characters.{is_white, is_style_char, trimmed, without_front, without_back}
use Rattle.html_tokens.specs.Tags as tags
use Rattle.html_tokens.proofs.TagRuns.{prefix_all}
use Rattle.wash_attributes.proofs.WrittenValues.{is_number_char, number_chars}
use Rattle.wash_attributes.specs.Values.{some_if}

unfoldable pub is_ascii : List ℕ → Bool
is_ascii cs = list_all (λ c. nat_lt c 128) cs

pub ascii_of : (cs : List ℕ) → is_ascii cs ≡ true → IsAscii cs
unfolding is_ascii
ascii_of [] h i = omega arith
ascii_of (c ∷ cs) h zero = ltb-true c 128 (and_true (nat_lt c 128) (list_all (λ c. nat_lt c 128) cs) h).0
ascii_of (c ∷ cs) h (suc i) = ascii_of cs (and_true (nat_lt c 128) (list_all (λ c. nat_lt c 128) cs) h).1 i

wider : (p : ℕ → Bool) → ((c : ℕ) → p c ≡ true → nat_lt c 128 ≡ true) → (cs : List ℕ) → list_all p cs ≡ true → is_ascii cs ≡ true
unfolding is_ascii
wider p f [] h = refl
wider p f (c ∷ cs) h = let both = and_true (p c) (list_all p cs) h in both_true _ _ (f c both.0) (wider p f cs both.1)

white_ascii : (c : ℕ) → is_white c ≡ true → nat_lt c 128 ≡ true
white_ascii c h = grind (arith, nat_tests)

ascii_append : (xs ys : List ℕ) → is_ascii xs ≡ true → is_ascii ys ≡ true → is_ascii (xs ++ ys) ≡ true
unfolding is_ascii
ascii_append xs ys g h = list_all-append (λ c. nat_lt c 128) xs ys ∙ both_true _ _ g h

ascii_reverse : (xs : List ℕ) → is_ascii xs ≡ true → is_ascii (reverse xs) ≡ true
unfolding is_ascii
ascii_reverse [] h = refl
ascii_reverse (x ∷ xs) h =
    let both = and_true (nat_lt x 128) (list_all (λ c. nat_lt c 128) xs) h in
    ap is_ascii (reverse-append (x ∷ []) xs) ∙ ascii_append (reverse xs) (x ∷ []) (ascii_reverse xs both.1) (both_true _ _ both.0 refl)

-- white space at the front
front_ascii : (cs : List ℕ) → is_ascii (without_front cs) ≡ true → is_ascii cs ≡ true
front_ascii cs h =
    ap is_ascii (sym (take-append-drop (prefix_len is_white cs) cs))
    ∙ ascii_append (take (prefix_len is_white cs) cs) (without_front cs) (wider is_white white_ascii _ (prefix_all is_white cs)) h

-- a text without white space at its back is its reverse without white space at its front
back_is : (cs : List ℕ) → without_back cs ≡ reverse (without_front (reverse cs))
back_is cs =
    let back = reverse cs in
    let n = prefix_len is_white back in
    let split : cs ≡ reverse (drop n back) ++ reverse (take n back) =
    sym (reverse-reverse cs) ∙ ap reverse (sym (take-append-drop n back)) ∙ reverse-append (take n back) (drop n back) in
    let size : length cs - n ≡ length (reverse (drop n back)) = sym (length-reverse (drop n back) ∙ length-drop n back ∙ ap (λ (k : ℕ). k - n) (length-reverse cs)) in
    ap (λ (k : ℕ). take k cs) size
    ∙ ap (take (length (reverse (drop n back)))) split
    ∙ take-append_seam (reverse (drop n back)) (reverse (take n back))

back_ascii : (cs : List ℕ) → is_ascii (without_back cs) ≡ true → is_ascii cs ≡ true
back_ascii cs h =
    let inner : is_ascii (without_front (reverse cs)) ≡ true = ap is_ascii (sym (reverse-reverse (without_front (reverse cs)))) ∙ ascii_reverse (reverse (without_front (reverse cs))) (ap is_ascii (sym (back_is cs)) ∙ h) in
    ap is_ascii (sym (reverse-reverse cs)) ∙ ascii_reverse (reverse cs) (front_ascii (reverse cs) inner)

trimmed_ascii : (cs : List ℕ) → is_ascii (trimmed cs) ≡ true → is_ascii cs ≡ true
unfolding trimmed
trimmed_ascii cs h = front_ascii cs (back_ascii (without_front cs) h)

-- ---- a test that ASCII texts alone pass

-- what passes as bytes passes as characters, and the texts are the same
pub record SameAsBytes (p : List ℕ → Bool) (bytes : List ℕ) : Type 0 where
  pub test : p (trimmed (chars bytes)) ≡ p (trimmed bytes)
  pub text : p (trimmed bytes) ≡ true → chars (trimmed bytes) ≡ trimmed (chars bytes)

bytes_pass : (p : List ℕ → Bool) (bytes : List ℕ) → ((t : List ℕ) → p t ≡ true → is_ascii t ≡ true) → p (trimmed bytes) ≡ true → SameAsBytes p bytes
bytes_pass p bytes f h =
    let plain : chars bytes ≡ bytes = chars-IsAscii bytes (ascii_of bytes (trimmed_ascii bytes (f (trimmed bytes) h))) in
    let inner : chars (trimmed bytes) ≡ trimmed bytes = chars-IsAscii (trimmed bytes) (ascii_of (trimmed bytes) (f (trimmed bytes) h)) in
    record { test = ap (λ (t : List ℕ). p (trimmed t)) plain; text = λ e. inner ∙ ap trimmed (sym plain) }

chars_pass : (p : List ℕ → Bool) (bytes : List ℕ) → ((t : List ℕ) → p t ≡ true → is_ascii t ≡ true) → IsUtf8 bytes → p (trimmed (chars bytes)) ≡ true → p (trimmed bytes) ≡ true
chars_pass p bytes f utf8 h =
    let all = trimmed_ascii (chars bytes) (f (trimmed (chars bytes)) h) in
    let plain : bytes ≡ chars bytes = sym (encodes-chars bytes utf8) ∙ encodes-IsAscii (chars bytes) (ascii_of (chars bytes) all) in
    ap (λ (t : List ℕ). p (trimmed t)) plain ∙ h

no_yes : (b : Bool) → b ≡ false → b ≡ true → ⊥
no_yes true e h = absurd cc
no_yes false e h = absurd cc

none_pass : (p : List ℕ → Bool) (bytes : List ℕ) → ((t : List ℕ) → p t ≡ true → is_ascii t ≡ true) → IsUtf8 bytes → p (trimmed bytes) ≡ false → SameAsBytes p bytes
none_pass p bytes f utf8 h =
    record {
      test = elim (cases_Bool (p (trimmed (chars bytes)))) [
        | inl passes ↦ passes ∙ sym (chars_pass p bytes f utf8 passes)
        | inr fails ↦ fails ∙ sym h
      ];
      text = λ e. absurd (no_yes (p (trimmed bytes)) h e);
    }

same_as_bytes : (p : List ℕ → Bool) (bytes : List ℕ) → ((t : List ℕ) → p t ≡ true → is_ascii t ≡ true) → IsUtf8 bytes → SameAsBytes p bytes
same_as_bytes p bytes f utf8 =
    elim (cases_Bool (p (trimmed bytes))) [
      | inl passes ↦ bytes_pass p bytes f passes
      | inr fails ↦ none_pass p bytes f utf8 fails
    ]

-- ---- numbers and words

number_ascii : (c : ℕ) → is_number_char c ≡ true → nat_lt c 128 ≡ true
number_ascii c h = grind (arith, nat_tests)

word_ascii : (c : ℕ) → is_word_char c ≡ true → nat_lt c 128 ≡ true
word_ascii c h = grind (arith, nat_tests)

words_ascii : (cs : List ℕ) → is_word cs ≡ true → is_ascii cs ≡ true
unfolding is_word
words_ascii cs h = wider is_word_char word_ascii cs (and_true _ (list_all is_word_char cs) h).1

pub number_as_bytes : (bytes : List ℕ) → IsUtf8 bytes → SameAsBytes is_number bytes
number_as_bytes bytes utf8 = same_as_bytes is_number bytes (λ t h. wider is_number_char number_ascii t (number_chars t h)) utf8

pub word_as_bytes : (bytes : List ℕ) → IsUtf8 bytes → SameAsBytes is_word bytes
word_as_bytes bytes utf8 = same_as_bytes is_word bytes words_ascii utf8

-- ---- names and styles

name_ascii : (c : ℕ) → tags.is_word_char c ≡ true → nat_lt c 128 ≡ true
name_ascii c h = grind (arith, nat_tests)

pub word_chars_same : (name : List ℕ) → list_all tags.is_word_char name ≡ true → chars name ≡ name
word_chars_same name h = chars-IsAscii name (ascii_of name (wider tags.is_word_char name_ascii name h))

style_ascii : (c : ℕ) → is_style_char c ≡ true → nat_lt c 128 ≡ true
style_ascii c h = grind (arith, nat_tests)

pub style_chars_same : (style : List ℕ) → list_all is_style_char style ≡ true → chars style ≡ style
style_chars_same style h = chars-IsAscii style (ascii_of style (wider is_style_char style_ascii style h))

-- ---- what is written of a value

pub kept_value : (p : List ℕ → Bool) (bytes text written : List ℕ) → SameAsBytes p bytes → text ≡ trimmed bytes → p text ≡ true → written ≡ text → Some (chars written) ≡ some_if (p (trimmed (chars bytes))) (trimmed (chars bytes))
kept_value p bytes text written same t h w =
    let passes : p (trimmed bytes) ≡ true = ap p (sym t) ∙ h in
    rw (same.test ∙ passes) (ap Some (ap chars (w ∙ t) ∙ same.text passes))

pub dropped_value : (p : List ℕ → Bool) (bytes text : List ℕ) → SameAsBytes p bytes → text ≡ trimmed bytes → p text ≡ false → None ≡ some_if (p (trimmed (chars bytes))) (trimmed (chars bytes))
dropped_value p bytes text same t h =
    let fails : p (trimmed bytes) ≡ false = ap p (sym t) ∙ h in
    rw (same.test ∙ fails) refl
