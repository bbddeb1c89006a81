-- The values of attributes.
use Rattle.std.proofs.Common.{◌≡◌, ◌≢◌, ℕ, suc, ◌+◌, ◌-◌, ◌<◌, Bool, true, false, not, ◌||◌, ◌==◌, List, [], ◌∷◌, ◌++◌, length, take, drop, refl, sym, ap, subst, ◌∙◌, append-nil, arith, inl, inr, IsUtf8, IsCharBoundary, get_or}
use Rattle.std.proofs.lemmas.Bool.{cases_Bool, eqb-true}
use Rattle.std.proofs.lemmas.Bool.Decides.{nat_tests}
use Rattle.std.proofs.lemmas.List.{take-append-drop, drop-drop, drop_more, length-drop}
use Rattle.std.proofs.lemmas.Str.{IsUtf8-take, IsUtf8-drop, IsCharBoundary-after_ascii, IsCharBoundary-from_rest}
use Rattle.std.specs.List.{list_all, prefix_len}
use Rattle.html_syntax.specs.Characters.{is_space}
use Rattle.html_syntax.specs.States.{Tag, replace_null, keep, keep_flag}
use Rattle.html_syntax.specs.States.State.{BeforeName, AfterName, BeforeValue}
use Rattle.html_syntax.specs.Tokenizer.{read}
use Rattle.html_references.specs.Input.{input}
use Rattle.html_tokens.specs.Scanned.{slice_between}
use Rattle.html_tokens.specs.Cuts.{LacksByte, IsCutAt}
use Rattle.html_tokens.specs.Tags.{is_blank, in_class, read_value, begins_quoted, BeginsOutside, ReadsValueAt}
use Rattle.html_tokens.specs.declared.tags.Class.TheVariants as class
use Rattle.html_references.proofs.Stops.{Stops, is_of_reference}
use Rattle.html_tokens.proofs.Decoding.{decoded_run}
use Rattle.html_references.proofs.Stretches.{PassesWide, IsMarked, input-append, input-nil, input-cons, all-input, utf8_tail}
use Rattle.html_tokens.proofs.TagRows.{quoted, quoted_decodes, quoted_nil, quoted_end, value_quote, value_other, value_nil, unquoted, is_unquoted, unquoted_decodes, unquoted_nil, unquoted_stops, before_nil, value_space, after_space, after_equals, after_nil, after_other, before_space}
use Rattle.html_tokens.proofs.TagRuns.{IsWide, Leaves, cut, weaker, prefix_outside, at_stop, at_first, head_return, wide_boundary, small_boundary, IsSmall, passed}

-- ---- in quotes

-- one of the two quotes
abbrev pub IsQuote : ℕ → Type 0
IsQuote quote = (quote == 34 || quote == 39) ≡ true

quote_input : (quote : ℕ) → IsQuote quote → (bytes : List ℕ) → input (quote ∷ bytes) ≡ quote ∷ input bytes
quote_input quote is bytes =
    let small : quote < 128 = grind (arith, nat_tests) in
    let other : quote ≢ 13 = λ (e : quote ≡ 13). let x : (13 == 34 || 13 == 39) ≡ true = rw e at is in cc in
    input-cons quote bytes small other

no_quote : (quote : ℕ) (bytes : List ℕ) → IsQuote quote → IsUtf8 bytes → LacksByte quote bytes → list_all (λ c. not (c == quote)) (input bytes) ≡ true
no_quote quote bytes is utf8 lacks =
    all-input (λ c. not (c == quote)) (λ c big. grind (arith, nat_tests)) (λ h. grind (arith, nat_tests)) bytes utf8 lacks

quote_stops : (quote : ℕ) → IsQuote quote → is_of_reference quote ≡ false
quote_stops quote is = grind (arith, nat_tests)

quote_self : (quote : ℕ) → (quote == quote) ≡ true
quote_self quote = grind (arith, nat_tests)

-- the value and the quote after it
closed : (quote : ℕ) (t : Tag) (n xs ys : List ℕ) → IsQuote quote → IsUtf8 xs → LacksByte quote xs
    → quoted quote t n [] 0 (input (xs ++ quote ∷ ys)) ≡ read (BeforeName (keep t n (read_value xs))) 0 (input ys)
closed quote t n xs ys is utf8 lacks =
    let other : (38 == quote) ≡ false = grind (arith, nat_tests) in
    let marked : IsMarked (quote ∷ ys) = (grind (arith, nat_tests), λ (e : quote ≡ 10). let x : (10 == 34 || 10 == 39) ≡ true = rw e at is in cc) in
    ap (quoted quote t n [] 0) (input-append xs (quote ∷ ys) utf8 marked ∙ ap (λ (l : List ℕ). input xs ++ l) (quote_input quote is ys))
    ∙ decoded_run (quoted quote t n) true (λ c. not (c == quote)) replace_null (quoted_decodes quote other t n) [] (input xs) (quote ∷ input ys) (no_quote quote xs is utf8 lacks) (quote_stops quote is)
    ∙ quoted_end quote t n (read_value xs) (input ys) (quote_self quote)

-- a value whose quote is missing gives no tag
unclosed : (quote : ℕ) (t : Tag) (n xs : List ℕ) → IsQuote quote → IsUtf8 xs → LacksByte quote xs → quoted quote t n [] 0 (input xs) ≡ []
unclosed quote t n xs is utf8 lacks =
    let other : (38 == quote) ≡ false = grind (arith, nat_tests) in
    ap (quoted quote t n [] 0) (sym (append-nil (input xs)))
    ∙ decoded_run (quoted quote t n) true (λ c. not (c == quote)) replace_null (quoted_decodes quote other t n) [] (input xs) [] (no_quote quote xs is utf8 lacks) tt
    ∙ quoted_nil quote t n (read_value xs)

inner_ends : (quote : ℕ) (t : Tag) (n bytes : List ℕ) (len end : ℕ) → IsQuote quote → IsUtf8 bytes → IsCharBoundary bytes len → LacksByte quote (take len bytes) → IsCutAt quote bytes len end
    → quoted quote t n [] 0 (input bytes) ≡ read (BeforeName (keep t n (read_value (take len bytes)))) 0 (input (drop end bytes))
inner_ends quote t n bytes len end is utf8 at lacks (inl e) =
    ap (λ (l : List ℕ). quoted quote t n [] 0 (input l)) (sym (take-append-drop len bytes) ∙ ap (λ (l : List ℕ). take len bytes ++ l) e)
    ∙ closed quote t n (take len bytes) (drop end bytes) is (IsUtf8-take bytes len utf8 at) lacks
inner_ends quote t n bytes len end is utf8 at lacks (inr e) =
    ap (λ (l : List ℕ). quoted quote t n [] 0 (input l)) (sym (take-append-drop len bytes) ∙ ap (λ (l : List ℕ). take len bytes ++ l) e.0 ∙ append-nil (take len bytes))
    ∙ unclosed quote t n (take len bytes) is (IsUtf8-take bytes len utf8 at) lacks
    ∙ sym (ap (λ (l : List ℕ). read (BeforeName (keep t n (read_value (take len bytes)))) 0 (input l)) e.1 ∙ ap (read (BeforeName (keep t n (read_value (take len bytes)))) 0) input-nil ∙ before_nil (keep t n (read_value (take len bytes))))

one : (n : ℕ) → 1 + n ≡ suc n
one n = omega arith

pub quote_of : (b : ℕ) (bytes : List ℕ) → begins_quoted (b ∷ bytes) ≡ true → b < 128
quote_of b bytes is = grind (arith, nat_tests)

pub first_boundary : (rest : List ℕ) → IsUtf8 rest → begins_quoted rest ≡ true → IsCharBoundary rest 1
first_boundary [] utf8 is = absurd cc
first_boundary (b ∷ bytes) utf8 is = IsCharBoundary-after_ascii (b ∷ bytes) 0 utf8 (omega arith) (quote_of b bytes is)

pub later_boundary : (rest : List ℕ) (n : ℕ) → IsUtf8 rest → begins_quoted rest ≡ true → IsCharBoundary (drop 1 rest) n → IsCharBoundary rest (1 + n)
later_boundary [] n utf8 is at = absurd cc
later_boundary (b ∷ bytes) n utf8 is at = IsCharBoundary-from_rest (b ∷ bytes) 1 n (omega arith) at

pub in_quotes : (rest : List ℕ) (quote len end : ℕ) → IsUtf8 rest → begins_quoted rest ≡ true → quote ≡ get_or rest 0 0 → IsCharBoundary (drop 1 rest) len → LacksByte quote (take len (drop 1 rest))
    → IsCutAt quote (drop 1 rest) len end → ReadsValueAt rest (record { start = 1; end = 1 + len; after = 1 + end })
in_quotes [] quote len end utf8 is e at lacks ends = absurd cc
in_quotes (b ∷ bytes) quote len end utf8 is e at lacks ends = λ t n.
    let count : (1 + len) - 1 ≡ len = omega arith in
    let tail = utf8_tail b bytes (quote_of b bytes is) utf8 in
    rw (one end, count) (
    ap (read (BeforeValue t n) 0) (quote_input b is bytes)
    ∙ value_quote t n b (input bytes) is
    ∙ inner_ends b t n bytes len end is tail at (subst (λ (q : ℕ). LacksByte q (take len bytes)) e lacks) (subst (λ (q : ℕ). IsCutAt q bytes len end) e ends))

-- ---- without quotes

-- a character that may begin such a value
is_bare : ℕ → Bool
is_bare c = not (is_blank c || c == 34 || c == 39)

bare_here : (t : Tag) (n : List ℕ) (c : ℕ) (text : List ℕ) → is_bare c ≡ true → read (BeforeValue t n) 0 (c ∷ text) ≡ unquoted t n [] 0 (c ∷ text)
unfolding is_bare
bare_here t n c text h = value_other t n c text (grind (arith, nat_tests)) (grind (arith, nat_tests))

bare_wide : PassesWide is_bare
unfolding is_bare
bare_wide c big = grind (arith, nat_tests)

bare_first : (b : ℕ) → is_blank b ≡ false → (b == 34 || b == 39) ≡ false → (is_bare b ≡ true) × (is_bare 13 ≡ false)
unfolding is_bare
bare_first b h g = (grind (arith, nat_tests), refl)

bare_begins : (t : Tag) (n rest : List ℕ) → IsUtf8 rest → BeginsOutside is_blank rest → begins_quoted rest ≡ false → read (BeforeValue t n) 0 (input rest) ≡ unquoted t n [] 0 (input rest)
bare_begins t n [] utf8 outside other = rw input-nil (value_nil t n)
bare_begins t n (b ∷ bytes) utf8 outside other =
    let first = bare_first b outside other in
    at_first (read (BeforeValue t n) 0) (unquoted t n [] 0) is_bare (record { ends = value_nil t n; here = bare_here t n }) bare_wide first.1 b bytes utf8 first.0

bare_stops : (bytes : List ℕ) → BeginsOutside (in_class class.UnquotedValue) bytes → Stops (input bytes)
bare_stops [] h = rw input-nil tt
bare_stops (b ∷ bytes) h = elim (cases_Bool (b == 13)) [
  | inl is ↦
      let e : b ≡ 13 = eqb-true b 13 is in
      let head = head_return bytes in
      rw (e, head.1) refl
  | inr other ↦
      let no_return : b ≢ 13 = (λ (x : b ≡ 13). let y : (13 == 13) ≡ false = rw x at other in cc) in
      let small : b < 128 = grind (arith, nat_tests) in
      rw (input-cons b bytes small no_return) (grind (arith, nat_tests))
]

bare_class : IsWide (in_class class.UnquotedValue)
bare_class = record { wide = λ c big. grind (arith, nat_tests); no_return = refl }

bare_leaves : Leaves (in_class class.UnquotedValue) (λ c. not (is_unquoted c))
bare_leaves = record { small = λ b h. grind (arith, nat_tests); passes = λ b h other. grind (arith, nat_tests); feed = refl }

bare_ends : (t : Tag) (n v bytes : List ℕ) → BeginsOutside (in_class class.UnquotedValue) bytes → unquoted t n v 0 (input bytes) ≡ read (BeforeName (keep t n v)) 0 (input bytes)
bare_ends t n v bytes outside =
    at_stop (unquoted t n v 0) (read (BeforeName (keep t n v)) 0) (in_class class.UnquotedValue) (λ c. not (is_unquoted c))
    (record { ends = unquoted_nil t n v; here = λ c text h. unquoted_stops t n v c text (grind (arith, nat_tests)) }) bare_leaves bytes outside

pub bare_boundary : (rest : List ℕ) → IsCharBoundary rest (prefix_len (in_class class.UnquotedValue) rest)
bare_boundary rest = wide_boundary (in_class class.UnquotedValue) bare_class.wide rest

pub in_bare : (rest : List ℕ) (k : ℕ) → IsUtf8 rest → BeginsOutside is_blank rest → begins_quoted rest ≡ false → k ≡ prefix_len (in_class class.UnquotedValue) rest
    → ReadsValueAt rest (record { start = 0; end = k; after = k })
in_bare rest k utf8 outside other e = λ t n.
    let len = prefix_len (in_class class.UnquotedValue) rest in
    let c = cut (in_class class.UnquotedValue) bare_class rest utf8 in
    let count : len - 0 ≡ len = omega arith in
    let ended = prefix_outside (in_class class.UnquotedValue) rest in
    rw (e, count) (
    bare_begins t n rest utf8 outside other
    ∙ ap (unquoted t n [] 0) c.is
    ∙ decoded_run (unquoted t n) true is_unquoted replace_null (unquoted_decodes t n) [] (input (take len rest)) (input (drop len rest))
    (weaker (in_class class.UnquotedValue) is_unquoted (λ b h. grind (arith, nat_tests)) (input (take len rest)) c.all) (bare_stops (drop len rest) ended)
    ∙ bare_ends t n (read_value (take len rest)) (drop len rest) ended)

-- ---- white space before it

pub space_small : IsSmall is_blank
space_small b h = grind (arith, nat_tests)

spaces_small : IsSmall is_space
spaces_small b h = grind (arith, nat_tests)

pub between_later : (rest : List ℕ) (at start end : ℕ) → slice_between start end (drop at rest) ≡ slice_between (at + start) (at + end) rest
between_later rest at start end =
    let count : end - start ≡ (at + end) - (at + start) = omega arith in
    ap (λ (k : ℕ). take k (drop start (drop at rest))) count ∙ ap (take ((at + end) - (at + start))) (drop-drop start at rest)

pub value_later : (rest : List ℕ) (at start end after : ℕ) → IsUtf8 rest → at ≡ prefix_len is_blank rest → ReadsValueAt (drop at rest) (record { start = start; end = end; after = after })
    → ReadsValueAt rest (record { start = at + start; end = at + end; after = at + after })
value_later rest at start end after utf8 e holds = λ t n.
    passed (BeforeValue t n) is_space (value_space t n) refl spaces_small rest utf8
    ∙ ap (λ (k : ℕ). read (BeforeValue t n) 0 (input (drop k rest))) (sym e)
    ∙ holds t n
    ∙ ap (λ (l : List ℕ). read (BeforeName (keep t n (read_value l))) 0 (input (drop after (drop at rest)))) (between_later rest at start end)
    ∙ ap (λ (l : List ℕ). read (BeforeName (keep t n (read_value (slice_between (at + start) (at + end) rest)))) 0 (input l)) (drop-drop after at rest)

-- ---- the `=` before it

pub equals_passed : (rest : List ℕ) (at : ℕ) → IsUtf8 rest → at ≡ prefix_len is_blank rest → at < length rest → get_or rest at 0 ≡ 61 → (t : Tag) (n : List ℕ)
    → read (AfterName t n) 0 (input rest) ≡ read (BeforeValue t n) 0 (input (drop (at + 1) rest))
equals_passed rest at utf8 e lt is t n =
    passed (AfterName t n) is_space (after_space t n) refl spaces_small rest utf8
    ∙ ap (λ (k : ℕ). read (AfterName t n) 0 (input (drop k rest))) (sym e)
    ∙ ap (λ (l : List ℕ). read (AfterName t n) 0 (input l)) (drop_more rest at 0 lt ∙ ap (λ (b : ℕ). b ∷ drop (at + 1) rest) is)
    ∙ ap (read (AfterName t n) 0) (input-cons 61 (drop (at + 1) rest) (omega arith) (λ (x : 61 ≡ 13). omega arith))
    ∙ after_equals t n (input (drop (at + 1) rest))

pub equals_boundary : (rest : List ℕ) (at : ℕ) → IsUtf8 rest → at < length rest → get_or rest at 0 ≡ 61 → IsCharBoundary rest (at + 1)
equals_boundary rest at utf8 lt is = IsCharBoundary-after_ascii rest at utf8 lt (omega (arith, is))

-- neither white space nor a `=`
is_next : ℕ → Bool
is_next c = not (is_blank c || c == 61)

next_here : (t : Tag) (n : List ℕ) (c : ℕ) (text : List ℕ) → is_next c ≡ true → read (AfterName t n) 0 (c ∷ text) ≡ read (BeforeName (keep_flag t n)) 0 (c ∷ text)
unfolding is_next
next_here t n c text h = after_other t n c text (grind (arith, nat_tests)) (grind (arith, nat_tests))

next_wide : PassesWide is_next
unfolding is_next
next_wide c big = grind (arith, nat_tests)

next_first : (b : ℕ) → is_blank b ≡ false → (b == 61) ≡ false → (is_next b ≡ true) × (is_next 13 ≡ false)
unfolding is_next
next_first b h g = (grind (arith, nat_tests), refl)

flagged : (t : Tag) (n rest : List ℕ) → IsUtf8 rest → BeginsOutside is_blank rest → (0 < length rest → (get_or rest 0 0 == 61) ≡ false) → read (AfterName t n) 0 (input rest) ≡ read (BeforeName (keep_flag t n)) 0 (input rest)
flagged t n [] utf8 outside other = rw input-nil (after_nil t n)
flagged t n (b ∷ bytes) utf8 outside other =
    let first = next_first b outside (other (omega arith)) in
    at_first (read (AfterName t n) 0) (read (BeforeName (keep_flag t n)) 0) is_next (record { ends = after_nil t n; here = next_here t n }) next_wide first.1 b bytes utf8 first.0

pub equals_absent : (rest : List ℕ) (at : ℕ) → IsUtf8 rest → at ≡ prefix_len is_blank rest → (at < length rest → (get_or rest at 0 == 61) ≡ false) → (t : Tag) (n : List ℕ)
    → read (AfterName t n) 0 (input rest) ≡ read (BeforeName (keep_flag t n)) 0 (input rest)
equals_absent rest at utf8 e other t n =
    let len = prefix_len is_blank rest in
    let tail : IsUtf8 (drop len rest) = IsUtf8-drop rest len utf8 (small_boundary is_blank space_small rest utf8) in
    let none : 0 < length (drop len rest) → (get_or (drop len rest) 0 0 == 61) ≡ false = λ some.
    let lt : len < length rest = omega (arith, length-drop len rest) in
    ap (λ (l : List ℕ). get_or l 0 0 == 61) (drop_more rest len 0 lt) ∙ subst (λ (k : ℕ). k < length rest → (get_or rest k 0 == 61) ≡ false) e other lt in
    passed (AfterName t n) is_space (after_space t n) refl spaces_small rest utf8
    ∙ flagged t n (drop len rest) tail (prefix_outside is_blank rest) none
    ∙ sym (passed (BeforeName (keep_flag t n)) is_space (before_space (keep_flag t n)) refl spaces_small rest utf8)
