-- The items of written parts.
use Rattle.std.proofs.Common.{◌≡◌, ℕ, ◌+◌, ◌/◌, ◌%◌, ◌<◌, ◌^◌, ◌==◌, ◌||◌, ◌&&◌, Bool, true, false, not, Option, Some, None, List, [], ◌∷◌, ◌++◌, length, map, codes, decimal, inl, inr, refl, sym, ap, ◌∙◌, arith, append_assoc}
use Rattle.std.specs.List.{list_all, flat_map, concat}
use Rattle.std.proofs.lemmas.Bool.{cases_Bool, and_parts}
use Rattle.std.proofs.lemmas.Bool.Decides.{nat_tests}
use Rattle.std.proofs.lemmas.List.{append-nil}
use Rattle.std.proofs.lemmas.Fmt.{decimal_by_steps}
use Rattle.std.proofs.lemmas.List.Folds.{list_all-append}
use Rattle.imap_commands.specs.Pieces.{Part, pieces_of, onto_first, is_plain, is_quotable, quoted, quoted_byte, literal_size, line_end}
use Rattle.imap_commands.specs.Pieces.Part.{Words, Text, Literal}
use Rattle.imap_commands.specs.Bytes.{is_digit}
use Rattle.imap_commands.specs.Items.{Item, LexState, literal_state, lex_step, lex_from, items_if_whole, items_of}
use Rattle.imap_commands.specs.Items.Item.{Byte, Str}
use Rattle.imap_commands.specs.Items.LexState.{Between, Quoted, Escaped, Brace, Size, Octets, Expect, Whole, Wrong}

-- ---- nothing follows a whole command

wrong_stays : (bytes : List ℕ) → lex_from Wrong bytes ≡ Wrong
unfolding lex_step lex_from
wrong_stays [] = refl
wrong_stays (c ∷ bytes) = wrong_stays bytes

place-append : (place : LexState) (xs ys : List ℕ) → lex_from place (xs ++ ys) ≡ lex_from (lex_from place xs) ys
unfolding lex_from
place-append place [] ys = refl
place-append place (x ∷ xs) ys = place-append (lex_step place x) xs ys

past_whole : (place : LexState) (items : List Item) (c : ℕ) (more : List ℕ) → items_if_whole place ≡ Some items → items_if_whole (lex_from place (c ∷ more)) ≡ None
unfolding lex_step lex_from
past_whole (Whole all) items c more is = ap items_if_whole (wrong_stays more)
past_whole (Between all) items c more is = absurd cc
past_whole (Quoted all text) items c more is = absurd cc
past_whole (Escaped all text) items c more is = absurd cc
past_whole (Brace all) items c more is = absurd cc
past_whole (Size all size) items c more is = absurd cc
past_whole (Octets all left text) items c more is = absurd cc
past_whole (Expect wanted next) items c more is = absurd cc
past_whole Wrong items c more is = absurd cc

none_or : (one other : Option (List Item)) → ((items : List Item) → one ≡ Some items → other ≡ None) → (whole : List Item) → other ≡ Some whole → one ≡ None
none_or None other follows whole is = refl
none_or (Some items) other follows whole is = absurd (let e = follows items refl in cc)

pub not_before_its_end : (front : List ℕ) (c : ℕ) (back : List ℕ) (items : List Item) → items_of (front ++ c ∷ back) ≡ Some items → items_of front ≡ None
unfolding items_of
not_before_its_end front c back items is =
    none_or (items_of front) (items_of (front ++ c ∷ back)) (λ all whole. ap items_if_whole (place-append (Between []) front (c ∷ back)) ∙ past_whole (lex_from (Between []) front) all c back whole) items is

-- ---- words

-- a byte that begins no string and ends no line
abbrev pub is_word : ℕ → Bool
is_word c = not (c == 34 || c == 123 || c == 13)

one_word : (items : List Item) (c : ℕ) → is_word c ≡ true → lex_step (Between items) c ≡ Between (items ++ Byte c ∷ [])
unfolding lex_step
one_word items c is = grind (arith, nat_tests)

words_read : (items : List Item) (words rest : List ℕ) → list_all is_word words ≡ true → lex_from (Between items) (words ++ rest) ≡ lex_from (Between (items ++ map Byte words)) rest
unfolding lex_from
words_read items [] rest all = ap (λ (x : List Item). lex_from (Between x) rest) (sym (append-nil items))
words_read items (c ∷ words) rest all =
    let both = and_parts _ _ all in
    ap (λ (p : LexState). lex_from p (words ++ rest)) (one_word items c both.0)
    ∙ words_read (items ++ Byte c ∷ []) words rest both.1
    ∙ ap (λ (x : List Item). lex_from (Between x) rest) (append_assoc items (Byte c ∷ []) (map Byte words))

-- ---- strings

quoted_byte_read : (items : List Item) (text : List ℕ) (c : ℕ) (rest : List ℕ) → is_plain c ≡ true → lex_from (Quoted items text) (quoted_byte c ++ rest) ≡ lex_from (Quoted items (text ++ c ∷ [])) rest
unfolding lex_from lex_step
quoted_byte_read items text c rest plain =
    let no_cr : (c == 13) ≡ false = grind (arith, nat_tests) in
    let no_lf : (c == 10) ≡ false = grind (arith, nat_tests) in
    elim (cases_Bool (c == 34)) [
      | inl quote ↦ rw quote (rw quote refl)
      | inr other ↦ elim (cases_Bool (c == 92)) [
        | inl slash ↦ rw (other, slash) (rw (other, slash) refl)
        | inr letter ↦ rw (other, letter) (rw (other, letter, no_cr, no_lf) refl)
      ]
    ]

quoted_bytes_read : (items : List Item) (before text rest : List ℕ) → list_all is_plain text ≡ true → lex_from (Quoted items before) (flat_map quoted_byte text ++ rest) ≡ lex_from (Quoted items (before ++ text)) rest
quoted_bytes_read items before [] rest plain = ap (λ (x : List ℕ). lex_from (Quoted items x) rest) (sym (append-nil before))
quoted_bytes_read items before (c ∷ text) rest plain =
    let both = and_parts _ _ plain in
    ap (lex_from (Quoted items before)) (append_assoc (quoted_byte c) (flat_map quoted_byte text) rest)
    ∙ quoted_byte_read items before c (flat_map quoted_byte text ++ rest) both.0
    ∙ quoted_bytes_read items (before ++ c ∷ []) text rest both.1
    ∙ ap (λ (x : List ℕ). lex_from (Quoted items x) rest) (append_assoc before (c ∷ []) text)

quoted_read : (items : List Item) (text rest : List ℕ) → list_all is_plain text ≡ true → lex_from (Between items) (quoted text ++ rest) ≡ lex_from (Between (items ++ Str text ∷ [])) rest
unfolding lex_from lex_step
quoted_read items text rest plain =
    ap (lex_from (Quoted items [])) (append_assoc (flat_map quoted_byte text) (34 ∷ []) rest)
    ∙ quoted_bytes_read items [] text (34 ∷ rest) plain

octets_read : (items : List Item) (before text rest : List ℕ) → lex_from (literal_state items (length text) before) (text ++ rest) ≡ lex_from (Between (items ++ Str (before ++ text) ∷ [])) rest
unfolding lex_from lex_step
octets_read items before [] rest = ap (λ (x : List ℕ). lex_from (Between (items ++ Str x ∷ [])) rest) (sym (append-nil before))
octets_read items before (c ∷ text) rest =
    octets_read items (before ++ c ∷ []) text rest
    ∙ ap (λ (x : List ℕ). lex_from (Between (items ++ Str x ∷ [])) rest) (append_assoc before (c ∷ []) text)

one_digit : (items : List Item) (n : ℕ) → n < 10 → lex_step (Brace items) (48 + n) ≡ Size items n
unfolding lex_step
one_digit items n less = let d : is_digit (48 + n) ≡ true = grind (arith, nat_tests) in rw d (ap (Size items) (omega arith))

more_digit : (items : List Item) (n : ℕ) → lex_step (Size items (n / 10)) (48 + n % 10) ≡ Size items n
unfolding lex_step
more_digit items n = let d : is_digit (48 + n % 10) ≡ true = grind (arith, nat_tests) in rw d (ap (Size items) (omega arith))

size_read : (items : List Item) (n : ℕ) → n < 2 ^ 64 → (rest : List ℕ) → lex_from (Brace items) (decimal n ++ rest) ≡ lex_from (Size items n) rest
unfolding lex_from
size_read items = decimal_by_steps
    (λ n ds. (rest : List ℕ) → lex_from (Brace items) (ds ++ rest) ≡ lex_from (Size items n) rest)
    (λ n less rest. ap (λ (p : LexState). lex_from p rest) (one_digit items n less))
    (λ n ds over more rest.
    ap (lex_from (Brace items)) (append_assoc ds ((48 + n % 10) ∷ []) rest)
    ∙ more ((48 + n % 10) ∷ rest)
    ∙ ap (λ (p : LexState). lex_from p rest) (more_digit items n))

announced_read : (items : List Item) (n : ℕ) (rest : List ℕ) → n < 2 ^ 64 → lex_from (Between items) (literal_size n ++ rest) ≡ lex_from (literal_state items n []) rest
unfolding lex_from lex_step
announced_read items n rest small =
    ap (lex_from (Brace items)) (append_assoc (decimal n ++ codes "}") line_end rest ∙ append_assoc (decimal n) (codes "}") (line_end ++ rest))
    ∙ size_read items n small (codes "}" ++ (line_end ++ rest))

literal_read : (items : List Item) (text rest : List ℕ) → length text < 2 ^ 64 → lex_from (Between items) (literal_size (length text) ++ (text ++ rest)) ≡ lex_from (Between (items ++ Str text ∷ [])) rest
literal_read items text rest small = announced_read items (length text) (text ++ rest) small ∙ octets_read items [] text rest

-- ---- parts

concat-onto : (bytes : List ℕ) (pieces : List (List ℕ)) → concat (onto_first bytes pieces) ≡ bytes ++ concat pieces
concat-onto bytes [] = refl
concat-onto bytes (first ∷ more) = append_assoc bytes first (concat more)

-- parts whose words have no string, and whose literals fit
abbrev pub IsSpelled : Part → Type 0
IsSpelled (Words words) = list_all is_word words ≡ true
IsSpelled (Text text) = length text < 2 ^ 64
IsSpelled (Literal text) = length text < 2 ^ 64

abbrev pub AreSpelled : List Part → Type 0
AreSpelled [] = Unit {0}
AreSpelled (part ∷ more) = IsSpelled part × AreSpelled more

-- their items
abbrev pub items_said : List Part → List Item
items_said [] = []
items_said (Words words ∷ more) = map Byte words ++ items_said more
items_said (Text text ∷ more) = Str text ∷ items_said more
items_said (Literal text ∷ more) = Str text ∷ items_said more

abbrev ReadAs : List Part → Type 0
ReadAs parts = (items : List Item) → lex_from (Between items) (concat (pieces_of parts)) ≡ Whole (items ++ items_said parts)

literal_part : (items : List Item) (text : List ℕ) (more : List Part) → length text < 2 ^ 64 → ReadAs more → lex_from (Between items) (concat (literal_size (length text) ∷ onto_first text (pieces_of more))) ≡ Whole (items ++ Str text ∷ items_said more)
literal_part items text more small rest =
    ap (λ (x : List ℕ). lex_from (Between items) (literal_size (length text) ++ x)) (concat-onto text (pieces_of more))
    ∙ literal_read items text (concat (pieces_of more)) small
    ∙ rest (items ++ Str text ∷ [])
    ∙ ap Whole (append_assoc items (Str text ∷ []) (items_said more))

quoted_part : (items : List Item) (text : List ℕ) (more : List Part) → list_all is_plain text ≡ true → ReadAs more → lex_from (Between items) (concat (onto_first (quoted text) (pieces_of more))) ≡ Whole (items ++ Str text ∷ items_said more)
quoted_part items text more plain rest =
    ap (lex_from (Between items)) (concat-onto (quoted text) (pieces_of more))
    ∙ quoted_read items text (concat (pieces_of more)) plain
    ∙ rest (items ++ Str text ∷ [])
    ∙ ap Whole (append_assoc items (Str text ∷ []) (items_said more))

words_part : (items : List Item) (words : List ℕ) (more : List Part) → list_all is_word words ≡ true → ReadAs more → lex_from (Between items) (concat (onto_first words (pieces_of more))) ≡ Whole (items ++ (map Byte words ++ items_said more))
words_part items words more plain rest =
    ap (lex_from (Between items)) (concat-onto words (pieces_of more))
    ∙ words_read items words (concat (pieces_of more)) plain
    ∙ rest (items ++ map Byte words)
    ∙ ap Whole (append_assoc items (map Byte words) (items_said more))

line_end_read : (items : List Item) → lex_from (Between items) (line_end ++ []) ≡ Whole items
unfolding lex_from lex_step
line_end_read items = refl

parts_read : (parts : List Part) → AreSpelled parts → ReadAs parts
unfolding pieces_of
parts_read [] spelled items = line_end_read items ∙ ap Whole (sym (append-nil items))
parts_read (Words words ∷ more) spelled items = words_part items words more spelled.0 (parts_read more spelled.1)
parts_read (Text text ∷ more) spelled items =
    elim (cases_Bool (is_quotable text)) [
      | inl short ↦ rw short (quoted_part items text more (and_parts _ _ short).1 (parts_read more spelled.1))
      | inr long ↦ rw long (literal_part items text more spelled.0 (parts_read more spelled.1))
    ]
parts_read (Literal text ∷ more) spelled items = literal_part items text more spelled.0 (parts_read more spelled.1)

pub items_of_parts : (parts : List Part) → AreSpelled parts → items_of (concat (pieces_of parts)) ≡ Some (items_said parts)
unfolding items_of
items_of_parts parts spelled = ap items_if_whole (parts_read parts spelled [])

pub decimal_words : (n : ℕ) → n < 2 ^ 64 → list_all is_word (decimal n) ≡ true
decimal_words = decimal_by_steps (λ n ds. list_all is_word ds ≡ true)
    (λ n less. grind (arith, nat_tests))
    (λ n ds over more. list_all-append is_word ds ((48 + n % 10) ∷ []) ∙ ap (λ b. b && list_all is_word ((48 + n % 10) ∷ [])) more ∙ grind (arith, nat_tests))
