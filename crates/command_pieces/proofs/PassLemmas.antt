-- Parts of a command that the lexer passes without a request for more.
use Rattle.std.proofs.Common.{◌≡◌, ℕ, suc, ◌+◌, ◌/◌, ◌%◌, ◌<◌, ◌^◌, ◌==◌, ◌&&◌, Bool, true, false, not, List, [], ◌∷◌, ◌++◌, length, decimal, inl, inr, refl, sym, ap, ◌∙◌, arith, append_assoc}
use Rattle.std.specs.List.{list_all, flat_map}
use Rattle.std.proofs.lemmas.Bool.{cases_Bool, and_parts}
use Rattle.std.proofs.lemmas.Bool.Decides.{nat_tests}
use Rattle.std.proofs.lemmas.List.{append-nil}
use Rattle.std.proofs.lemmas.Fmt.{decimal_by_steps}
use Rattle.imap_commands.specs.Pieces.{is_plain, quoted, quoted_byte, literal_size, line_end}
use Rattle.imap_commands.specs.Bytes.{is_digit}
use Rattle.imap_commands.specs.Items.{Item, LexState, literal_state, lex_step, lex_from}
use Rattle.imap_commands.specs.Items.Item.{Byte, Str}
use Rattle.imap_commands.specs.Items.LexState.{Between, Quoted, Brace, Size, Octets, Expect}
use Rattle.imap_commands.proofs.ItemLemmas.{is_word}
use Rattle.command_pieces.specs.Asking.{ends_size}

-- no byte of some bytes ends the size of a literal
unfoldable pub never : LexState → List ℕ → Bool
never place [] = true
never place (c ∷ bytes) = not (ends_size place c) && never (lex_step place c) bytes

-- the lexer passes some bytes, and comes from one state to another
pub record Passes (before : LexState) (bytes : List ℕ) (after : LexState) : Type 0 where
  pub silent : never before bytes ≡ true
  pub comes : lex_from before bytes ≡ after

pub place-append : (place : LexState) (xs ys : List ℕ) → lex_from place (xs ++ ys) ≡ lex_from (lex_from place xs) ys
unfolding lex_from
place-append place [] ys = refl
place-append place (x ∷ xs) ys = place-append (lex_step place x) xs ys

pub never-append : (place : LexState) (xs ys : List ℕ) → never place (xs ++ ys) ≡ (never place xs && never (lex_from place xs) ys)
unfolding never lex_from
never-append place [] ys = refl
never-append place (x ∷ xs) ys =
    elim (cases_Bool (ends_size place x)) [
      | inl ends ↦ rw ends refl
      | inr goes ↦ rw goes (never-append (lex_step place x) xs ys)
    ]

both : (a b : Bool) → a ≡ true → b ≡ true → (a && b) ≡ true
both a b p q = rw (p, q) refl

pub never_both : (place : LexState) (xs ys : List ℕ) → never place xs ≡ true → never (lex_from place xs) ys ≡ true → never place (xs ++ ys) ≡ true
never_both place xs ys one other = never-append place xs ys ∙ both _ _ one other

pub passes_both : (a b c : LexState) (xs ys : List ℕ) → Passes a xs b → Passes b ys c → Passes a (xs ++ ys) c
passes_both a b c xs ys p q = record {
  silent = never_both a xs ys p.silent (ap (λ (s : LexState). never s ys) p.comes ∙ q.silent);
  comes = place-append a xs ys ∙ ap (λ (s : LexState). lex_from s ys) p.comes ∙ q.comes;
}

passes_none : (a : LexState) → Passes a [] a
unfolding never lex_from
passes_none a = record { silent = refl; comes = refl }

passes_more : (a b c : LexState) (x : ℕ) (xs : List ℕ) → ends_size a x ≡ false → lex_step a x ≡ b → Passes b xs c → Passes a (x ∷ xs) c
unfolding never lex_from
passes_more a b c x xs silent steps p = record {
  silent = rw silent (ap (λ (s : LexState). never s xs) steps ∙ p.silent);
  comes = ap (λ (s : LexState). lex_from s xs) steps ∙ p.comes;
}

-- ---- words

one_word : (items : List Item) (c : ℕ) → is_word c ≡ true → lex_step (Between items) c ≡ Between (items ++ Byte c ∷ [])
unfolding lex_step
one_word items c is = grind (arith, nat_tests)

-- the items after some words
abbrev pub items_after : List Item → List ℕ → List Item
items_after items [] = items
items_after items (c ∷ words) = items_after (items ++ Byte c ∷ []) words

pub words_pass : (items : List Item) (words : List ℕ) → list_all is_word words ≡ true → Passes (Between items) words (Between (items_after items words))
words_pass items [] all = passes_none (Between items)
words_pass items (c ∷ words) all =
    let each = and_parts _ _ all in
    passes_more _ _ _ c words refl (one_word items c each.0) (words_pass (items ++ Byte c ∷ []) words each.1)

-- ---- strings

plain_byte : (items : List Item) (text : List ℕ) (c : ℕ) → is_plain c ≡ true → Passes (Quoted items text) (quoted_byte c) (Quoted items (text ++ c ∷ []))
unfolding never lex_from lex_step
plain_byte items text c plain =
    let no_cr : (c == 13) ≡ false = grind (arith, nat_tests) in
    let no_lf : (c == 10) ≡ false = grind (arith, nat_tests) in
    elim (cases_Bool (c == 34)) [
      | inl quote ↦ rw quote (record { silent = refl; comes = rw quote refl })
      | inr other ↦ elim (cases_Bool (c == 92)) [
        | inl slash ↦ rw (other, slash) (record { silent = refl; comes = rw (other, slash) refl })
        | inr letter ↦ rw (other, letter) (record { silent = refl; comes = rw (other, letter, no_cr, no_lf) refl })
      ]
    ]

plain_bytes : (items : List Item) (before text : List ℕ) → list_all is_plain text ≡ true → Passes (Quoted items before) (flat_map quoted_byte text) (Quoted items (before ++ text))
plain_bytes items before [] plain = rw append-nil (passes_none (Quoted items before))
plain_bytes items before (c ∷ text) plain =
    let each = and_parts _ _ plain in
    rw (sym (append_assoc before (c ∷ []) text)) (passes_both _ _ _ (quoted_byte c) (flat_map quoted_byte text) (plain_byte items before c each.0) (plain_bytes items (before ++ c ∷ []) text each.1))

end_quote : (items : List Item) (text : List ℕ) → Passes (Quoted items text) (34 ∷ []) (Between (items ++ Str text ∷ []))
unfolding never lex_from lex_step
end_quote items text = record { silent = refl; comes = refl }

begin_quote : (items : List Item) → lex_step (Between items) 34 ≡ Quoted items []
unfolding lex_step
begin_quote items = refl

pub quoted_pass : (items : List Item) (text : List ℕ) → list_all is_plain text ≡ true → Passes (Between items) (quoted text) (Between (items ++ Str text ∷ []))
quoted_pass items text plain =
    passes_more _ _ _ 34 (flat_map quoted_byte text ++ 34 ∷ []) refl (begin_quote items) (passes_both _ _ _ (flat_map quoted_byte text) (34 ∷ []) (plain_bytes items [] text plain) (end_quote items text))

one_octet : (items : List Item) (left c : ℕ) (before : List ℕ) → lex_step (Octets items (suc left) before) c ≡ literal_state items left (before ++ c ∷ [])
unfolding lex_step
one_octet items left c before = refl

pub octets_pass : (items : List Item) (before text : List ℕ) → Passes (literal_state items (length text) before) text (Between (items ++ Str (before ++ text) ∷ []))
octets_pass items before [] = rw append-nil (passes_none _)
octets_pass items before (c ∷ text) =
    rw (sym (append_assoc before (c ∷ []) text)) (passes_more _ _ _ c text refl (one_octet items (length text) c before) (octets_pass items (before ++ c ∷ []) text))

-- ---- the size of a literal

one_digit : (items : List Item) (n : ℕ) → n < 10 → Passes (Brace items) ((48 + n) ∷ []) (Size items n)
unfolding lex_step
one_digit items n less = let d : is_digit (48 + n) ≡ true = grind (arith, nat_tests) in passes_more _ _ _ (48 + n) [] refl (rw d (ap (Size items) (omega arith))) (passes_none (Size items n))

more_digit : (items : List Item) (n : ℕ) → Passes (Size items (n / 10)) ((48 + n % 10) ∷ []) (Size items n)
unfolding lex_step
more_digit items n = let d : is_digit (48 + n % 10) ≡ true = grind (arith, nat_tests) in passes_more _ _ _ (48 + n % 10) [] refl (rw d (ap (Size items) (omega arith))) (passes_none (Size items n))

digits_pass : (items : List Item) (n : ℕ) → n < 2 ^ 64 → Passes (Brace items) (decimal n) (Size items n)
digits_pass items = decimal_by_steps
    (λ n ds. Passes (Brace items) ds (Size items n))
    (λ n less. one_digit items n less)
    (λ n ds over more. passes_both _ _ _ ds ((48 + n % 10) ∷ []) more (more_digit items n))

begin_brace : (items : List Item) → lex_step (Between items) 123 ≡ Brace items
unfolding lex_step
begin_brace items = refl

end_brace : (items : List Item) (n : ℕ) → Passes (Size items n) (125 ∷ 13 ∷ []) (Expect (10 ∷ []) (literal_state items n []))
unfolding never lex_from lex_step
end_brace items n = record { silent = refl; comes = refl }

-- the size without its last byte
abbrev pub size_front : ℕ → List ℕ
size_front n = 123 ∷ (decimal n ++ (125 ∷ 13 ∷ []))

pub size_is : (n : ℕ) → literal_size n ≡ size_front n ++ 10 ∷ []
size_is n = ap (λ (x : List ℕ). 123 ∷ x) (append_assoc (decimal n) (125 ∷ []) line_end ∙ sym (append_assoc (decimal n) (125 ∷ 13 ∷ []) (10 ∷ [])))

pub size_pass : (items : List Item) (n : ℕ) → n < 2 ^ 64 → Passes (Between items) (size_front n) (Expect (10 ∷ []) (literal_state items n []))
size_pass items n small =
    passes_more _ _ _ 123 (decimal n ++ (125 ∷ 13 ∷ [])) refl (begin_brace items) (passes_both _ _ _ (decimal n) (125 ∷ 13 ∷ []) (digits_pass items n small) (end_brace items n))
