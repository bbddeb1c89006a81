-- Each piece of a command but the last ends with the size of a literal, and no other place does.
use Rattle.std.proofs.Common.{◌≡◌, ℕ, zero, suc, ◌<◌, ◌^◌, true, List, [], ◌∷◌, ◌++◌, length, inl, inr, refl, sym, ap, ◌∙◌, append_assoc}
use Rattle.std.specs.List.{list_all}
use Rattle.std.proofs.lemmas.Bool.{cases_Bool, and_parts}
use Rattle.imap_commands.specs.Pieces.{Part, pieces_of, onto_first, is_quotable, quoted, literal_size, line_end}
use Rattle.imap_commands.specs.Pieces.Part.{Words, Text, Literal}
use Rattle.imap_commands.specs.Items.{Item, LexState, literal_state, lex_step, lex_from}
use Rattle.imap_commands.specs.Items.Item.{Str}
use Rattle.imap_commands.specs.Items.LexState.{Between, Expect}
use Rattle.imap_commands.proofs.ItemLemmas.{is_word}
use Rattle.command_pieces.specs.Asking.{lacks_line_feed_of_size}
use Rattle.command_pieces.proofs.PassLemmas.{never, Passes, place-append, never_both, items_after, words_pass, quoted_pass, octets_pass, size_front, size_is, size_pass}

-- a piece ends with the size of a literal, and asks nowhere before
pub record AsksAtEnd (place : LexState) (piece : List ℕ) : Type 0 where
  pub front : List ℕ
  pub whole : piece ≡ front ++ 10 ∷ []
  pub silent : never place front ≡ true
  pub lacks : lacks_line_feed_of_size (lex_from place front) ≡ true

abbrev pub AreSent : LexState → List (List ℕ) → Type 0
AreSent place [] = Unit {0}
AreSent place (piece ∷ []) = never place piece ≡ true
AreSent place (piece ∷ next ∷ pieces) = AsksAtEnd place piece × AreSent (lex_from place piece) (next ∷ pieces)

asks_later : (place : LexState) (bytes piece : List ℕ) → never place bytes ≡ true → AsksAtEnd (lex_from place bytes) piece → AsksAtEnd place (bytes ++ piece)
asks_later place bytes piece silent a = record {
  front = bytes ++ a.front;
  whole = ap (λ (x : List ℕ). bytes ++ x) a.whole ∙ sym (append_assoc bytes a.front (10 ∷ []));
  silent = never_both place bytes a.front silent a.silent;
  lacks = ap lacks_line_feed_of_size (place-append place bytes a.front) ∙ a.lacks;
}

-- bytes in front of pieces
pub sent_onto : (place : LexState) (bytes : List ℕ) (pieces : List (List ℕ)) → never place bytes ≡ true → AreSent (lex_from place bytes) pieces → AreSent place (onto_first bytes pieces)
sent_onto place bytes [] silent sent = silent
sent_onto place bytes (piece ∷ []) silent sent = never_both place bytes piece silent sent
sent_onto place bytes (piece ∷ next ∷ pieces) silent sent = (asks_later place bytes piece silent sent.0, rw (place-append place bytes piece) sent.1)

pub passes_onto : (place after : LexState) (bytes : List ℕ) (pieces : List (List ℕ)) → Passes place bytes after → AreSent after pieces → AreSent place (onto_first bytes pieces)
passes_onto place after bytes pieces p sent = sent_onto place bytes pieces p.silent (rw p.comes sent)

lacks : (items : List Item) (n : ℕ) → lacks_line_feed_of_size (Expect (10 ∷ []) (literal_state items n [])) ≡ true
lacks items zero = refl
lacks items (suc n) = refl

size_asks : (items : List Item) (n : ℕ) → n < 2 ^ 64 → AsksAtEnd (Between items) (literal_size n)
size_asks items n small =
    let p = size_pass items n small in
    record { front = size_front n; whole = size_is n; silent = p.silent; lacks = ap lacks_line_feed_of_size p.comes ∙ lacks items n }

line_feed_read : (items : List Item) (n : ℕ) → lex_from (Expect (10 ∷ []) (literal_state items n [])) (10 ∷ []) ≡ literal_state items n []
unfolding lex_from lex_step
line_feed_read items n = refl

after_size : (items : List Item) (n : ℕ) → n < 2 ^ 64 → lex_from (Between items) (literal_size n) ≡ literal_state items n []
after_size items n small =
    ap (lex_from (Between items)) (size_is n) ∙ place-append (Between items) (size_front n) (10 ∷ [])
    ∙ ap (λ (s : LexState). lex_from s (10 ∷ [])) (size_pass items n small).comes ∙ line_feed_read items n

-- a literal after its size
sent_literal : (items : List Item) (text : List ℕ) (pieces : List (List ℕ)) → length text < 2 ^ 64 → ((more : List Item) → AreSent (Between more) pieces) → AreSent (Between items) (literal_size (length text) ∷ onto_first text pieces)
sent_literal items text [] small sent =
    (size_asks items (length text) small, rw (after_size items (length text) small) (passes_onto _ _ text [] (octets_pass items [] text) (sent (items ++ Str text ∷ []))))
sent_literal items text (piece ∷ pieces) small sent =
    (size_asks items (length text) small, rw (after_size items (length text) small) (passes_onto _ _ text (piece ∷ pieces) (octets_pass items [] text) (sent (items ++ Str text ∷ []))))

-- ---- parts

-- words are passed between strings
abbrev pub PassWords : List ℕ → Type 0
PassWords words = (items : List Item) → (after : List Item) × Passes (Between items) words (Between after)

abbrev pub IsPassed : Part → Type 0
IsPassed (Words words) = PassWords words
IsPassed (Text text) = length text < 2 ^ 64
IsPassed (Literal text) = length text < 2 ^ 64

abbrev pub ArePassed : List Part → Type 0
ArePassed [] = Unit {0}
ArePassed (part ∷ parts) = IsPassed part × ArePassed parts

pub plain_words : (words : List ℕ) → list_all is_word words ≡ true → PassWords words
plain_words words all = λ items. (items_after items words, words_pass items words all)

line_end_sent : (items : List Item) → never (Between items) line_end ≡ true
unfolding never lex_step
line_end_sent items = refl

pub parts_sent : (parts : List Part) → ArePassed parts → (items : List Item) → AreSent (Between items) (pieces_of parts)
unfolding pieces_of
parts_sent [] passed items = line_end_sent items
parts_sent (Words words ∷ parts) passed items = let p = passed.0 items in passes_onto _ _ words (pieces_of parts) p.1 (parts_sent parts passed.1 p.0)
parts_sent (Text text ∷ parts) passed items =
    elim (cases_Bool (is_quotable text)) [
      | inl short ↦ rw short (passes_onto _ _ (quoted text) (pieces_of parts) (quoted_pass items text (and_parts _ _ short).1) (parts_sent parts passed.1 (items ++ Str text ∷ [])))
      | inr long ↦ rw long (sent_literal items text (pieces_of parts) passed.0 (parts_sent parts passed.1))
    ]
parts_sent (Literal text ∷ parts) passed items = sent_literal items text (pieces_of parts) passed.0 (parts_sent parts passed.1)
