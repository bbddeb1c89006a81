-- Runs of characters that a state keeps, and characters that are read again.
use Rattle.std.proofs.Common.{◌≡◌, ℕ, Bool, true, List, [], ◌∷◌, ◌++◌, map, refl, sym, ap, subst, ◌∙◌, append_assoc, append-nil}
use Rattle.std.proofs.lemmas.Bool.{and_parts}
use Rattle.std.proofs.lemmas.List.{map-append}
use Rattle.std.specs.List.{list_all}
use Rattle.html_syntax.specs.Token.{Token}
use Rattle.html_syntax.specs.Token.Token.{Char}
use Rattle.html_syntax.specs.States.{State, Action}
use Rattle.html_syntax.specs.States.Action.{SwitchTo, SwitchPast, ReconsumeIn}
use Rattle.html_syntax.specs.Tokenizer.{look, prepend_tokens, look_again, step, IsRead, read, next_state, emitted_tokens, skip_count, chars}
use Rattle.html_syntax.proofs.Looks.{three_looks}

-- ---- a character that is read again

abbrev stepped : List Token → Action → List ℕ → List Token
stepped out m text = out ++ (emitted_tokens m ++ read (next_state m) (skip_count m) text)

-- the two looks that are left, and three
looked : (out : List Token) (c : ℕ) (text : List ℕ) (m : Action) → IsRead (look_again c text (prepend_tokens out m))
    → emitted_tokens (look_again c text (prepend_tokens out m)) ++ read (next_state (look_again c text (prepend_tokens out m))) (skip_count (look_again c text (prepend_tokens out m))) text
    ≡ stepped out (look_again c text (look_again c text m)) text
unfolding look_again
looked out c text (SwitchTo s more) h = append_assoc out more (read s 0 text)
looked out c text (SwitchPast n s more) h = append_assoc out more (read s n text)
looked out c text (ReconsumeIn s more) h = last (look s c text) h
  where
    last : (m : Action) → IsRead (prepend_tokens (out ++ more) m)
        → emitted_tokens (prepend_tokens (out ++ more) m) ++ read (next_state (prepend_tokens (out ++ more) m)) (skip_count (prepend_tokens (out ++ more) m)) text ≡ stepped out (look_again c text (prepend_tokens more m)) text
    last (SwitchTo t end) g = append_assoc (out ++ more) end (read t 0 text) ∙ append_assoc out more (end ++ read t 0 text) ∙ ap (λ (l : List Token). out ++ l) (sym (append_assoc more end (read t 0 text)))
    last (SwitchPast n t end) g = append_assoc (out ++ more) end (read t n text) ∙ append_assoc out more (end ++ read t n text) ∙ ap (λ (l : List Token). out ++ l) (sym (append_assoc more end (read t n text)))
    last (ReconsumeIn t end) g = absurd g

read-cons : (s : State) (c : ℕ) (text : List ℕ) → read s 0 (c ∷ text) ≡ stepped [] (look_again c text (look_again c text (look s c text))) text
unfolding read step
read-cons s c text = refl

looks : (s : State) (c : ℕ) (text : List ℕ) → IsRead (look_again c text (look_again c text (look s c text)))
unfolding step
looks s c text = three_looks s c text

again_looked : (t : State) (out : List Token) (c : ℕ) (text : List ℕ) → look_again c text (ReconsumeIn t out) ≡ prepend_tokens out (look t c text)
unfolding look_again
again_looked t out c text = refl

-- A row that says to read the character again gives what it emits, and what the state that it names reads.
pub reconsumed : (s t : State) (out : List Token) (c : ℕ) (text : List ℕ) → look s c text ≡ ReconsumeIn t out → read s 0 (c ∷ text) ≡ out ++ read t 0 (c ∷ text)
reconsumed s t out c text e =
    let two : look_again c text (look s c text) ≡ prepend_tokens out (look t c text) = ap (look_again c text) e ∙ again_looked t out c text in
    let given : IsRead (look_again c text (prepend_tokens out (look t c text))) = subst (λ (m : Action). IsRead (look_again c text m)) two (looks s c text) in
    read-cons s c text ∙ ap (λ (m : Action). stepped [] (look_again c text m) text) two ∙ looked out c text (look t c text) given ∙ ap (λ (l : List Token). out ++ l) (sym (read-cons t c text))

-- ---- a run

-- The tokens of a text after the characters `kept`: `F kept passing text`.
abbrev pub Reader : Type 0
Reader = List ℕ → ℕ → List ℕ → List Token

-- a character that passes the test is kept, as `plain` has it
abbrev pub Keeps : Reader → (ℕ → Bool) → (ℕ → ℕ) → Type 0
Keeps F p plain = (kept : List ℕ) (c : ℕ) (text : List ℕ) → p c ≡ true → F kept 0 (c ∷ text) ≡ F (kept ++ plain c ∷ []) 0 text

pub run : (F : Reader) (p : ℕ → Bool) (plain : ℕ → ℕ) → Keeps F p plain → (kept cs more : List ℕ) → list_all p cs ≡ true → F kept 0 (cs ++ more) ≡ F (kept ++ map plain cs) 0 more
run F p plain keeps kept [] more h = ap (λ (l : List ℕ). F l 0 more) (sym (append-nil kept))
run F p plain keeps kept (c ∷ cs) more h =
    let parts = and_parts (p c) (list_all p cs) h in
    keeps kept c (cs ++ more) parts.0
    ∙ run F p plain keeps (kept ++ plain c ∷ []) cs more parts.1
    ∙ ap (λ (l : List ℕ). F l 0 more) (append_assoc kept (plain c ∷ []) (map plain cs))

-- the reader of a state that emits its characters
abbrev pub emits : State → Reader
emits s kept passing text = chars kept ++ read s passing text

chars-append : (a b : List ℕ) → chars (a ++ b) ≡ chars a ++ chars b
chars-append a b = map-append (λ c. Char c) a b

pub emits-more : (s : State) (kept more : List ℕ) (passing : ℕ) (text : List ℕ) → chars kept ++ (chars more ++ read s passing text) ≡ emits s (kept ++ more) passing text
emits-more s kept more passing text = sym (append_assoc (chars kept) (chars more) (read s passing text)) ∙ ap (λ (l : List Token). l ++ read s passing text) (sym (chars-append kept more))

-- A row that says to go on past some characters.
pub passed_over : (s t : State) (n : ℕ) (out : List Token) (c : ℕ) (text : List ℕ) → look s c text ≡ SwitchPast n t out → read s 0 (c ∷ text) ≡ out ++ read t n text
unfolding read step look_again
passed_over s t n out c text e = rw e refl
