-- Words with spaces between them.
use Rattle.std.proofs.Common.{◌≡◌, ℕ, ◌+◌, ◌-◌, ◌<◌, ◌≤◌, false, eqb, List, [], ◌∷◌, ◌++◌, length, take, drop, get_or, refl, sym, ap, ◌∙◌, arith, add-one}
use Rattle.std.specs.Borrow.{Bor}
use Rattle.std.proofs.lemmas.List.{take_more, length-drop, get_or-drop}
use Rattle.std.proofs.Math.Seq.{drop-cons}
use Rattle.imap_values.specs.Slices.{slices_of}
use Rattle.imap_values.specs.Words.{words_from, nonempty_word}

pub slices_of-push : (xs : List (Bor (List ℕ))) (x : Bor (List ℕ)) → slices_of (xs ++ x ∷ []) ≡ slices_of xs ++ x.now ∷ []
slices_of-push [] x = refl
slices_of-push (y ∷ xs) x = ap (λ (zs : List (List ℕ)). y.now ∷ zs) (slices_of-push xs x)

pub split_at_byte : (text : List ℕ) (i : ℕ) → i < length text → drop i text ≡ get_or text i 0 ∷ drop (i + 1) text
split_at_byte text i lt = rw (add-one, drop-cons text i 0) refl

-- a space ends the word
pub word_ends : (text word : List ℕ) (i : ℕ) → i < length text → get_or text i 0 ≡ 32 → words_from word (drop i text) ≡ nonempty_word word ++ words_from [] (drop (i + 1) text)
word_ends text word i lt e = ap (λ (xs : List ℕ). words_from word xs) (split_at_byte text i lt ∙ ap (λ (c : ℕ). c ∷ drop (i + 1) text) e)

goes : (word text : List ℕ) (c : ℕ) → eqb c 32 ≡ false → words_from word (c ∷ text) ≡ words_from (word ++ c ∷ []) text
goes word text c e = rw e refl

-- another byte extends the word
pub word_goes : (text : List ℕ) (from i : ℕ) → from ≤ i → i < length text → eqb (get_or text i 0) 32 ≡ false
    → words_from (take (i - from) (drop from text)) (drop i text) ≡ words_from (take (i + 1 - from) (drop from text)) (drop (i + 1) text)
word_goes text from i le lt e =
    let n : ℕ = i - from in
    let room : n < length (drop from text) = omega (arith, length-drop from text) in
    let at : from + n ≡ i = omega arith in
    let byte : get_or (drop from text) n 0 ≡ get_or text i 0 = get_or-drop from text n 0 ∙ ap (λ (k : ℕ). get_or text k 0) at in
    let longer : take (i + 1 - from) (drop from text) ≡ take n (drop from text) ++ get_or text i 0 ∷ [] =
    ap (λ (k : ℕ). take k (drop from text)) (let s : i + 1 - from ≡ n + 1 = omega arith in s) ∙ take_more (drop from text) n 0 room ∙ ap (λ (c : ℕ). take n (drop from text) ++ c ∷ []) byte in
    ap (λ (xs : List ℕ). words_from (take n (drop from text)) xs) (split_at_byte text i lt) ∙ goes (take n (drop from text)) (drop (i + 1) text) (get_or text i 0) e
    ∙ ap (λ (w : List ℕ). words_from w (drop (i + 1) text)) (sym longer)
