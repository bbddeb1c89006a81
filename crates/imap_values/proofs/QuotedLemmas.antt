-- A quoted string, byte by byte.
use Rattle.std.proofs.Common.{if◌then◌else◌, ◌&&◌, ◌==◌, ◌≡◌, ℕ, ◌+◌, ◌<◌, ◌≤◌, Bool, true, false, eqb, cond, not, List, [], ◌∷◌, ◌++◌, length, take, drop, get_or, refl, sym, ap, ◌∙◌, arith, append_assoc, Option, Some, None}
use Rattle.std.proofs.lemmas.List.{take_more, append-nil, length-drop, drop_all}
use Rattle.std.specs.List.{prefix_len}
use Rattle.imap_values.specs.Strings.{before_quote, prepend, prepend_all, unescape}
use Rattle.imap_values.specs.Words.{in_class, take_while_at}
use Rattle.imap_values.specs.declared.words.Class.TheVariants as classes
use Rattle.imap_values.proofs.WordLemmas.{split_at_byte}

-- the rest of a text after a `\`, or after another byte
abbrev pub unescape_on : Bool → List ℕ → List ℕ
unescape_on held [] = []
unescape_on held (c ∷ text) = if not held && c == 92 then unescape_on true text else c ∷ unescape_on false text

pub at_start : (o : Option (List ℕ × List ℕ)) → o ≡ prepend_all [] o
at_start None = refl
at_start (Some x) = refl

onto : (front : List ℕ) (c : ℕ) (q : Option (List ℕ × List ℕ)) → prepend_all front (prepend c q) ≡ prepend_all (front ++ c ∷ []) q
onto front c None = refl
onto front c (Some x) = ap (λ (xs : List ℕ). Some (xs, x.1)) (sym (append_assoc front (c ∷ []) x.0))

quote_ends : (rest : List ℕ) → before_quote (34 ∷ rest) ≡ Some ([], rest)
quote_ends [] = refl
quote_ends (d ∷ rest) = refl

pub ends_here : (bytes : List ℕ) (at : ℕ) → at < length bytes → get_or bytes at 0 ≡ 34 → before_quote bytes ≡ prepend_all (take at bytes) (before_quote (drop at bytes))
    → before_quote bytes ≡ Some (take at bytes, drop (at + 1) bytes)
ends_here bytes at lt e so =
    so ∙ ap (λ (xs : List ℕ). prepend_all (take at bytes) (before_quote xs)) (split_at_byte bytes at lt ∙ ap (λ (c : ℕ). c ∷ drop (at + 1) bytes) e)
    ∙ ap (λ (q : Option (List ℕ × List ℕ)). prepend_all (take at bytes) q) (quote_ends (drop (at + 1) bytes))
    ∙ ap (λ (xs : List ℕ). Some (xs, drop (at + 1) bytes)) (append-nil (take at bytes))

plain : (b : ℕ) (rest : List ℕ) → eqb b 34 ≡ false → eqb b 92 ≡ false → before_quote (b ∷ rest) ≡ prepend b (before_quote rest)
plain b [] e f = rw e refl
plain b (d ∷ rest) e f = rw (e, f) refl

pub one_more : (bytes : List ℕ) (at : ℕ) → at < length bytes → eqb (get_or bytes at 0) 34 ≡ false → eqb (get_or bytes at 0) 92 ≡ false
    → before_quote bytes ≡ prepend_all (take at bytes) (before_quote (drop at bytes)) → before_quote bytes ≡ prepend_all (take (at + 1) bytes) (before_quote (drop (at + 1) bytes))
one_more bytes at lt e f so =
    let b : ℕ = get_or bytes at 0 in
    so ∙ ap (λ (xs : List ℕ). prepend_all (take at bytes) (before_quote xs)) (split_at_byte bytes at lt) ∙ ap (λ (q : Option (List ℕ × List ℕ)). prepend_all (take at bytes) q) (plain b (drop (at + 1) bytes) e f)
    ∙ onto (take at bytes) b (before_quote (drop (at + 1) bytes)) ∙ ap (λ (xs : List ℕ). prepend_all xs (before_quote (drop (at + 1) bytes))) (sym (take_more bytes at 0 lt))

pub two_more : (bytes : List ℕ) (at : ℕ) → at + 1 < length bytes → get_or bytes at 0 ≡ 92
    → before_quote bytes ≡ prepend_all (take at bytes) (before_quote (drop at bytes)) → before_quote bytes ≡ prepend_all (take (at + 1 + 1) bytes) (before_quote (drop (at + 1 + 1) bytes))
two_more bytes at lt e so =
    let d : ℕ = get_or bytes (at + 1) 0 in
    let first : at < length bytes = omega arith in
    let back : drop at bytes ≡ 92 ∷ d ∷ drop (at + 1 + 1) bytes = split_at_byte bytes at first ∙ ap (λ (c : ℕ). c ∷ drop (at + 1) bytes) e ∙ ap (λ (xs : List ℕ). 92 ∷ xs) (split_at_byte bytes (at + 1) lt) in
    let front : take (at + 1 + 1) bytes ≡ (take at bytes ++ 92 ∷ []) ++ d ∷ [] = take_more bytes (at + 1) 0 lt ∙ ap (λ (xs : List ℕ). xs ++ d ∷ []) (take_more bytes at 0 first ∙ ap (λ (c : ℕ). take at bytes ++ c ∷ []) e) in
    let rest : Option (List ℕ × List ℕ) = before_quote (drop (at + 1 + 1) bytes) in
    so ∙ ap (λ (xs : List ℕ). prepend_all (take at bytes) (before_quote xs)) back ∙ onto (take at bytes) 92 (prepend d rest) ∙ onto (take at bytes ++ 92 ∷ []) d rest
    ∙ ap (λ (xs : List ℕ). prepend_all xs rest) (sym front)

-- a lone `\` at the end
pub cut_escape : (bytes : List ℕ) (at : ℕ) → at + 1 ≡ length bytes → get_or bytes at 0 ≡ 92
    → before_quote bytes ≡ prepend_all (take at bytes) (before_quote (drop at bytes)) → before_quote bytes ≡ None
cut_escape bytes at last e so =
    let first : at < length bytes = omega arith in
    let back : drop at bytes ≡ 92 ∷ drop (at + 1) bytes = split_at_byte bytes at first ∙ ap (λ (c : ℕ). c ∷ drop (at + 1) bytes) e in
    let nothing : drop (at + 1) bytes ≡ [] = drop_all (at + 1) bytes (omega arith) in
    so ∙ ap (λ (xs : List ℕ). prepend_all (take at bytes) (before_quote xs)) (back ∙ ap (λ (xs : List ℕ). 92 ∷ xs) nothing)

-- ---- removed escapes

pub unescape_whole : (text : List ℕ) → unescape_on false text ≡ unescape text
unescape_whole [] = refl
unescape_whole (c ∷ []) = elim (eqb c 92) as (λ b. (cond b (unescape_on true []) (c ∷ [])) ≡ cond b [] (c ∷ [])) [ true ↦ refl | false ↦ refl ]
unescape_whole (c ∷ d ∷ text) = elim (eqb c 92) as (λ b. cond b (d ∷ unescape_on false text) (c ∷ unescape_on false (d ∷ text)) ≡ cond b (d ∷ unescape text) (c ∷ unescape (d ∷ text))) [
  | true ↦ ap (λ (xs : List ℕ). d ∷ xs) (unescape_whole text)
  | false ↦ ap (λ (xs : List ℕ). c ∷ xs) (unescape_whole (d ∷ text))
]

stays : (c : ℕ) (text : List ℕ) → eqb c 92 ≡ false → unescape (c ∷ text) ≡ c ∷ unescape text
stays c [] e = rw e refl
stays c (d ∷ text) e = rw e refl

passing : (c : ℕ) (text : List ℕ) (b : Bool) → eqb c 92 ≡ b → length (c ∷ text) ≤ cond (not b) (1 + prefix_len (in_class classes.Unescaped) text) 0
    → (length text ≤ prefix_len (in_class classes.Unescaped) text → unescape text ≡ text) → unescape (c ∷ text) ≡ c ∷ text
passing c text true e le more = absurd (omega arith)
passing c text false e le more = stays c text e ∙ ap (λ (xs : List ℕ). c ∷ xs) (more (omega arith))

passes : (text : List ℕ) → length text ≤ prefix_len (in_class classes.Unescaped) text → unescape text ≡ text
passes [] le = refl
passes (c ∷ text) le = passing c text (eqb c 92) refl le (passes text)

pub no_escapes : (text : List ℕ) → length (take_while_at classes.Unescaped text).1 ≡ 0 → unescape text ≡ text
no_escapes text e = passes text (omega (arith, e, length-drop (prefix_len (in_class classes.Unescaped) text) text))
