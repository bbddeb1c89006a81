-- A run that goes from one mark to the next: a byte that may end it, and mostly does not.
use Rattle.std.proofs.Common.{◌≡◌, ◌≢◌, ℕ, suc, ◌+◌, ◌<◌, List, [], ◌∷◌, ◌++◌, length, take, drop, refl, sym, ap, subst, ◌∙◌, append_assoc, arith, IsUtf8, IsCharBoundary, get_or}
use Rattle.std.proofs.lemmas.List.{take-append-drop, drop_more, drop-drop}
use Rattle.std.proofs.Math.Seq.{take-add}
use Rattle.std.proofs.lemmas.Str.{IsUtf8-take, IsUtf8-drop, IsCharBoundary-after_ascii, IsCharBoundary-from_rest}
use Rattle.html_syntax.specs.Token.{Token}
use Rattle.html_references.specs.Input.{input}
use Rattle.html_tokens.specs.Cuts.{LacksByte, BeginsWithByte}
use Rattle.html_tokens.proofs.Runs.{Reader}
use Rattle.html_references.proofs.Stretches.{input-cons, input-append, IsMarked}

-- The reader `F` keeps of a stretch what `held` says, also of a mark that `Goes` says to be of the run.
pub record Marks (F : Reader) (mark : ℕ) (held : List ℕ → List ℕ) (Goes : List ℕ → Type 0) : Type 0 where
  pub small : mark < 128
  pub no_feed : mark ≢ 10
  pub no_return : mark ≢ 13
  pub piece : (kept xs ys : List ℕ) → IsUtf8 xs → LacksByte mark xs → BeginsWithByte mark ys → F kept 0 (input (xs ++ ys)) ≡ F (kept ++ held (input xs)) 0 (input ys)
  pub here : (kept tail : List ℕ) → IsUtf8 tail → Goes (mark ∷ tail) → F kept 0 (input (mark ∷ tail)) ≡ F (kept ++ mark ∷ []) 0 (input tail)
  pub joins : (xs ys : List ℕ) → held (xs ++ mark ∷ ys) ≡ held xs ++ mark ∷ held ys

pub begins_marked : (mark : ℕ) → mark < 128 → mark ≢ 10 → (text : List ℕ) → BeginsWithByte mark text → IsMarked text
begins_marked mark small no_feed [] h = tt
begins_marked mark small no_feed (b ∷ text) h = (omega (arith, h), λ (e : b ≡ 10). no_feed (sym h ∙ e))

pub begins_with : (mark : ℕ) (rest : List ℕ) (at : ℕ) → at < length rest → BeginsWithByte mark (drop at rest) → drop at rest ≡ mark ∷ drop (at + 1) rest
begins_with mark rest at lt begins =
    let e = drop_more rest at 0 lt in
    e ∙ ap (λ (b : ℕ). b ∷ drop (at + 1) rest) (subst (BeginsWithByte mark) e begins)

pub past_mark : (mark : ℕ) → mark < 128 → (rest : List ℕ) (at : ℕ) → IsUtf8 rest → at < length rest → BeginsWithByte mark (drop at rest) → IsCharBoundary rest (at + 1)
past_mark mark small rest at utf8 lt begins =
    IsCharBoundary-after_ascii rest at utf8 lt (omega (arith, small, ap (λ (l : List ℕ). get_or l 0 0) (sym (drop_more rest at 0 lt) ∙ begins_with mark rest at lt begins)))

-- The text that is kept up to a mark or to the end of the text.
abbrev pub Kept : Reader → ℕ → (List ℕ → List ℕ) → List Token → List ℕ → ℕ → Type 0
Kept F mark held all rest at = IsCharBoundary rest at × BeginsWithByte mark (drop at rest) × (all ≡ F (held (input (take at rest))) 0 (input (drop at rest)))

pub kept_first : (F : Reader) (mark : ℕ) (held : List ℕ → List ℕ) (Goes : List ℕ → Type 0) → Marks F mark held Goes → (rest : List ℕ) (n : ℕ) → IsUtf8 rest
    → IsCharBoundary rest n → LacksByte mark (take n rest) → BeginsWithByte mark (drop n rest) → Kept F mark held (F [] 0 (input rest)) rest n
kept_first F mark held Goes m rest n utf8 cut lacks begins = (
  cut,
  begins,
  ap (λ (l : List ℕ). F [] 0 (input l)) (sym (take-append-drop n rest)) ∙ m.piece [] (take n rest) (drop n rest) (IsUtf8-take rest n utf8 cut) lacks begins,
)

kept_more : (F : Reader) (mark : ℕ) (held : List ℕ → List ℕ) (Goes : List ℕ → Type 0) → Marks F mark held Goes → (all : List Token) (xs ys zs : List ℕ)
    → IsUtf8 xs → IsUtf8 ys → IsUtf8 (ys ++ zs) → LacksByte mark ys → BeginsWithByte mark zs → Goes (mark ∷ (ys ++ zs))
    → all ≡ F (held (input xs)) 0 (input (mark ∷ (ys ++ zs))) → all ≡ F (held (input (xs ++ mark ∷ ys))) 0 (input zs)
kept_more F mark held Goes m all xs ys zs xs_utf8 ys_utf8 utf8 lacks begins goes before =
    let parts : held (input (xs ++ mark ∷ ys)) ≡ held (input xs) ++ mark ∷ held (input ys) =
    ap held (input-append xs (mark ∷ ys) xs_utf8 (begins_marked mark m.small m.no_feed (mark ∷ ys) refl) ∙ ap (λ (l : List ℕ). input xs ++ l) (input-cons mark ys m.small m.no_return))
    ∙ m.joins (input xs) (input ys) in
    before
    ∙ m.here (held (input xs)) (ys ++ zs) utf8 goes
    ∙ m.piece (held (input xs) ++ mark ∷ []) ys zs ys_utf8 lacks begins
    ∙ ap (λ (l : List ℕ). F l 0 (input zs)) (append_assoc (held (input xs)) (mark ∷ []) (held (input ys)) ∙ sym parts)

pub kept_next : (F : Reader) (mark : ℕ) (held : List ℕ → List ℕ) (Goes : List ℕ → Type 0) → Marks F mark held Goes → (all : List Token) (rest : List ℕ) (at n : ℕ)
    → IsUtf8 rest → at < length rest → Goes (drop at rest) → IsCharBoundary (drop (at + 1) rest) n → LacksByte mark (take n (drop (at + 1) rest))
    → BeginsWithByte mark (drop n (drop (at + 1) rest)) → Kept F mark held all rest at → Kept F mark held all rest (at + (1 + n))
kept_next F mark held Goes m all rest at n utf8 lt goes cut lacks begins before =
    let tail = drop (at + 1) rest in
    let one : 1 + n ≡ suc n = omega arith in
    let places : (at + 1) + n ≡ at + (1 + n) = omega arith in
    let here = begins_with mark rest at lt before.1 in
    let tail_utf8 : IsUtf8 tail = IsUtf8-drop rest (at + 1) utf8 (past_mark mark m.small rest at utf8 lt before.1) in
    let whole : take n tail ++ drop n tail ≡ tail = take-append-drop n tail in
    let opened : mark ∷ (take n tail ++ drop n tail) ≡ drop at rest = ap (λ (l : List ℕ). mark ∷ l) whole ∙ sym here in
    let front : take (at + (1 + n)) rest ≡ take at rest ++ mark ∷ take n tail =
    take-add at (1 + n) rest ∙ ap (λ (l : List ℕ). take at rest ++ take (1 + n) l) here ∙ ap (λ (k : ℕ). take at rest ++ take k (mark ∷ tail)) one in
    let back : drop n tail ≡ drop (at + (1 + n)) rest = drop-drop n (at + 1) rest ∙ ap (λ (k : ℕ). drop k rest) places in (
      subst (IsCharBoundary rest) places (IsCharBoundary-from_rest rest (at + 1) n (omega arith) cut),
      subst (BeginsWithByte mark) back begins,
      kept_more F mark held Goes m all (take at rest) (take n tail) (drop n tail) (IsUtf8-take rest at utf8 before.0) (IsUtf8-take tail n tail_utf8 cut) (subst IsUtf8 (sym whole) tail_utf8)
          lacks begins (subst Goes (sym opened) goes) (before.2 ∙ ap (λ (l : List ℕ). F (held (input (take at rest))) 0 (input l)) (sym opened))
          ∙ ap (λ (l : List ℕ). F (held (input l)) 0 (input (drop n tail))) (sym front)
          ∙ ap (λ (l : List ℕ). F (held (input (take (at + (1 + n)) rest))) 0 (input l)) back,
    )
