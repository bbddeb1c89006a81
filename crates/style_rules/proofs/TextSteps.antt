-- Steps through comments and bodies.
use Rattle.std.proofs.Common.{◌≡◌, ℕ, zero, suc, ◌+◌, ◌-◌, ◌<◌, ◌≤◌, ◌==◌, nat_eq, Bool, true, false, cond, not, ◌&&◌, List, [], ◌∷◌, ◌++◌, length, take, drop, get_or, Option, Some, None, refl, sym, ap, ◌∙◌, arith, append_assoc, inl, inr}
use Rattle.std.specs.Prelude.{codes, slice_range}
use Rattle.std.specs.Option.{option_map}
use Rattle.std.specs.List.{starts_with, before_first, list_any, onto_first, position_or_len, slice_split}
use Rattle.std.proofs.lemmas.List.{append-nil, drop_more, take_more, take_all, take_rest, drop-drop, nil_from_length, length-drop}
use Rattle.std.proofs.lemmas.Bool.Decides.{nat_tests}
use Rattle.std.proofs.lemmas.Bool.{cases_Bool, eqb-true}
use Rattle.style_wash.proofs.Facts.{and_true, or_false}
use Rattle.style_rules.specs.Blocks.{comment_len, comment_rest, spaced_after, spaced, is_left_brace, is_right_brace, block_with, body_len, depth_after, first_block}

-- ---- comments

abbrev pub ends_comment : List ℕ → Bool
ends_comment text = starts_with nat_eq text (codes "*/")

ends_here : (c : ℕ) (more : List ℕ) → ends_comment (c ∷ more) ≡ true → comment_rest (c ∷ more) ≡ 2
unfolding comment_rest
ends_here c more e = rw e refl

goes_on : (c : ℕ) (more : List ℕ) → ends_comment (c ∷ more) ≡ false → comment_rest (c ∷ more) ≡ comment_rest more + 1
unfolding comment_rest
goes_on c more e = rw e (omega arith)

nothing_left : comment_rest [] ≡ 0
unfolding comment_rest
nothing_left = refl

pub comment_ends : (text : List ℕ) (size : ℕ) → size < length text → ends_comment (drop size text) ≡ true → comment_rest (drop size text) ≡ 2
comment_ends text size lt e =
    let at = drop_more text size 0 lt in
    ap comment_rest at ∙ ends_here (get_or text size 0) (drop (size + 1) text) (ap ends_comment (sym at) ∙ e)

pub comment_goes_on : (text : List ℕ) (size : ℕ) → size < length text → ends_comment (drop size text) ≡ false → comment_rest (drop size text) ≡ comment_rest (drop (size + 1) text) + 1
comment_goes_on text size lt e =
    let at = drop_more text size 0 lt in
    ap comment_rest at ∙ goes_on (get_or text size 0) (drop (size + 1) text) (ap ends_comment (sym at) ∙ e)

pub comment_unclosed : (text : List ℕ) (size : ℕ) → length text ≤ size → comment_rest (drop size text) ≡ 0
comment_unclosed text size le = ap comment_rest (nil_from_length (drop size text) (omega (arith, length-drop size text))) ∙ nothing_left

spaced_skips : (skipped : ℕ) (text : List ℕ) → spaced_after skipped text ≡ spaced (drop skipped text)
unfolding spaced_after
spaced_skips zero text = refl
spaced_skips (suc skipped) [] = refl
spaced_skips (suc skipped) (c ∷ more) = spaced_skips skipped more

pub spaced-nil : spaced [] ≡ []
unfolding spaced_after
spaced-nil = refl

character : (c : ℕ) (more : List ℕ) → comment_len (c ∷ more) ≡ 0 → spaced (c ∷ more) ≡ c ∷ spaced more
unfolding spaced_after
character c more e = rw e refl

at_comment : (size less c : ℕ) (more : List ℕ) → comment_len (c ∷ more) ≡ size → (size == 0) ≡ false → size - 1 ≡ less → spaced (c ∷ more) ≡ 32 ∷ spaced_after less more
unfolding spaced_after
at_comment size less c more e some is = rw (e, some, is) refl

comment : (size c : ℕ) (more : List ℕ) → comment_len (c ∷ more) ≡ size → 0 < size → spaced (c ∷ more) ≡ 32 ∷ spaced (drop size (c ∷ more))
comment zero c more e lt = absurd (omega arith)
comment (suc size) c more e lt =
    at_comment (suc size) size c more e (grind (arith, nat_tests)) (omega arith) ∙ ap (λ (t : List ℕ). 32 ∷ t) (spaced_skips size more)

pub spaced_character : (text : List ℕ) (at : ℕ) → at < length text → comment_len (drop at text) ≡ 0 → spaced text ≡ take at text ++ spaced (drop at text)
    → spaced text ≡ take (at + 1) text ++ spaced (drop (at + 1) text)
spaced_character text at lt e is =
    let split = drop_more text at 0 lt in
    is ∙ ap (λ (t : List ℕ). take at text ++ t) (ap spaced split ∙ character (get_or text at 0) (drop (at + 1) text) (ap comment_len (sym split) ∙ e))
    ∙ sym (append_assoc (take at text) (get_or text at 0 ∷ []) (spaced (drop (at + 1) text)))
    ∙ ap (λ (t : List ℕ). t ++ spaced (drop (at + 1) text)) (sym (take_more text at 0 lt))

pub spaced_comment : (text : List ℕ) (at size : ℕ) → at < length text → comment_len (drop at text) ≡ size → 0 < size → spaced text ≡ take at text ++ spaced (drop at text)
    → spaced text ≡ take at text ++ 32 ∷ spaced (drop (at + size) text)
spaced_comment text at size lt e some is =
    let split = drop_more text at 0 lt in
    is ∙ ap (λ (t : List ℕ). take at text ++ t) (
    ap spaced split ∙ comment size (get_or text at 0) (drop (at + 1) text) (ap comment_len (sym split) ∙ e) some
    ∙ ap (λ (t : List ℕ). 32 ∷ spaced (drop size t)) (sym split) ∙ ap (λ (t : List ℕ). 32 ∷ spaced t) (drop-drop size at text))

pub spaced_ends : (text : List ℕ) (at : ℕ) → at ≡ length text → spaced text ≡ take at text ++ spaced (drop at text) → spaced text ≡ text
spaced_ends text at e is =
    is ∙ ap (λ (t : List ℕ). take at text ++ t) (ap spaced (nil_from_length (drop at text) (omega (arith, length-drop at text))) ∙ spaced-nil)
    ∙ append-nil (take at text) ∙ take_all at text (omega arith)

-- ---- where comments may be cut

front_is : (c d : ℕ) (more needle : List ℕ) → starts_with nat_eq (c ∷ more) (d ∷ needle) ≡ true → d ≡ c
front_is c d more needle e = eqb-true d c (and_true (d == c) _ e).0

pub comment_first : (c : ℕ) (more : List ℕ) → 0 < comment_len (c ∷ more) → c < 128
unfolding comment_len
comment_first c more lt = elim (cases_Bool (starts_with nat_eq (c ∷ more) (codes "/*"))) [
  | inl a ↦ let e = front_is c 47 more (codes "*") a in omega arith
  | inr not_a ↦ elim (cases_Bool (starts_with nat_eq (c ∷ more) (codes "<!--"))) [
    | inl a ↦ let e = front_is c 60 more (codes "!--") a in omega arith
    | inr not_b ↦ elim (cases_Bool (starts_with nat_eq (c ∷ more) (codes "-->"))) [
      | inl a ↦ let e = front_is c 45 more (codes "->") a in omega arith
      | inr not_c ↦ let none : 0 < 0 = rw not_a at (rw not_b at (rw not_c at lt)) in absurd (omega arith)
    ]
  ]
]

-- ---- bodies

closes_here : (depth c : ℕ) (more : List ℕ) → (is_right_brace c && (depth == 0)) ≡ true → body_len depth (c ∷ more) ≡ Some 0
unfolding body_len
closes_here depth c more e = rw e refl

body_more : (depth c : ℕ) (more : List ℕ) → (is_right_brace c && (depth == 0)) ≡ false → body_len depth (c ∷ more) ≡ option_map suc (body_len (depth_after depth c) more)
unfolding body_len
body_more depth c more e = rw e refl

no_body : (depth : ℕ) → body_len depth [] ≡ None
unfolding body_len
no_body depth = refl

pub body_closes : (text : List ℕ) (i depth : ℕ) → i < length text → (is_right_brace (get_or text i 0) && (depth == 0)) ≡ true
    → body_len 0 text ≡ option_map (λ n. i + n) (body_len depth (drop i text)) → Some i ≡ body_len 0 text
body_closes text i depth lt e is =
    let at = ap (body_len depth) (drop_more text i 0 lt) ∙ closes_here depth (get_or text i 0) (drop (i + 1) text) e in
    let zero : i ≡ i + 0 = omega arith in
    ap Some zero ∙ sym (is ∙ ap (option_map (λ n. i + n)) at)

shifted : (i : ℕ) (size : Option ℕ) → option_map (λ n. i + n) (option_map suc size) ≡ option_map (λ n. (i + 1) + n) size
shifted i None = refl
shifted i (Some size) = let e : i + suc size ≡ i + 1 + size = omega arith in ap Some e

pub body_goes_on : (text : List ℕ) (i depth : ℕ) → i < length text → (is_right_brace (get_or text i 0) && (depth == 0)) ≡ false
    → body_len 0 text ≡ option_map (λ n. i + n) (body_len depth (drop i text))
    → body_len 0 text ≡ option_map (λ n. (i + 1) + n) (body_len (depth_after depth (get_or text i 0)) (drop (i + 1) text))
body_goes_on text i depth lt e is =
    let at = ap (body_len depth) (drop_more text i 0 lt) ∙ body_more depth (get_or text i 0) (drop (i + 1) text) e in
    is ∙ ap (option_map (λ n. i + n)) at ∙ shifted i (body_len (depth_after depth (get_or text i 0)) (drop (i + 1) text))

pub body_unclosed : (text : List ℕ) (i depth : ℕ) → length text ≤ i → body_len 0 text ≡ option_map (λ n. i + n) (body_len depth (drop i text)) → None ≡ body_len 0 text
body_unclosed text i depth le is =
    sym (is ∙ ap (λ (t : List ℕ). option_map (λ n. i + n) (body_len depth t)) (nil_from_length (drop i text) (omega (arith, length-drop i text))) ∙ ap (option_map (λ n. i + n)) (no_body depth))

-- ---- blocks

pub no_left_brace : (text : List ℕ) (start : ℕ) → start ≡ position_or_len is_left_brace text → start ≡ length text → first_block text ≡ None
unfolding first_block
no_left_brace text start at all =
    let none : drop (position_or_len is_left_brace text + 1) text ≡ [] = nil_from_length _ (omega (arith, length-drop (position_or_len is_left_brace text + 1) text)) in
    ap (λ (t : List ℕ). block_with (before_first is_left_brace text) t (body_len 0 t)) none ∙ ap (block_with (before_first is_left_brace text) []) (no_body 0)

pub no_right_brace : (text : List ℕ) (start : ℕ) → start ≡ position_or_len is_left_brace text → body_len 0 (drop (start + 1) text) ≡ None → first_block text ≡ None
unfolding first_block
no_right_brace text start at none = rw (← at, none) refl

pub whole_block : (text : List ℕ) (start size : ℕ) → start ≡ position_or_len is_left_brace text → body_len 0 (drop (start + 1) text) ≡ Some size
    → first_block text ≡ Some (record { block = record { prelude = take start text; body = take size (drop (start + 1) text) }; rest = drop (size + 1) (drop (start + 1) text) })
unfolding first_block
whole_block text start size at some = rw (← at, some) refl

pub slice_front : (text : List ℕ) (n : ℕ) → slice_range text 0 n ≡ take n text
slice_front text n = let e : n - 0 ≡ n = omega arith in ap (λ (k : ℕ). take k text) e

pub spaced_pushed : (out more new front after rest whole : List ℕ) → more ≡ out ++ front → new ≡ more ++ 32 ∷ [] → spaced rest ≡ front ++ 32 ∷ spaced after
    → out ++ spaced rest ≡ whole → new ++ spaced after ≡ whole
spaced_pushed out more new front after rest whole pushed space split is =
    ap (λ (t : List ℕ). t ++ spaced after) (space ∙ ap (λ (t : List ℕ). t ++ 32 ∷ []) pushed)
    ∙ append_assoc (out ++ front) (32 ∷ []) (spaced after) ∙ append_assoc out front (32 ∷ spaced after)
    ∙ ap (λ (t : List ℕ). out ++ t) (sym split) ∙ is

-- ---- the first place

pub first_at : (p : ℕ → Bool) (xs : List ℕ) (i : ℕ) → i < length xs → list_any p (take i xs) ≡ false → p (get_or xs i 0) ≡ true → position_or_len p xs ≡ i
first_at p [] i lt none here = absurd (omega arith)
first_at p (x ∷ xs) zero lt none here = rw here refl
first_at p (x ∷ xs) (suc i) lt none here =
    let both = or_false (p x) (list_any p (take i xs)) none in
    rw (both.0, first_at p xs i (omega arith) both.1 here) (omega arith)

-- the pieces up to the last one
pub last_piece : (p : ℕ → Bool) (xs : List ℕ) → position_or_len p xs ≡ length xs → slice_split p xs ≡ xs ∷ []
last_piece p [] e = refl
last_piece p (x ∷ xs) e = elim (p x) as (λ b. cond (not b) (1 + position_or_len p xs) 0 ≡ length xs + 1 → cond b ([] ∷ slice_split p xs) (onto_first x (slice_split p xs)) ≡ (x ∷ xs) ∷ []) [
  | true ↦ λ h. absurd (omega arith)
  | false ↦ λ h. ap (onto_first x) (last_piece p xs (omega arith))
] (let size : length (x ∷ xs) ≡ length xs + 1 = omega arith in e ∙ size)

pub slice_at : (text : List ℕ) (start size : ℕ) → slice_range text start (start + size) ≡ take size (drop start text)
slice_at text start size = let e : start + size - start ≡ size = omega arith in ap (λ (k : ℕ). take k (drop start text)) e

-- the bytes of a text from a place on
pub bytes_from : (bytes text : List ℕ) (start : ℕ) → bytes ≡ text → take (length bytes - start) (drop start bytes) ≡ drop start text
bytes_from bytes text start e = ap (λ (b : List ℕ). take (length b - start) (drop start b)) e ∙ take_rest text start
