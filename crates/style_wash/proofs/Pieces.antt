-- A style, cut into pieces and made of declarations step by step.
use Rattle.std.proofs.Common.{◌≡◌, ◌≤◌, ◌<◌, ◌+◌, ℕ, zero, suc, ◌||◌, unwrap_or, true, false, cond, List, [], ◌∷◌, ◌++◌, length, take, drop, get_or, Option, Some, None, refl, sym, ap, ◌∙◌, arith, append_assoc, drop-cons, add-one, length-append}
use Rattle.std.specs.Prelude.{codes}
use Rattle.memchr.specs.Find.{IsFirstByte, is_byte3}
use Rattle.std.proofs.Math.Bool.{or_assoc}
use Rattle.std.proofs.lemmas.Bool.{false_from_ne_true}
use Rattle.std.specs.List.{slice_index, filter_map, flat_map, onto_first, cons_option}
use Rattle.std.proofs.Math.Seq.{take-suc}
use Rattle.std.proofs.lemmas.List.{append-nil, nil_from_length, length-drop, take_all}
use Rattle.style_wash.specs.Cuts.{with_declaration, IsPlainBefore}
use Rattle.style_wash.specs.Characters.{is_quote}
use Rattle.style_wash.specs.Declarations.{Declaration, declaration_of, declarations, is_piece_end, pieces, style_of, stylewash, written}
use Rattle.style_wash.specs.Values.{Nesting, nesting_after, written_value}
use Rattle.style_wash.specs.Values.Nesting.{Outside}
use Rattle.style_wash.proofs.Facts.{or_false}

-- a text before the first of pieces
abbrev pub front_onto : List ℕ → List (List ℕ) → List (List ℕ)
front_onto xs [] = xs ∷ []
front_onto xs (piece ∷ more) = (xs ++ piece) ∷ more

front_onto-onto_first : (xs : List ℕ) (c : ℕ) (ps : List (List ℕ)) → front_onto xs (onto_first c ps) ≡ front_onto (xs ++ c ∷ []) ps
front_onto-onto_first xs c [] = refl
front_onto-onto_first xs c (piece ∷ more) = ap (λ (p : List ℕ). p ∷ more) (sym (append_assoc xs (c ∷ []) piece))

pub pieces-within : (place : Nesting) (c : ℕ) (more : List ℕ) → is_piece_end place c ≡ false
    → pieces place (c ∷ more) ≡ onto_first c (pieces (nesting_after false place c) more)
unfolding pieces
pieces-within place c more e = rw e refl

pub pieces-end : (place : Nesting) (c : ℕ) (more : List ℕ) → is_piece_end place c ≡ true → pieces place (c ∷ more) ≡ [] ∷ pieces Outside more
unfolding pieces
pieces-end place c more e = rw e refl

pub pieces-nil : (place : Nesting) → pieces place [] ≡ [] ∷ []
unfolding pieces
pieces-nil place = refl

front_onto-nil_first : (c : ℕ) (ps : List (List ℕ)) → front_onto [] (onto_first c ps) ≡ onto_first c ps
front_onto-nil_first c [] = refl
front_onto-nil_first c (piece ∷ more) = refl

pub front_onto-begun : (text : List ℕ) → front_onto [] (pieces Outside text) ≡ pieces Outside text
unfolding pieces
front_onto-begun [] = refl
front_onto-begun (c ∷ more) =
    elim (is_piece_end Outside c) as (λ v. front_onto [] (cond v ([] ∷ pieces Outside more) (onto_first c (pieces (nesting_after false Outside c) more))) ≡ cond v ([] ∷ pieces Outside more) (onto_first c (pieces (nesting_after false Outside c) more)))
    [ true ↦ refl | false ↦ front_onto-nil_first c (pieces (nesting_after false Outside c) more) ]

pub piece_goes_on : (place : Nesting) (text : List ℕ) (end : ℕ) → end < length text → is_piece_end place (get_or text end 0) ≡ false
    → front_onto (take end text) (pieces place (drop end text))
    ≡ front_onto (take (end + 1) text) (pieces (nesting_after false place (get_or text end 0)) (drop (end + 1) text))
piece_goes_on place text end lt e =
    let c = get_or text end 0 in
    rw (add-one, drop-cons text end 0, take-suc text end 0)
    (ap (front_onto (take end text)) (pieces-within place c (drop (suc end) text) e)
    ∙ front_onto-onto_first (take end text) c (pieces (nesting_after false place c) (drop (suc end) text)))

outside_still : (c : ℕ) → (is_piece_end Outside c || is_quote c) ≡ false → nesting_after false Outside c ≡ Outside
outside_still c e = rw (or_false (is_piece_end Outside c) (is_quote c) e).1 refl

pub plain_front : (text : List ℕ) (n : ℕ) → n ≤ length text → IsPlainBefore n text
    → front_onto (take n text) (pieces Outside (drop n text)) ≡ pieces Outside text
plain_front text zero le plain = front_onto-begun text
plain_front text (suc n) le plain =
    let c = get_or text n 0 in
    let quiet = plain n (omega arith) in
    rw (sym (add-one n)) (sym (piece_goes_on Outside text n (omega arith) (or_false (is_piece_end Outside c) (is_quote c) quiet).0
    ∙ ap (λ (p : Nesting). front_onto (take (n + 1) text) (pieces p (drop (n + 1) text))) (outside_still c quiet))
    ∙ plain_front text n (omega arith) (λ k lt. plain k (omega arith)))

quiet_byte : (text : List ℕ) (k : ℕ) → (is_byte3 59 39 34 (slice_index text k) ≡ true → ⊥) → (is_piece_end Outside (slice_index text k) || is_quote (slice_index text k)) ≡ false
quiet_byte text k none = false_from_ne_true _ (λ e. none (or_assoc (is_piece_end Outside (slice_index text k)) _ _ ∙ e))

-- none of the bytes before the first `;` or quote is one
pub plain_before : (text : List ℕ) (found : Option ℕ) (n : ℕ) → IsFirstByte (is_byte3 59 39 34) text found → n ≡ unwrap_or found (length text)
    → (n ≤ length text) × IsPlainBefore n text
plain_before text None n none e = rw e (omega arith, λ k lt. quiet_byte text k (none k (omega arith) lt))
plain_before text (Some at) n first e = rw e (omega (arith, first.0.high), λ k lt. quiet_byte text k (first.0.before k (omega arith) lt))

pub last_piece : (place : Nesting) (text : List ℕ) (end : ℕ) → end ≡ length text
    → front_onto (take end text) (pieces place (drop end text)) ≡ pieces Outside text → pieces Outside text ≡ text ∷ []
last_piece place text end at is =
    let none : drop end text ≡ [] = nil_from_length (drop end text) (omega (arith, length-drop end text)) in
    sym is ∙ ap (λ (xs : List ℕ). front_onto (take end text) (pieces place xs)) none ∙ ap (front_onto (take end text)) (pieces-nil place)
    ∙ ap (λ (xs : List ℕ). xs ∷ []) (append-nil (take end text) ∙ take_all end text (omega arith))

pub first_piece : (place : Nesting) (text : List ℕ) (end : ℕ) → end < length text → is_piece_end place (get_or text end 0) ≡ true
    → front_onto (take end text) (pieces place (drop end text)) ≡ pieces Outside text
    → pieces Outside text ≡ take end text ∷ pieces Outside (drop (end + 1) text)
first_piece place text end lt e is =
    let c = get_or text end 0 in
    sym is ∙ rw (add-one, drop-cons text end 0) (ap (front_onto (take end text)) (pieces-end place c (drop (suc end) text) e)
    ∙ ap (λ (xs : List ℕ). xs ∷ pieces Outside (drop (suc end) text)) (append-nil (take end text)))

-- ---- styles

-- a style with more declarations
abbrev pub style_onto : List ℕ → List Declaration → List ℕ
style_onto style [] = style
style_onto style (next ∷ more) = style_onto (with_declaration style (Some next)) more

pub style_onto-piece : (style piece : List ℕ) (more : List (List ℕ))
    → style_onto style (filter_map declaration_of (piece ∷ more)) ≡ style_onto (with_declaration style (declaration_of piece)) (filter_map declaration_of more)
style_onto-piece style piece more =
    elim (declaration_of piece) as (λ (d : Option Declaration). style_onto style (cons_option d (filter_map declaration_of more)) ≡ style_onto (with_declaration style d) (filter_map declaration_of more))
    [ None ↦ refl | Some d ↦ refl ]

-- what is written after a style that has declarations
abbrev after_others : Declaration → List ℕ
after_others d = codes "; " ++ written d

with_declaration-more : (c : ℕ) (style : List ℕ) (d : Declaration) → with_declaration (c ∷ style) (Some d) ≡ (c ∷ style) ++ after_others d
unfolding written
with_declaration-more c style d = simp append_assoc

style_onto-more : (c : ℕ) (style : List ℕ) (all : List Declaration) → style_onto (c ∷ style) all ≡ (c ∷ style) ++ flat_map after_others all
style_onto-more c style [] = sym (append-nil (c ∷ style))
style_onto-more c style (next ∷ more) =
    ap (λ (xs : List ℕ). style_onto xs more) (with_declaration-more c style next)
    ∙ style_onto-more c (style ++ after_others next) more
    ∙ append_assoc (c ∷ style) (after_others next) (flat_map after_others more)

style_onto-some : (style : List ℕ) (all : List Declaration) → 0 < length style → style_onto style all ≡ style ++ flat_map after_others all
style_onto-some [] all some = absurd (omega arith)
style_onto-some (c ∷ style) all some = style_onto-more c style all

with_declaration-first : (d : Declaration) → with_declaration [] (Some d) ≡ written d
unfolding written
with_declaration-first d = refl

length-written : (d : Declaration) → 0 < length (written d)
unfolding written
length-written d = omega (arith, length-append (d.property ++ codes ": ") (written_value d.value), length-append d.property (codes ": "))

pub style_onto-nil : (all : List Declaration) → style_onto [] all ≡ style_of all
unfolding style_of
style_onto-nil [] = refl
style_onto-nil (next ∷ more) =
    ap (λ (xs : List ℕ). style_onto xs more) (with_declaration-first next) ∙ style_onto-some (written next) more (length-written next)

pub washed_begins : (text : List ℕ) → style_onto [] (filter_map declaration_of (pieces Outside text)) ≡ stylewash text
unfolding stylewash declarations
washed_begins text = style_onto-nil (filter_map declaration_of (pieces Outside text))
