-- Values, cut into texts and gaps step by step.
use Rattle.std.proofs.Common.{◌≡◌, ◌<◌, ◌≤◌, ◌+◌, ℕ, suc, true, false, List, [], ◌∷◌, ◌++◌, length, take, drop, get_or, Option, Some, None, length-append, refl, sym, ap, ◌∙◌, arith, append_assoc, drop-cons, add-one}
use Rattle.std.proofs.Math.Seq.{take-suc}
use Rattle.std.proofs.lemmas.List.{append-nil, nil_from_length, length-drop, take-append-le, take_all}
use Rattle.style_wash.specs.Characters.{is_separator}
use Rattle.style_wash.specs.Items.{Item, item_of, written_item}
use Rattle.style_wash.specs.Values.{Nesting, Parts, Gapped, Separator, Step, parts, with_gap, is_item_end, nesting_after, separator_of, step_onto, steps_of, value_in, value_onto, written_separator}
use Rattle.style_wash.specs.Values.Nesting.{Outside, Until}
use Rattle.style_wash.specs.Cuts.{IsTextAndRest, BeginsWith, IsGapAndRest, begins_gap, written_onto}

-- parts with characters of a text, or of a gap, at their front
abbrev pub text_onto : List ℕ → Parts → Parts
text_onto xs ps = record { first = xs ++ ps.first; more = ps.more }

abbrev pub gap_onto : List ℕ → List ℕ → List Gapped → Parts
gap_onto xs [] [] = record { first = []; more = record { gap = xs; text = [] } ∷ [] }
gap_onto xs [] (next ∷ more) = record { first = []; more = record { gap = xs ++ next.gap; text = next.text } ∷ more }
gap_onto xs (d ∷ text) more = record { first = []; more = record { gap = xs; text = d ∷ text } ∷ more }

pub parts-text : (place : Nesting) (c : ℕ) (more : List ℕ) → is_item_end place c ≡ false
    → parts place (c ∷ more) ≡ record { first = c ∷ (parts (nesting_after true place c) more).first; more = (parts (nesting_after true place c) more).more }
unfolding parts
parts-text place c more e = rw e refl

pub parts-gap : (c : ℕ) (more : List ℕ) → is_separator c ≡ true
    → parts Outside (c ∷ more) ≡ with_gap c (parts Outside more).first (parts Outside more).more
unfolding parts
parts-gap c more e = rw e refl

pub parts-nil : (place : Nesting) → parts place [] ≡ record { first = []; more = [] }
unfolding parts
parts-nil place = refl

-- ---- texts

text_onto-cons : (xs : List ℕ) (c : ℕ) (ps : Parts)
    → text_onto xs (record { first = c ∷ ps.first; more = ps.more }) ≡ text_onto (xs ++ c ∷ []) ps
text_onto-cons xs c ps = ap (λ (first : List ℕ). let p : Parts = record { first = first; more = ps.more } in p) (sym (append_assoc xs (c ∷ []) ps.first))

pub text_goes_on : (place : Nesting) (value : List ℕ) (end : ℕ) → end < length value → is_item_end place (get_or value end 0) ≡ false
    → text_onto (take end value) (parts place (drop end value))
    ≡ text_onto (take (end + 1) value) (parts (nesting_after true place (get_or value end 0)) (drop (end + 1) value))
text_goes_on place value end lt e =
    let c = get_or value end 0 in
    rw (add-one, drop-cons value end 0, take-suc value end 0)
    (ap (text_onto (take end value)) (parts-text place c (drop (suc end) value) e)
    ∙ text_onto-cons (take end value) c (parts (nesting_after true place c) (drop (suc end) value)))

with_gap-first : (c : ℕ) (first : List ℕ) (more : List Gapped) → (with_gap c first more).first ≡ []
with_gap-first c [] [] = refl
with_gap-first c [] (next ∷ more) = refl
with_gap-first c (d ∷ text) more = refl

-- at a separator outside the parts begin with a gap
at_gap : (place : Nesting) (c : ℕ) (more : List ℕ) → is_item_end place c ≡ true
    → (parts place (c ∷ more) ≡ parts Outside (c ∷ more)) × ((parts Outside (c ∷ more)).first ≡ []) × (is_separator c ≡ true)
at_gap Outside c more e = (refl, rw (parts-gap c more e) (with_gap-first c (parts Outside more).first (parts Outside more).more), e)
at_gap (Until end) c more e = cc

text_onto-none : (xs : List ℕ) (ps : Parts) → ps.first ≡ [] → text_onto xs ps ≡ record { first = xs; more = ps.more }
text_onto-none xs ps e =
    ap (λ (first : List ℕ). let p : Parts = record { first = xs ++ first; more = ps.more } in p) e
    ∙ ap (λ (first : List ℕ). let p : Parts = record { first = first; more = ps.more } in p) (append-nil xs)

pub text_at_end : (place : Nesting) (value : List ℕ) (end : ℕ) → end ≤ length value → length value ≤ end
    → text_onto (take end value) (parts place (drop end value)) ≡ parts Outside value
    → IsTextAndRest value (take end value) (drop end value)
text_at_end place value end le ge is =
    let none : drop end value ≡ [] = nil_from_length (drop end value) (omega (arith, length-drop end value)) in
    let first : (parts place (drop end value)).first ≡ [] = rw (none, parts-nil place) refl in
    let same : (parts place (drop end value)).more ≡ (parts Outside (drop end value)).more = rw (none, parts-nil place, parts-nil Outside) refl in
    record {
      parts_are = sym is ∙ text_onto-none (take end value) (parts place (drop end value)) first
          ∙ ap (λ (more : List Gapped). let p : Parts = record { first = take end value; more = more } in p) same;
      gap = rw none refl;
      bound = omega (arith, length-drop end value);
    }

pub text_at_gap : (place : Nesting) (value : List ℕ) (end : ℕ) → end < length value → is_item_end place (get_or value end 0) ≡ true
    → text_onto (take end value) (parts place (drop end value)) ≡ parts Outside value
    → IsTextAndRest value (take end value) (drop end value)
text_at_gap place value end lt e is =
    let c = get_or value end 0 in
    let rest : drop end value ≡ c ∷ drop (suc end) value = drop-cons value end 0 lt in
    let at = at_gap place c (drop (suc end) value) e in
    let same : parts place (drop end value) ≡ parts Outside (drop end value) = rw rest at.0 in
    let first : (parts Outside (drop end value)).first ≡ [] = rw rest at.1 in
    record {
      parts_are = sym is ∙ ap (text_onto (take end value)) same ∙ text_onto-none (take end value) (parts Outside (drop end value)) first;
      gap = rw rest at.2;
      bound = omega (arith, length-drop end value);
    }

-- ---- gaps

gap_onto-with : (xs : List ℕ) (c : ℕ) (first : List ℕ) (more : List Gapped)
    → gap_onto xs (with_gap c first more).first (with_gap c first more).more ≡ gap_onto (xs ++ c ∷ []) first more
gap_onto-with xs c [] [] = refl
gap_onto-with xs c [] (next ∷ more) =
    ap (λ (gap : List ℕ). let p : Parts = record { first = []; more = record { gap = gap; text = next.text } ∷ more } in p) (sym (append_assoc xs (c ∷ []) next.gap))
gap_onto-with xs c (d ∷ text) more = refl

gap_onto-begun : (c : ℕ) (first : List ℕ) (more : List Gapped) → gap_onto (c ∷ []) first more ≡ with_gap c first more
gap_onto-begun c [] [] = refl
gap_onto-begun c [] (next ∷ more) = refl
gap_onto-begun c (d ∷ text) more = refl

pub gap_begins : (text : List ℕ) → 0 < length text → begins_gap text ≡ true
    → gap_onto (take 1 text) (parts Outside (drop 1 text)).first (parts Outside (drop 1 text)).more ≡ parts Outside text
gap_begins [] lt e = absurd (omega arith)
gap_begins (c ∷ more) lt e = gap_onto-begun c (parts Outside more).first (parts Outside more).more ∙ sym (parts-gap c more e)

pub gap_goes_on : (text : List ℕ) (end : ℕ) → end < length text → is_separator (get_or text end 0) ≡ true
    → gap_onto (take end text) (parts Outside (drop end text)).first (parts Outside (drop end text)).more
    ≡ gap_onto (take (end + 1) text) (parts Outside (drop (end + 1) text)).first (parts Outside (drop (end + 1) text)).more
gap_goes_on text end lt e =
    let c = get_or text end 0 in
    let after = parts Outside (drop (suc end) text) in
    rw (add-one, drop-cons text end 0, take-suc text end 0)
    (ap (λ (ps : Parts). gap_onto (take end text) ps.first ps.more) (parts-gap c (drop (suc end) text) e)
    ∙ gap_onto-with (take end text) c after.first after.more)

gap_onto-at_text : (xs : List ℕ) (d : ℕ) (first text : List ℕ) (more : List Gapped) → text ≡ d ∷ first
    → (gap_onto xs text more).more ≡ record { gap = xs; text = text } ∷ more
gap_onto-at_text xs d first text more e = rw e refl

pub gap_at_end : (text : List ℕ) (end : ℕ) → 0 < end → end ≤ length text → length text ≤ end
    → gap_onto (take end text) (parts Outside (drop end text)).first (parts Outside (drop end text)).more ≡ parts Outside text
    → IsGapAndRest text (take end text) (drop end text)
gap_at_end text end some le ge is =
    let none : drop end text ≡ [] = nil_from_length (drop end text) (omega (arith, length-drop end text)) in
    let nothing : parts Outside (drop end text) ≡ record { first = []; more = [] } = rw none (parts-nil Outside) in
    record {
      parts_are = ap (λ (ps : Parts). ps.more) (sym is) ∙ rw nothing refl;
      bound = omega (arith, length-drop end text);
    }

pub gap_at_text : (text : List ℕ) (end : ℕ) → 0 < end → end < length text → is_separator (get_or text end 0) ≡ false
    → gap_onto (take end text) (parts Outside (drop end text)).first (parts Outside (drop end text)).more ≡ parts Outside text
    → IsGapAndRest text (take end text) (drop end text)
gap_at_text text end some lt e is =
    let c = get_or text end 0 in
    let after = parts (nesting_after true Outside c) (drop (suc end) text) in
    let begun : parts Outside (drop end text) ≡ record { first = c ∷ after.first; more = after.more } = ap (parts Outside) (drop-cons text end 0 lt) ∙ parts-text Outside c (drop (suc end) text) e in
    record {
      parts_are = ap (λ (ps : Parts). ps.more) (sym is)
          ∙ gap_onto-at_text (take end text) c after.first (parts Outside (drop end text)).first (parts Outside (drop end text)).more (ap (λ (ps : Parts). ps.first) begun);
      bound = omega (arith, length-drop end text);
    }

-- ---- values, step by step

pub no_item : (front : List ℕ) (n : ℕ) (ps : Parts) → item_of ps.first ≡ None → written_onto front (value_in n ps) ≡ None
unfolding value_in
no_item front n ps e = rw e refl

pub last_item : (front text : List ℕ) (n : ℕ) (item : Item) (ps : Parts) → ps ≡ record { first = text; more = [] } → item_of text ≡ Some item
    → written_onto front (value_in n ps) ≡ Some (front ++ written_item item)
unfolding value_in steps_of
last_item front text n item ps is e = rw (is, e) (ap (λ (xs : List ℕ). Some (front ++ xs)) (append-nil (written_item item)))

value_onto-None : (item : Option Item) → value_onto item None ≡ None
value_onto-None None = refl
value_onto-None (Some item) = refl

pub an_item_too_many : (front text : List ℕ) (ps : Parts) (next : Gapped) (more : List Gapped) → ps ≡ record { first = text; more = next ∷ more }
    → written_onto front (value_in 0 ps) ≡ None
unfolding value_in steps_of
an_item_too_many front text ps next more is = rw is (ap (written_onto front) (value_onto-None (item_of text)))

pub no_separator : (front text : List ℕ) (left n : ℕ) (ps : Parts) (next : Gapped) (more : List Gapped) → left ≡ n + 1
    → ps ≡ record { first = text; more = next ∷ more } → separator_of next.gap ≡ None → written_onto front (value_in left ps) ≡ None
unfolding value_in steps_of
no_separator front text left n ps next more one is e =
    rw (is, one, add-one, e) (ap (written_onto front) (value_onto-None (item_of text)))

written_step_of : (front : List ℕ) (item : Item) (separator : Separator) (next : Option Item) (more : Option (List Step))
    → written_onto front (value_onto (Some item) (step_onto (Some separator) next more))
    ≡ written_onto (front ++ written_item item ++ written_separator separator) (value_onto next more)
written_step_of front item separator None more = refl
written_step_of front item separator (Some next) None = refl
written_step_of front item separator (Some next) (Some more) =
    ap (λ (xs : List ℕ). Some xs)
    (sym (simp append_assoc))

pub next_item : (front text : List ℕ) (left n : ℕ) (item : Item) (separator : Separator) (ps rest : Parts) (gap : List ℕ) → left ≡ n + 1
    → ps ≡ record { first = text; more = record { gap = gap; text = rest.first } ∷ rest.more } → item_of text ≡ Some item → separator_of gap ≡ Some separator
    → written_onto front (value_in left ps) ≡ written_onto (front ++ written_item item ++ written_separator separator) (value_in n rest)
unfolding value_in steps_of
next_item front text left n item separator ps rest gap one is i s =
    rw (is, one, add-one, i, s) (written_step_of front item separator (item_of rest.first) (steps_of n rest.more))

pub begins_itself : (front : List ℕ) → BeginsWith front front
begins_itself front = record { bound = omega arith; is = take_all (length front) front (omega arith) }

-- what begins a text begins it also where more is written
pub begins_more : (front text more grown : List ℕ) → grown ≡ text ++ more → BeginsWith front text → BeginsWith front grown
begins_more front text more grown e h =
    let bound : length front ≤ length text = h.bound in
    rw e (record {
      bound = omega (arith, length-append text more);
      is = rw take-append-le h.is;
    })
