-- A declaration in its written form reads as that declaration.
use Rattle.std.proofs.Common.{◌≡◌, ℕ, zero, suc, ◌≤◌, true, false, not, ◌==◌, List, [], ◌∷◌, ◌++◌, length, map, Option, Some, None, refl, sym, ap, ◌∙◌, arith, append_assoc}
use Rattle.std.specs.List.{flat_map, AllByRecursion}
use Rattle.std.proofs.lemmas.List.{append-nil}
use Rattle.style_wash.specs.Characters.{trimmed}
use Rattle.style_wash.specs.Items.{Item, item_of, written_item}
use Rattle.style_wash.specs.Values.{Nesting, Parts, Gapped, Separator, Step, Value, parts, with_gap, is_item_end, nesting_after, separator_of, step_onto, steps_of, value_in, value_of, value_onto, written_separator, written_step, written_value}
use Rattle.style_wash.specs.Values.Nesting.{Outside, Until}
use Rattle.style_wash.specs.Values.Separator.{Space, Comma, Slash}
use Rattle.style_wash.proofs.Cuts.{text_onto, parts-text, parts-gap, parts-nil}
use Rattle.style_wash.proofs.Facts.{and_true}
use Rattle.style_wash.proofs.ItemFacts.{holds, quiet, IsGood, good_item, not_true}

-- ---- values that were read are good

pub record GoodStep (step : Step) : Type 0 where
  pub item : IsGood step.item

pub record GoodValue (value : Value) : Type 0 where
  pub first : IsGood value.first
  pub more : AllByRecursion GoodStep value.more
  pub few : length value.more ≤ 15

-- at most that number of good steps
pub record GoodSteps (n : ℕ) (steps : List Step) : Type 0 where
  pub each : AllByRecursion GoodStep steps
  pub few : length steps ≤ n

good_step_onto : (n : ℕ) (separator : Option Separator) (item : Option Item) (more : Option (List Step)) (steps : List Step)
    → ((i : Item) → item ≡ Some i → IsGood i) → ((s : List Step) → more ≡ Some s → GoodSteps n s)
    → step_onto separator item more ≡ Some steps → GoodSteps (suc n) steps
good_step_onto n None item more steps i m e = absurd cc
good_step_onto n (Some separator) None more steps i m e = absurd cc
good_step_onto n (Some separator) (Some item) None steps i m e = absurd cc
good_step_onto n (Some separator) (Some item) (Some more) [] i m e = absurd cc
good_step_onto n (Some separator) (Some item) (Some more) (step ∷ steps) i m e =
    let rest = m steps (let same : more ≡ steps = cc in ap (λ (s : List Step). Some s) same) in
    record {
      each = (record { item = i step.item (let same : item ≡ step.item = cc in ap (λ (x : Item). Some x) same) }, rest.each);
      few = omega (arith, rest.few);
    }

good_steps : (n : ℕ) (parts : List Gapped) (steps : List Step) → steps_of n parts ≡ Some steps → GoodSteps n steps
unfolding steps_of
good_steps n [] [] e = record { each = tt; few = omega arith }
good_steps n [] (step ∷ steps) e = absurd cc
good_steps zero (part ∷ more) steps e = absurd cc
good_steps (suc n) (part ∷ more) steps e =
    good_step_onto n (separator_of part.gap) (item_of part.text) (steps_of n more) steps (good_item part.text) (good_steps n more) e

good_value_onto : (item : Option Item) (more : Option (List Step)) (value : Value)
    → ((i : Item) → item ≡ Some i → IsGood i) → ((s : List Step) → more ≡ Some s → GoodSteps 15 s)
    → value_onto item more ≡ Some value → GoodValue value
good_value_onto None more value i m e = absurd cc
good_value_onto (Some item) None value i m e = absurd cc
good_value_onto (Some item) (Some more) value i m e =
    let rest = m value.more (let same : more ≡ value.more = cc in ap (λ (s : List Step). Some s) same) in
    record {
      first = i value.first (let same : item ≡ value.first = cc in ap (λ (x : Item). Some x) same);
      more = rest.each;
      few = rest.few;
    }

pub good_value : (text : List ℕ) (value : Value) → value_of text ≡ Some value → GoodValue value
unfolding value_of value_in
good_value text value e =
    good_value_onto (item_of (parts Outside text).first) (steps_of 15 (parts Outside text).more) value
    (good_item (parts Outside text).first) (good_steps 15 (parts Outside text).more) e

-- ---- walks over texts in a row

parts-holds : (place : Nesting) (text rest : List ℕ) → holds place text ≡ true → parts place (text ++ rest) ≡ text_onto text (parts Outside rest)
unfolding holds
parts-holds Outside [] rest h = refl
parts-holds (Until end) [] rest h = absurd cc
parts-holds place (c ∷ more) rest h =
    let both = and_true (not (is_item_end place c)) (holds (nesting_after true place c) more) h in
    parts-text place c (more ++ rest) (not_true (is_item_end place c) both.0)
    ∙ ap (λ (ps : Parts). let p : Parts = record { first = c ∷ ps.first; more = ps.more } in p) (parts-holds (nesting_after true place c) more rest both.1)

pub quiet-append : (place : Nesting) (xs ys : List ℕ) → quiet place xs ≡ true → quiet Outside ys ≡ true → quiet place (xs ++ ys) ≡ true
unfolding quiet
quiet-append Outside [] ys a b = b
quiet-append (Until end) [] ys a b = absurd cc
quiet-append place (c ∷ xs) ys a b =
    let both = and_true (not (c == 59)) (quiet (nesting_after false place c) xs) a in
    rw (both.0, quiet-append (nesting_after false place c) xs ys both.1 b) refl

-- ---- the parts of a written value

abbrev gapped : Step → Gapped
gapped step = record { gap = written_separator step.separator; text = written_item step.item }

-- a gap before a text
parts-separator : (separator : Separator) (rest text : List ℕ) (c : ℕ) (more : List Gapped) → parts Outside rest ≡ record { first = c ∷ text; more = more }
    → parts Outside (written_separator separator ++ rest) ≡ record { first = []; more = record { gap = written_separator separator; text = c ∷ text } ∷ more }
parts-separator Space rest text c more e = parts-gap 32 rest refl ∙ ap (λ (ps : Parts). with_gap 32 ps.first ps.more) e
parts-separator Comma rest text c more e =
    parts-gap 44 (32 ∷ rest) refl ∙ ap (λ (ps : Parts). with_gap 44 ps.first ps.more) (parts-gap 32 rest refl ∙ ap (λ (ps : Parts). with_gap 32 ps.first ps.more) e)
parts-separator Slash rest text c more e = parts-gap 47 rest refl ∙ ap (λ (ps : Parts). with_gap 47 ps.first ps.more) e

parts-item : (item : Item) (rest : List ℕ) (more : List Gapped) → IsGood item → parts Outside rest ≡ record { first = []; more = more }
    → parts Outside (written_item item ++ rest) ≡ record { first = written_item item; more = more }
parts-item item rest more good e =
    parts-holds Outside (written_item item) rest good.whole ∙ ap (text_onto (written_item item)) e
    ∙ ap (λ (first : List ℕ). let p : Parts = record { first = first; more = more } in p) (append-nil (written_item item))

parts-steps : (steps : List Step) → AllByRecursion GoodStep steps → parts Outside (flat_map written_step steps) ≡ record { first = []; more = map gapped steps }
parts-steps [] good = parts-nil Outside
parts-steps (step ∷ steps) good =
    let begins = good.0.item.begins in
    let rest = flat_map written_step steps in
    let item = parts-item step.item rest (map gapped steps) good.0.item (parts-steps steps good.1) in
    ap (parts Outside) (append_assoc (written_separator step.separator) (written_item step.item) rest)
    ∙ parts-separator step.separator (written_item step.item ++ rest) begins.more begins.first (map gapped steps)
    (item ∙ ap (λ (first : List ℕ). let p : Parts = record { first = first; more = map gapped steps } in p) begins.is)
    ∙ ap (λ (text : List ℕ). let p : Parts = record { first = []; more = record { gap = written_separator step.separator; text = text } ∷ map gapped steps } in p) (sym begins.is)

separator_of-written : (separator : Separator) → separator_of (written_separator separator) ≡ Some separator
unfolding separator_of trimmed
separator_of-written Space = refl
separator_of-written Comma = refl
separator_of-written Slash = refl

steps_of-gapped : (n : ℕ) (steps : List Step) → length steps ≤ n → AllByRecursion GoodStep steps → steps_of n (map gapped steps) ≡ Some steps
unfolding steps_of
steps_of-gapped n [] few good = refl
steps_of-gapped zero (step ∷ steps) few good = absurd (omega arith)
steps_of-gapped (suc n) (step ∷ steps) few good =
    rw (separator_of-written step.separator, good.0.item.reads, steps_of-gapped n steps (omega arith) good.1) refl

pub value_of-written : (value : Value) → GoodValue value → value_of (written_value value) ≡ Some value
unfolding value_of value_in
value_of-written value good =
    let whole = parts-item value.first (flat_map written_step value.more) (map gapped value.more) good.first (parts-steps value.more good.more) in
    rw (whole, good.first.reads, steps_of-gapped 15 value.more good.few good.more) refl
