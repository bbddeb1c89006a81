-- The classes of an element that rules name.
use Rattle.std.proofs.Common.{◌≡◌, ℕ, ◌+◌, ◌<◌, Bool, true, false, ◌||◌, ◌&&◌, List, [], ◌∷◌, ◌++◌, length, map, take, drop, get_or, refl, sym, ap, subst, ◌∙◌, arith, inl, inr}
use Rattle.std.specs.Borrow.{Bor}
use Rattle.std.specs.BTreeMap.{BTreeMap}
use Rattle.std.specs.Str.{bytes_eq}
use Rattle.std.specs.List.{after_first, position_or_len, slice_split}
use Rattle.std.proofs.lemmas.Bool.{cases_Bool}
use Rattle.std.proofs.lemmas.List.{map-append, take_all, take_more}
use Rattle.std.proofs.lemmas.List.Splits.{slice_split_first}
use Rattle.html_rules.specs.Tables.{Name}
use Rattle.style_wash.specs.Characters.{is_white}
use Rattle.style_rules.specs.Selectors.{Selector}
use Rattle.style_rules.specs.Selectors.Selector.{ByName, ByClass, ByBoth}
use Rattle.style_rules.specs.Rules.{Entry, Rule}
use Rattle.style_rules.specs.Cascade.{entries_of, has_class}
use Rattle.style_rules.specs.Seen.{rule_seen}
use Rattle.style_rules.specs.Steps.{AddsClass, AreKnown, AreRight, IsKnown, IsRight, has_of, has_word, is_in_group}
use Rattle.style_rules.specs.declared.rule_list.Rule.{Rule as CodeRule}
use Rattle.style_rules.specs.declared.cascade.Classes.{Classes}
use Rattle.style_rules.specs.declared.cascade.Group.{Group}
use Rattle.style_rules.specs.declared.cascade.Group.TheVariants as group
use Rattle.style_rules.proofs.TextSteps.{last_piece}
use Rattle.style_rules.proofs.Last.{entries_more, entries_other, is_among_words, no_entries}

-- ---- known words

known_step : (known here old among : Bool) → (((known && here) || old) || (known && among)) ≡ (old || (known && (here || among)))
known_step true true true among = refl
known_step true true false among = refl
known_step true false true among = refl
known_step true false false among = refl
known_step false here true among = refl
known_step false here false among = refl

nothing_more : (known a : Bool) → a ≡ (a || (known && false))
nothing_more true true = refl
nothing_more true false = refl
nothing_more false true = refl
nothing_more false false = refl

pub known_end : (rest word : List ℕ) (size : ℕ) (known old new class : Bool) (q : List ℕ) → size ≡ position_or_len is_white rest → size ≡ length rest → word ≡ take size rest
    → (old || (known && is_among_words q (slice_split is_white rest))) ≡ class → new ≡ ((known && bytes_eq word q) || old) → new ≡ class
known_end rest word size known old new class q at all is goal added =
    let same : word ≡ rest = is ∙ ap (λ (n : ℕ). take n rest) all ∙ take_all (length rest) rest (omega arith) in
    added ∙ nothing_more known ((known && bytes_eq word q) || old) ∙ known_step known (bytes_eq word q) old false
    ∙ ap (λ (ws : List (List ℕ)). old || (known && is_among_words q ws)) (ap (λ (t : List ℕ). t ∷ []) same ∙ sym (last_piece is_white rest (sym at ∙ all))) ∙ goal

pub known_go_on : (rest word after : List ℕ) (size : ℕ) (known old new class : Bool) (q : List ℕ) → size ≡ position_or_len is_white rest → size < length rest → word ≡ take size rest → after ≡ drop (size + 1) rest
    → (old || (known && is_among_words q (slice_split is_white rest))) ≡ class → new ≡ ((known && bytes_eq word q) || old) → (new || (known && is_among_words q (slice_split is_white after))) ≡ class
known_go_on rest word after size known old new class q at lt is next goal added =
    let split : slice_split is_white rest ≡ word ∷ slice_split is_white after =
    slice_split_first is_white rest 0 (subst (λ (n : ℕ). n < length rest) at lt)
    ∙ ap (λ (t : List ℕ). t ∷ slice_split is_white (after_first is_white rest)) (ap (λ (n : ℕ). take n rest) (sym at) ∙ sym is)
    ∙ ap (λ (t : List ℕ). word ∷ slice_split is_white t) (ap (λ (n : ℕ). drop (n + 1) rest) (sym at) ∙ sym next) in
    ap (λ (b : Bool). b || (known && is_among_words q (slice_split is_white after))) added ∙ known_step known (bytes_eq word q) old (is_among_words q (slice_split is_white after))
    ∙ ap (λ (ws : List (List ℕ)). old || (known && is_among_words q ws)) (sym split) ∙ goal

pub nothing_known : (known among : Bool) (class : Bool) → among ≡ class → (false || (known && among)) ≡ (known && class)
nothing_known known among class e = ap (λ (b : Bool). known && b) e

-- ---- the classes of rules

still_known : (old new : BTreeMap (Bor (List ℕ)) Bool) (s : Selector) → ((class : List ℕ) → has_word old class ≡ true → has_word new class ≡ true) → IsKnown old s → IsKnown new s
still_known old new (ByName own) keeps k = tt
still_known old new (ByClass class) keeps k = keeps class k
still_known old new (ByBoth own class) keeps k = keeps class k

all_still_known : (old new : BTreeMap (Bor (List ℕ)) Bool) (rules : List Rule) → ((class : List ℕ) → has_word old class ≡ true → has_word new class ≡ true) → AreKnown old rules → AreKnown new rules
all_still_known old new [] keeps k = tt
all_still_known old new (r ∷ rules) keeps k = (still_known old new r.selector keeps k.0, all_still_known old new rules keeps k.1)

known_both : (known : BTreeMap (Bor (List ℕ)) Bool) (xs ys : List Rule) → AreKnown known xs → AreKnown known ys → AreKnown known (xs ++ ys)
known_both known [] ys a b = b
known_both known (x ∷ xs) ys a b = (a.0, known_both known xs ys a.1 b)

pub one_more_known : (rs : List CodeRule) (i : ℕ) (r : CodeRule) (old new : BTreeMap (Bor (List ℕ)) Bool) → i < length rs → r ≡ get_or rs i r → AreKnown old (map rule_seen (take i rs)) → AddsClass old (rule_seen r).selector new → AreKnown new (map rule_seen (take (i + 1) rs))
one_more_known rs i r old new lt is k adds =
    subst (AreKnown new) (sym (ap (map rule_seen) (take_more rs i r lt ∙ ap (λ (x : CodeRule). take i rs ++ x ∷ []) (sym is)) ∙ map-append rule_seen (take i rs) (r ∷ [])))
    (known_both new (map rule_seen (take i rs)) (rule_seen r ∷ []) (all_still_known old new (map rule_seen (take i rs)) adds.keeps k) (adds.adds, tt))

-- ---- the rules that are for an element

right_test : (g : Group) (name : Name) (has : List ℕ → Bool) (classes : List ℕ) (s : Selector) → IsRight has classes s → is_in_group g name has s ≡ is_in_group g name (has_class classes) s
right_test group.Name name has classes s h = refl
right_test group.Class name has classes (ByName own) h = refl
right_test group.Class name has classes (ByClass class) h = h
right_test group.Class name has classes (ByBoth own class) h = refl
right_test group.Both name has classes (ByName own) h = refl
right_test group.Both name has classes (ByClass class) h = refl
right_test group.Both name has classes (ByBoth own class) h = ap (λ (c : Bool). bytes_eq own name && c) h

pub right_entries : (g : Group) (name : Name) (words : Classes) (classes : List ℕ) (rules : List Rule) → AreRight words classes rules
    → entries_of (is_in_group g name (has_of words)) rules ≡ entries_of (is_in_group g name (has_class classes)) rules
right_entries g name words classes [] h = no_entries (is_in_group g name (has_of words)) ∙ sym (no_entries (is_in_group g name (has_class classes)))
right_entries g name words classes (r ∷ rules) h =
    let p = is_in_group g name (has_of words) in
    let q = is_in_group g name (has_class classes) in
    let e = right_test g name (has_of words) classes r.selector h.0 in
    elim (cases_Bool (p r.selector)) [
      | inl passes ↦ entries_more p r rules passes ∙ ap (λ (es : List Entry). r.entries ++ es) (right_entries g name words classes rules h.1) ∙ sym (entries_more q r rules (sym e ∙ passes))
      | inr other ↦ entries_other p r rules other ∙ right_entries g name words classes rules h.1 ∙ sym (entries_other q r rules (sym e ∙ other))
    ]
