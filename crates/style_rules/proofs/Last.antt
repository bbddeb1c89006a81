-- What rules declare, found from the last rule back.
use Rattle.std.proofs.Common.{◌≡◌, ℕ, zero, suc, ◌+◌, ◌-◌, ◌<◌, ◌≤◌, nat_lt, Bool, true, false, cond, ◌||◌, if◌then◌else◌, List, [], ◌∷◌, ◌++◌, length, map, take, drop, reverse, get_or, Option, Some, refl, sym, ap, subst, ◌∙◌, arith, append_assoc, inl, inr}
use Rattle.std.specs.Prelude.{codes, is_some}
use Rattle.std.specs.Borrow.{Bor}
use Rattle.std.specs.Str.{bytes_eq}
use Rattle.std.specs.List.{flat_map, list_any, slice_split, position_or_len, after_first}
use Rattle.std.proofs.lemmas.Bool.{cases_Bool, ltb-true, ltb-false}
use Rattle.std.proofs.lemmas.List.{append-nil, map-append, reverse-append, nil_from_length, length-drop, length-map, length-reverse, take_all}
use Rattle.std.proofs.lemmas.List.Folds.{list_any-append}
use Rattle.std.proofs.lemmas.List.Splits.{slice_split_first}
use Rattle.html_rules.specs.Tables.{Name}
use Rattle.style_wash.specs.Characters.{is_white}
use Rattle.style_wash.proofs.Facts.{bytes_eq-true}
use Rattle.style_rules.specs.Selectors.{Selector}
use Rattle.style_rules.specs.Rules.{Entry, Rule}
use Rattle.style_rules.specs.Cascade.{declared, entries_for, entries_of, has_class, has_property, is_by_name, is_by_class, is_by_both, joined, last_of_each, within_limit}
use Rattle.style_rules.specs.Steps.{before_later, found}
use Rattle.style_rules.specs.Seen.{entry_seen, rule_seen}
use Rattle.style_rules.specs.declared.entries.Entry.{Entry as CodeEntry}
use Rattle.style_rules.specs.declared.rule_list.Rule.{Rule as CodeRule}
use Rattle.style_rules.proofs.TextSteps.{last_piece}

-- ---- tests

or_swap : (a b c : Bool) → ((a || b) || c) ≡ (b || (a || c))
or_swap true true c = refl
or_swap true false c = refl
or_swap false b c = refl

or_comm : (a b : Bool) → (a || b) ≡ (b || a)
or_comm true true = refl
or_comm true false = refl
or_comm false true = refl
or_comm false false = refl

or_none : (a : Bool) → (a || false) ≡ a
or_none true = refl
or_none false = refl

pub some_or : (b : Bool) (o : Option Bool) → is_some (cond b (Some true) o) ≡ (b || is_some o)
some_or true o = refl
some_or false o = refl

-- ---- the classes of a text

abbrev pub is_among_words : List ℕ → List (List ℕ) → Bool
is_among_words class words = list_any (λ word. bytes_eq word class) words

pub classes_begin : (classes class : List ℕ) → is_among_words class (slice_split is_white classes) ≡ has_class classes class
unfolding has_class
classes_begin classes class = refl

pub classes_end : (rest word : List ℕ) (size : ℕ) (old new class : Bool) (q : List ℕ) → size ≡ position_or_len is_white rest → size ≡ length rest → word ≡ take size rest
    → (old || is_among_words q (slice_split is_white rest)) ≡ class → new ≡ (bytes_eq word q || old) → new ≡ class
classes_end rest word size old new class q at all is goal added =
    let same : word ≡ rest = is ∙ ap (λ (n : ℕ). take n rest) all ∙ take_all (length rest) rest (omega arith) in
    added ∙ or_comm (bytes_eq word q) old ∙ ap (λ (b : Bool). old || b) (sym (or_none (bytes_eq word q)))
    ∙ ap (λ (ws : List (List ℕ)). old || is_among_words q ws) (ap (λ (t : List ℕ). t ∷ []) same ∙ sym (last_piece is_white rest (sym at ∙ all))) ∙ goal

pub classes_go_on : (rest word after : List ℕ) (size : ℕ) (old new class : Bool) (q : List ℕ) → size ≡ position_or_len is_white rest → size < length rest → word ≡ take size rest → after ≡ drop (size + 1) rest
    → (old || is_among_words q (slice_split is_white rest)) ≡ class → new ≡ (bytes_eq word q || old) → (new || is_among_words q (slice_split is_white after)) ≡ class
classes_go_on rest word after size old new class q at lt is next goal added =
    let split : slice_split is_white rest ≡ word ∷ slice_split is_white after =
    slice_split_first is_white rest 0 (subst (λ (n : ℕ). n < length rest) at lt)
    ∙ ap (λ (t : List ℕ). t ∷ slice_split is_white (after_first is_white rest)) (ap (λ (n : ℕ). take n rest) (sym at) ∙ sym is)
    ∙ ap (λ (t : List ℕ). word ∷ slice_split is_white t) (ap (λ (n : ℕ). drop (n + 1) rest) (sym at) ∙ sym next) in
    ap (λ (b : Bool). b || is_among_words q (slice_split is_white after)) added ∙ or_swap (bytes_eq word q) old (is_among_words q (slice_split is_white after))
    ∙ ap (λ (ws : List (List ℕ)). old || is_among_words q ws) (sym split) ∙ goal

-- one word of a text is compared

pub class_last : (rest word : List ℕ) (size : ℕ) (here class : Bool) (q : List ℕ) → size ≡ position_or_len is_white rest → size ≡ length rest → word ≡ take size rest
    → is_among_words q (slice_split is_white rest) ≡ class → here ≡ bytes_eq word q → here ≡ class
class_last rest word size here class q at all is goal compared = classes_end rest word size false here class q at all is goal (compared ∙ sym (or_none (bytes_eq word q)))

class_not_last : (rest word after : List ℕ) (size : ℕ) (here class : Bool) (q : List ℕ) → size ≡ position_or_len is_white rest → size < length rest → word ≡ take size rest → after ≡ drop (size + 1) rest
    → is_among_words q (slice_split is_white rest) ≡ class → here ≡ bytes_eq word q → (here || is_among_words q (slice_split is_white after)) ≡ class
class_not_last rest word after size here class q at lt is next goal compared = classes_go_on rest word after size false here class q at lt is next goal (compared ∙ sym (or_none (bytes_eq word q)))

pub class_here : (rest word after : List ℕ) (size : ℕ) (here class : Bool) (q : List ℕ) → size ≡ position_or_len is_white rest → size < length rest → word ≡ take size rest → after ≡ drop (size + 1) rest
    → is_among_words q (slice_split is_white rest) ≡ class → here ≡ bytes_eq word q → here ≡ true → true ≡ class
class_here rest word after size here class q at lt is next goal compared is_it =
    ap (λ (b : Bool). b || is_among_words q (slice_split is_white after)) (sym is_it) ∙ class_not_last rest word after size here class q at lt is next goal compared

pub class_further : (rest word after : List ℕ) (size : ℕ) (here class : Bool) (q : List ℕ) → size ≡ position_or_len is_white rest → size < length rest → word ≡ take size rest → after ≡ drop (size + 1) rest
    → is_among_words q (slice_split is_white rest) ≡ class → here ≡ bytes_eq word q → here ≡ false → is_among_words q (slice_split is_white after) ≡ class
class_further rest word after size here class q at lt is next goal compared is_other =
    ap (λ (b : Bool). b || is_among_words q (slice_split is_white after)) (sym is_other) ∙ class_not_last rest word after size here class q at lt is next goal compared

-- ---- what was found

pub found_more : (items new : List (Bor CodeEntry)) (e : Bor CodeEntry) → new ≡ items ++ e ∷ [] → found new ≡ entry_seen e.now ∷ found items
found_more items new e is =
    ap found is ∙ ap reverse (map-append (λ (x : Bor CodeEntry). entry_seen x.now) items (e ∷ []))
    ∙ reverse-append (map (λ (x : Bor CodeEntry). entry_seen x.now) items) (entry_seen e.now ∷ [])

pub any_reverse : (p : Entry → Bool) (xs : List Entry) → list_any p (reverse xs) ≡ list_any p xs
any_reverse p [] = refl
any_reverse p (x ∷ xs) =
    ap (list_any p) (reverse-append (x ∷ []) xs) ∙ list_any-append p (reverse xs) (x ∷ [])
    ∙ ap (λ (b : Bool). b || (p x || false)) (any_reverse p xs) ∙ ap (λ (b : Bool). list_any p xs || b) (or_none (p x)) ∙ or_comm (list_any p xs) (p x)

pub later_none : (later : List Entry) → before_later [] later ≡ later
unfolding before_later
later_none later = refl

pub later_kept : (e : Entry) (more later : List Entry) → has_property e.property (before_later more later) ≡ false → before_later (e ∷ more) later ≡ e ∷ before_later more later
unfolding before_later
later_kept e more later h = rw h refl

pub later_left : (e : Entry) (more later : List Entry) → has_property e.property (before_later more later) ≡ true → before_later (e ∷ more) later ≡ before_later more later
unfolding before_later
later_left e more later h = rw h refl

pub later-append : (xs ys later : List Entry) → before_later (xs ++ ys) later ≡ before_later xs (before_later ys later)
unfolding before_later
later-append [] ys later = refl
later-append (x ∷ xs) ys later = ap (λ (l : List Entry). if has_property x.property l then l else x ∷ l) (later-append xs ys later)

-- ---- the last of each property

kept_property : (p : List ℕ) (xs : List Entry) → has_property p (last_of_each xs) ≡ has_property p xs
unfolding last_of_each
kept_property p [] = refl
kept_property p (x ∷ xs) =
    elim (has_property x.property xs) as (λ (b : Bool). has_property x.property xs ≡ b → has_property p (if b then last_of_each xs else x ∷ last_of_each xs) ≡ (bytes_eq x.property p || has_property p xs)) [
      | true ↦ λ e. kept_property p xs ∙ elim (cases_Bool (bytes_eq x.property p)) [
        | inl same ↦ (let is : x.property ≡ p = bytes_eq-true x.property p same in let has : has_property p xs ≡ true = ap (λ (q : List ℕ). has_property q xs) (sym is) ∙ e in has ∙ ap (λ (b : Bool). b || has_property p xs) (sym same))
        | inr other ↦ ap (λ (b : Bool). b || has_property p xs) (sym other)
      ]
      | false ↦ λ e. ap (λ (b : Bool). bytes_eq x.property p || b) (kept_property p xs)
    ] refl

pub later_is : (xs : List Entry) → before_later xs [] ≡ last_of_each xs
unfolding before_later last_of_each
later_is [] = refl
later_is (x ∷ xs) =
    ap (λ (l : List Entry). if has_property x.property l then l else x ∷ l) (later_is xs)
    ∙ ap (λ (b : Bool). if b then last_of_each xs else x ∷ last_of_each xs) (kept_property x.property xs)

-- ---- the rules of a group

pub no_entries : (p : Selector → Bool) → entries_of p [] ≡ []
unfolding entries_of
no_entries p = refl

pub entries_more : (p : Selector → Bool) (r : Rule) (rules : List Rule) → p r.selector ≡ true → entries_of p (r ∷ rules) ≡ r.entries ++ entries_of p rules
unfolding entries_of
entries_more p r rules e = rw e refl

pub entries_other : (p : Selector → Bool) (r : Rule) (rules : List Rule) → p r.selector ≡ false → entries_of p (r ∷ rules) ≡ entries_of p rules
unfolding entries_of
entries_other p r rules e = rw e refl

pub found_all : (rules : List Rule) (name : Name) (has : List ℕ → Bool) (by_both by_class both class named : List Entry)
    → by_both ≡ entries_of (is_by_both name has) rules → by_class ≡ entries_of (is_by_class has) rules
    → both ≡ before_later by_both [] → class ≡ before_later by_class both → named ≡ before_later (entries_of (is_by_name name) rules) class → named ≡ last_of_each (entries_for rules name has)
found_all rules name has by_both by_class both class named eb ec b c n =
    let en = entries_of (is_by_name name) rules in
    n ∙ ap (before_later en) (c ∙ ap (λ (es : List Entry). before_later es both) ec)
    ∙ ap (λ (es : List Entry). before_later en (before_later (entries_of (is_by_class has) rules) es)) (b ∙ ap (λ (es : List Entry). before_later es []) eb)
    ∙ ap (before_later en) (sym (later-append (entries_of (is_by_class has) rules) (entries_of (is_by_both name has) rules) []))
    ∙ sym (later-append en (entries_of (is_by_class has) rules ++ entries_of (is_by_both name has) rules) [])
    ∙ later_is (entries_for rules name has)

pub declared_is : (rules : List Rule) (name classes style : List ℕ) (entries : List Entry) → entries ≡ last_of_each (entries_for rules name (has_class classes)) → style ≡ joined entries → within_limit style ≡ declared rules name classes
unfolding declared
declared_is rules name classes style entries is e = ap within_limit (e ∙ ap joined is)

-- ---- steps from the last one back

drop_here : {A : Type 0} (xs : List A) (i : ℕ) (d : A) → i < length xs → d ≡ get_or xs i d → drop i xs ≡ d ∷ drop (suc i) xs
drop_here [] i d lt is = absurd (omega arith)
drop_here (x ∷ xs) zero d lt is = ap (λ y. y ∷ xs) (sym is)
drop_here (x ∷ xs) (suc i) d lt is = drop_here xs i d (omega arith) is

drop_map : {A B : Type 0} (f : A → B) (xs : List A) (i : ℕ) → drop i (map f xs) ≡ map f (drop i xs)
drop_map f xs zero = refl
drop_map f [] (suc i) = refl
drop_map f (x ∷ xs) (suc i) = drop_map f xs i

back : {A B : Type 0} (f : A → B) (xs : List A) (at : ℕ) (d : A) → 0 < at → at ≤ length xs → d ≡ get_or xs (at - 1) d → drop (at - 1) (map f xs) ≡ f d ∷ drop at (map f xs)
back f xs at d some le is =
    let same : suc (at - 1) ≡ at = omega arith in
    drop_map f xs (at - 1) ∙ ap (map f) (drop_here xs (at - 1) d (omega arith) is) ∙ ap (λ ys. f d ∷ ys) (sym (drop_map f xs (suc (at - 1))) ∙ ap (λ (n : ℕ). drop n (map f xs)) same)

pub entries_begin : (es : List CodeEntry) (later : List Entry) → later ≡ before_later (drop (length es) (map entry_seen es)) later
entries_begin es later = sym (ap (λ (xs : List Entry). before_later xs later) (nil_from_length _ (omega (arith, length-drop (length es) (map entry_seen es), length-map es entry_seen))) ∙ later_none later)

pub entry_kept : (es : List CodeEntry) (at : ℕ) (e : CodeEntry) (later now new : List Entry) → 0 < at → at ≤ length es → e ≡ get_or es (at - 1) e → now ≡ before_later (drop at (map entry_seen es)) later
    → has_property (entry_seen e).property now ≡ false → new ≡ entry_seen e ∷ now → new ≡ before_later (drop (at - 1) (map entry_seen es)) later
entry_kept es at e later now new some le is found none added =
    added ∙ ap (λ (l : List Entry). entry_seen e ∷ l) found
    ∙ sym (later_kept (entry_seen e) (drop at (map entry_seen es)) later (ap (has_property (entry_seen e).property) (sym found) ∙ none))
    ∙ ap (λ (xs : List Entry). before_later xs later) (sym (back entry_seen es at e some le is))

pub entry_left : (es : List CodeEntry) (at : ℕ) (e : CodeEntry) (later now : List Entry) → 0 < at → at ≤ length es → e ≡ get_or es (at - 1) e → now ≡ before_later (drop at (map entry_seen es)) later
    → has_property (entry_seen e).property now ≡ true → now ≡ before_later (drop (at - 1) (map entry_seen es)) later
entry_left es at e later now some le is found has =
    found ∙ sym (later_left (entry_seen e) (drop at (map entry_seen es)) later (ap (has_property (entry_seen e).property) (sym found) ∙ has))
    ∙ ap (λ (xs : List Entry). before_later xs later) (sym (back entry_seen es at e some le is))

pub rules_begin : (p : Selector → Bool) (rs : List CodeRule) (later : List Entry) → later ≡ before_later (entries_of p (drop (length rs) (map rule_seen rs))) later
rules_begin p rs later =
    sym (ap (λ (xs : List Rule). before_later (entries_of p xs) later) (nil_from_length _ (omega (arith, length-drop (length rs) (map rule_seen rs), length-map rs rule_seen)))
    ∙ ap (λ (xs : List Entry). before_later xs later) (no_entries p) ∙ later_none later)

pub rule_taken : (p : Selector → Bool) (rs : List CodeRule) (at : ℕ) (r : CodeRule) (later now new : List Entry) → 0 < at → at ≤ length rs → r ≡ get_or rs (at - 1) r
    → now ≡ before_later (entries_of p (drop at (map rule_seen rs))) later → p (rule_seen r).selector ≡ true → new ≡ before_later (rule_seen r).entries now
    → new ≡ before_later (entries_of p (drop (at - 1) (map rule_seen rs))) later
rule_taken p rs at r later now new some le is found passes added =
    added ∙ ap (before_later (rule_seen r).entries) found
    ∙ sym (later-append (rule_seen r).entries (entries_of p (drop at (map rule_seen rs))) later)
    ∙ ap (λ (xs : List Entry). before_later xs later) (sym (ap (entries_of p) (back rule_seen rs at r some le is) ∙ entries_more p (rule_seen r) (drop at (map rule_seen rs)) passes))

pub rule_left : (p : Selector → Bool) (rs : List CodeRule) (at : ℕ) (r : CodeRule) (later now : List Entry) → 0 < at → at ≤ length rs → r ≡ get_or rs (at - 1) r
    → now ≡ before_later (entries_of p (drop at (map rule_seen rs))) later → p (rule_seen r).selector ≡ false → now ≡ before_later (entries_of p (drop (at - 1) (map rule_seen rs))) later
rule_left p rs at r later now some le is found other =
    found ∙ ap (λ (xs : List Entry). before_later xs later) (sym (ap (entries_of p) (back rule_seen rs at r some le is) ∙ entries_other p (rule_seen r) (drop at (map rule_seen rs)) other))

-- ---- joined declarations

flat_more : (xs : List Entry) (e : Entry) → flat_map (λ (d : Entry). codes "; " ++ d.text) (xs ++ e ∷ []) ≡ flat_map (λ (d : Entry). codes "; " ++ d.text) xs ++ (codes "; " ++ e.text)
flat_more [] e = append-nil (codes "; " ++ e.text)
flat_more (x ∷ xs) e = ap (λ (t : List ℕ). (codes "; " ++ x.text) ++ t) (flat_more xs e) ∙ sym (append_assoc (codes "; " ++ x.text) (flat_map (λ (d : Entry). codes "; " ++ d.text) xs) (codes "; " ++ e.text))

joined_more : (xs : List Entry) (e : Entry) → 0 < length xs → joined (xs ++ e ∷ []) ≡ (joined xs ++ codes "; ") ++ e.text
joined_more [] e some = absurd (omega arith)
joined_more (x ∷ xs) e some =
    ap (λ (t : List ℕ). x.text ++ t) (flat_more xs e) ∙ sym (append_assoc x.text (flat_map (λ (d : Entry). codes "; " ++ d.text) xs) (codes "; " ++ e.text))
    ∙ sym (append_assoc (joined (x ∷ xs)) (codes "; ") e.text)

joined_one : (xs : List Entry) (e : Entry) → length xs ≡ 0 → joined (xs ++ e ∷ []) ≡ joined xs ++ e.text
joined_one [] e none = append-nil e.text
joined_one (x ∷ xs) e none = absurd (omega arith)

found_back : (last : List (Bor CodeEntry)) (at : ℕ) (e : Bor CodeEntry) → 0 < at → at ≤ length last → e ≡ get_or last (at - 1) e → found (drop (at - 1) last) ≡ found (drop at last) ++ entry_seen e.now ∷ []
found_back last at e some le is =
    let same : suc (at - 1) ≡ at = omega arith in
    ap found (drop_here last (at - 1) e (omega arith) is ∙ ap (λ (n : ℕ). e ∷ drop n last) same)
    ∙ reverse-append (entry_seen e.now ∷ []) (map (λ (x : Bor CodeEntry). entry_seen x.now) (drop at last))

found_size : (last : List (Bor CodeEntry)) (at : ℕ) → length (found (drop at last)) ≡ length last - at
found_size last at = length-reverse (map (λ (x : Bor CodeEntry). entry_seen x.now) (drop at last)) ∙ length-map (drop at last) (λ (x : Bor CodeEntry). entry_seen x.now) ∙ length-drop at last

pub join_between : (last : List (Bor CodeEntry)) (at : ℕ) (e : Bor CodeEntry) (style more new : List ℕ) → 0 < at → at < length last → e ≡ get_or last (at - 1) e → style ≡ joined (found (drop at last))
    → more ≡ style ++ codes "; " → new ≡ more ++ (entry_seen e.now).text → new ≡ joined (found (drop (at - 1) last))
join_between last at e style more new some lt is written between added =
    added ∙ ap (λ (t : List ℕ). t ++ (entry_seen e.now).text) (between ∙ ap (λ (t : List ℕ). t ++ codes "; ") written)
    ∙ sym (ap joined (found_back last at e some (omega arith) is) ∙ joined_more (found (drop at last)) (entry_seen e.now) (omega (arith, found_size last at)))

pub join_first : (last : List (Bor CodeEntry)) (at : ℕ) (e : Bor CodeEntry) (style more new : List ℕ) → 0 < at → at ≡ length last → e ≡ get_or last (at - 1) e → style ≡ joined (found (drop at last))
    → more ≡ style → new ≡ more ++ (entry_seen e.now).text → new ≡ joined (found (drop (at - 1) last))
join_first last at e style more new some all is written same added =
    added ∙ ap (λ (t : List ℕ). t ++ (entry_seen e.now).text) (same ∙ written)
    ∙ sym (ap joined (found_back last at e some (omega arith) is) ∙ joined_one (found (drop at last)) (entry_seen e.now) (omega (arith, found_size last at)))

pub any_first : (rest : List (Bor CodeEntry)) (e : Bor CodeEntry) (property : List ℕ) → 1 ≤ length rest → e ≡ get_or rest 0 e → bytes_eq (entry_seen e.now).property property ≡ true → true ≡ has_property property (map (λ (x : Bor CodeEntry). entry_seen x.now) rest)
any_first [] e property some is same = absurd (omega arith)
any_first (x ∷ rest) e property some is same =
    sym (ap (λ (b : Bool). b || has_property property (map (λ (y : Bor CodeEntry). entry_seen y.now) rest)) (ap (λ (y : Bor CodeEntry). bytes_eq (entry_seen y.now).property property) (sym is) ∙ same))

pub any_none : (rest : List (Bor CodeEntry)) (property : List ℕ) → length rest < 1 → false ≡ has_property property (map (λ (x : Bor CodeEntry). entry_seen x.now) rest)
any_none [] property none = refl
any_none (x ∷ rest) property none = absurd (omega arith)

pub limit_fits : (style : List ℕ) → length style ≤ 1024 → style ≡ within_limit style
limit_fits style le = elim (cases_Bool (nat_lt 1024 (length style))) [
  | inl over ↦ (let lt = ltb-true 1024 (length style) over in absurd (omega arith))
  | inr fits ↦ rw fits refl
]

pub limit_over : (style : List ℕ) → 1024 < length style → [] ≡ within_limit style
limit_over style lt = elim (cases_Bool (nat_lt 1024 (length style))) [
  | inl over ↦ rw over refl
  | inr fits ↦ (let le = ltb-false 1024 (length style) fits in absurd (omega arith))
]
