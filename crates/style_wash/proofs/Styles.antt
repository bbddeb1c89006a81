-- Washing a washed style changes nothing.
use Rattle.std.proofs.Common.{◌≡◌, ℕ, zero, suc, ◌+◌, ◌-◌, nat_eq, Bool, true, false, not, ◌&&◌, ◌||◌, ◌==◌, List, [], ◌∷◌, ◌++◌, length, map, take, drop, Option, Some, None, eq-eqb, refl, sym, subst, ap, ◌∙◌, arith, append_assoc}
use Rattle.std.specs.Prelude.{codes}
use Rattle.std.specs.Str.{bytes_eq, IsAscii}
use Rattle.std.specs.List.{list_all, filter_map, cons_option, flat_map, onto_first, position_or_len, prefix_len, suffix_len, before_first, after_first, AllByRecursion}
use Rattle.std.specs.Cmp.Lexicographic.{pointwise}
use Rattle.std.proofs.lemmas.List.{append-nil, reverse-append, take_all, take-append-le}
use Rattle.std.proofs.Math.Seq.{drop-append-add}
use Rattle.std.proofs.lemmas.Str.Ascii.{IsAscii-from_all}
use Rattle.std.proofs.lemmas.List.Sums.{AllPass-from_list_all}
use Rattle.std.proofs.lemmas.Bool.{ltb-true}
use Rattle.std.proofs.lemmas.Bool.Decides.{nat_tests}
use Rattle.style_wash.specs.Characters.{is_colon, is_style_char, is_white, trimmed, without_front, without_back}
use Rattle.style_wash.specs.Items.{written_item}
use Rattle.style_wash.specs.Tables.{properties, property_of}
use Rattle.style_wash.specs.Values.{Nesting, Separator, Step, Value, nesting_after, value_of, written_separator, written_step, written_value}
use Rattle.style_wash.specs.Values.Nesting.{Outside, Until}
use Rattle.style_wash.specs.Values.Separator.{Space, Comma, Slash}
use Rattle.style_wash.specs.Declarations.{Declaration, IsDeclaration, IsStyle, is_style, calls_only_rgb, declaration_of, declaration_with, declarations, is_piece_end, important, pieces, style_of, style_pieces, stylewash, value_after_colon, without_important, written}
use Rattle.style_wash.proofs.Calls.{CallsOnlyRgb, CallsOnlyRgbFirst, calls-append, calls_first-append, calls_none, calls_first, after_delimiter, is_no_bracket}
use Rattle.style_wash.proofs.Facts.{and_true, or_false, all_append, all_wider, found_all, ascii_char, bytes_eq-true, is_safe, safe_char}
use Rattle.style_wash.proofs.ItemFacts.{quiet, BeginsDark, EndsDark, not_true}
use Rattle.style_wash.proofs.Marks.{no_colon, after_colon_is}
use Rattle.style_wash.proofs.Pieces.{front_onto, front_onto-begun, pieces-end, pieces-nil, pieces-within}
use Rattle.style_wash.proofs.Written.{GoodStep, GoodValue, good_value, quiet-append, value_of-written}

-- ---- white space around a value

trimmed-space : (text : List ℕ) → BeginsDark text → EndsDark text → trimmed (32 ∷ text) ≡ text
unfolding trimmed
trimmed-space text begins ends =
    let white : is_white begins.first ≡ false = (or_false (is_white begins.first) (begins.first == 44) (or_false (is_white begins.first || begins.first == 44) (begins.first == 47) begins.dark).0).0 in
    let none : prefix_len is_white text ≡ 0 = rw (begins.is, white) refl in
    let front : without_front (32 ∷ text) ≡ text = rw none refl in
    let last : suffix_len is_white text ≡ 0 = ap (suffix_len is_white) ends.is ∙ ap (prefix_len is_white) (reverse-append ends.front (ends.last ∷ [])) ∙ rw ends.dark refl in
    let size : length text - suffix_len is_white text ≡ length text = omega arith in
    ap without_back front ∙ ap (λ (n : ℕ). take n text) size ∙ take_all (length text) text (omega arith)

-- ---- written values

ends_append : (xs ys : List ℕ) → EndsDark ys → EndsDark (xs ++ ys)
ends_append xs ys ends = record {
  front = xs ++ ends.front;
  last = ends.last;
  is = ap (λ (text : List ℕ). xs ++ text) ends.is ∙ sym (append_assoc xs ends.front (ends.last ∷ []));
  dark = ends.dark;
}

ends_steps : (front : List ℕ) (steps : List Step) → EndsDark front → AllByRecursion GoodStep steps → EndsDark (front ++ flat_map written_step steps)
ends_steps front [] ends good = rw append-nil ends
ends_steps front (step ∷ steps) ends good =
    let next = ends_append front (written_step step) (ends_append (written_separator step.separator) (written_item step.item) good.0.item.ends) in
    rw (← append_assoc front (written_step step) (flat_map written_step steps)) (ends_steps (front ++ written_step step) steps next good.1)

safe_separator : (separator : Separator) → list_all is_safe (written_separator separator) ≡ true
safe_separator Space = refl
safe_separator Comma = refl
safe_separator Slash = refl

silent_separator : (separator : Separator) → quiet Outside (written_separator separator) ≡ true
unfolding quiet
silent_separator Space = refl
silent_separator Comma = refl
silent_separator Slash = refl

safe_steps : (steps : List Step) → AllByRecursion GoodStep steps → list_all is_safe (flat_map written_step steps) ≡ true
safe_steps [] good = refl
safe_steps (step ∷ steps) good =
    all_append is_safe (written_step step) (flat_map written_step steps)
    (all_append is_safe (written_separator step.separator) (written_item step.item) (safe_separator step.separator) good.0.item.safe) (safe_steps steps good.1)

quiet-nothing : quiet Outside [] ≡ true
unfolding quiet
quiet-nothing = refl

silent_steps : (steps : List Step) → AllByRecursion GoodStep steps → quiet Outside (flat_map written_step steps) ≡ true
silent_steps [] good = quiet-nothing
silent_steps (step ∷ steps) good =
    quiet-append Outside (written_step step) (flat_map written_step steps)
    (quiet-append Outside (written_separator step.separator) (written_item step.item) (silent_separator step.separator) good.0.item.silent) (silent_steps steps good.1)

calls_step : (separator : Separator) (text : List ℕ) → CallsOnlyRgbFirst text → CallsOnlyRgb (written_separator separator ++ text)
calls_step Space text first = after_delimiter 32 text refl refl first
calls_step Comma text first = after_delimiter 44 (32 ∷ text) refl refl (calls_first (32 ∷ text) (after_delimiter 32 text refl refl first))
calls_step Slash text first = after_delimiter 47 text refl refl first

calls_steps : (steps : List Step) → AllByRecursion GoodStep steps → CallsOnlyRgb (flat_map written_step steps)
calls_steps [] good = calls_none [] refl
calls_steps (step ∷ steps) good =
    calls-append (written_step step) (flat_map written_step steps)
    (calls_step step.separator (written_item step.item) good.0.item.calls) (calls_steps steps good.1)

-- what a written value is like
record IsWrittenValue (text : List ℕ) (value : Value) : Type 0 where
  reads : value_of text ≡ Some value
  begins : BeginsDark text
  ends : EndsDark text
  safe : list_all is_safe text ≡ true
  silent : quiet Outside text ≡ true
  calls : CallsOnlyRgbFirst text

written_is : (value : Value) → GoodValue value → IsWrittenValue (written_value value) value
written_is value good =
    let item = written_item value.first in
    let rest = flat_map written_step value.more in
    let begins = good.first.begins in
    record {
      reads = value_of-written value good;
      begins = record { first = begins.first; more = begins.more ++ rest; is = ap (λ (text : List ℕ). text ++ rest) begins.is; dark = begins.dark };
      ends = ends_steps item value.more good.first.ends good.more;
      safe = all_append is_safe item rest good.first.safe (safe_steps value.more good.more);
      silent = quiet-append Outside item rest good.first.silent (silent_steps value.more good.more);
      calls = calls_first-append item rest good.first.calls (calls_steps value.more good.more);
    }

safe_drop : (n : ℕ) (text : List ℕ) → list_all is_safe text ≡ true → list_all is_safe (drop n text) ≡ true
safe_drop zero text safe = safe
safe_drop (suc n) [] safe = refl
safe_drop (suc n) (c ∷ more) safe = safe_drop n more (and_true (is_safe c) (list_all is_safe more) safe).1

safe_take : (n : ℕ) (text : List ℕ) → list_all is_safe text ≡ true → list_all is_safe (take n text) ≡ true
safe_take zero text safe = refl
safe_take (suc n) [] safe = refl
safe_take (suc n) (c ∷ more) safe =
    let both = and_true (is_safe c) (list_all is_safe more) safe in
    rw (both.0, safe_take n more both.1) refl

not_important : (text : List ℕ) → list_all is_safe text ≡ true → pointwise nat_eq important text ≡ false
not_important [] safe = refl
not_important (c ∷ more) safe =
    let mark = (safe_char c (and_true (is_safe c) (list_all is_safe more) safe).0).0 in
    let other : nat_eq 33 c ≡ false = grind (arith, nat_tests) in
    rw other refl

-- a safe text has no `!`, so it keeps all it has
keeps_all : (text : List ℕ) → list_all is_safe text ≡ true → without_important text ≡ text
keeps_all text safe =
    let back = without_back text in
    let none = not_important (drop (length back - length important) back) (safe_drop (length back - length important) back (safe_take (length text - suffix_len is_white text) text safe)) in
    rw none refl

after_colon : (text : List ℕ) (value : Value) → IsWrittenValue text value → value_after_colon (32 ∷ text) ≡ Some value
after_colon text value is =
    after_colon_is (32 ∷ text)
    ∙ ap (λ (xs : List ℕ). value_of (trimmed xs)) (keeps_all (32 ∷ text) is.safe)
    ∙ ap value_of (trimmed-space text is.begins is.ends) ∙ is.reads

-- ---- properties

abbrev is_some_of : Option (List ℕ) → List ℕ → Bool
is_some_of None name = false
is_some_of (Some other) name = bytes_eq other name

-- a property reads as itself, also after a space, and has no colon and no `;`
abbrev is_known : List ℕ → Bool
is_known name =
    is_some_of (property_of name) name && is_some_of (property_of (32 ∷ name)) name
    && list_all (λ c. not (is_colon c)) name && list_all is_safe name && quiet Outside name && list_all is_no_bracket name

known_properties : list_all is_known properties ≡ true
unfolding properties property_of trimmed quiet
known_properties = refl

known : (text name : List ℕ) → property_of text ≡ Some name → is_known name ≡ true
unfolding property_of
known text name e = found_all _ is_known properties name known_properties e

-- ---- declarations

-- what a declaration that was read is like
pub record IsGoodDeclaration (declaration : Declaration) : Type 0 where
  pub property : is_known declaration.property ≡ true
  pub value : GoodValue declaration.value

option_cases : (property : Option (List ℕ)) (value : Option Value) (declaration : Declaration) → declaration_with property value ≡ Some declaration
    → (property ≡ Some declaration.property) × (value ≡ Some declaration.value)
option_cases None value declaration e = absurd cc
option_cases (Some property) None declaration e = absurd cc
option_cases (Some property) (Some value) declaration e =
    (let same : property ≡ declaration.property = cc in ap (λ (x : List ℕ). Some x) same, let same : value ≡ declaration.value = cc in ap (λ (x : Value). Some x) same)

value_read : (text : List ℕ) (value : Value) → value_after_colon text ≡ Some value → GoodValue value
unfolding value_after_colon
value_read text value e = good_value (trimmed (without_important text)) value e

good_declaration : (text : List ℕ) (declaration : Declaration) → declaration_of text ≡ Some declaration → IsGoodDeclaration declaration
unfolding declaration_of
good_declaration text declaration e =
    let both = option_cases (property_of (before_first is_colon text)) (value_after_colon (after_first is_colon text)) declaration e in
    record {
      property = known (before_first is_colon text) declaration.property both.0;
      value = value_read (after_first is_colon text) declaration.value both.1;
    }

-- ---- written declarations

position_at : (p : ℕ → Bool) (front : List ℕ) (c : ℕ) (rest : List ℕ) → list_all (λ x. not (p x)) front ≡ true → p c ≡ true
    → position_or_len p (front ++ c ∷ rest) ≡ length front
position_at p [] c rest none at = rw at refl
position_at p (x ∷ front) c rest none at =
    let both = and_true (not (p x)) (list_all (λ x. not (p x)) front) none in
    rw (both.0, position_at p front c rest both.1 at) (omega arith)

is_some_of-true : (o : Option (List ℕ)) (name : List ℕ) → is_some_of o name ≡ true → o ≡ Some name
is_some_of-true None name e = absurd cc
is_some_of-true (Some other) name e = ap (λ (x : List ℕ). Some x) (bytes_eq-true other name e)

-- what is known of a property
record IsKnown (name : List ℕ) : Type 0 where
  alone : property_of name ≡ Some name
  after_space : property_of (32 ∷ name) ≡ Some name
  no_colon : list_all (λ c. not (is_colon c)) name ≡ true
  safe : list_all is_safe name ≡ true
  silent : quiet Outside name ≡ true
  no_bracket : list_all is_no_bracket name ≡ true

known_is : (name : List ℕ) → is_known name ≡ true → IsKnown name
known_is name e =
    let six = and_true (is_some_of (property_of name) name && is_some_of (property_of (32 ∷ name)) name && list_all (λ c. not (is_colon c)) name && list_all is_safe name && quiet Outside name) (list_all is_no_bracket name) e in
    let all = and_true (is_some_of (property_of name) name && is_some_of (property_of (32 ∷ name)) name && list_all (λ c. not (is_colon c)) name && list_all is_safe name) (quiet Outside name) six.0 in
    let four = and_true (is_some_of (property_of name) name && is_some_of (property_of (32 ∷ name)) name && list_all (λ c. not (is_colon c)) name) (list_all is_safe name) all.0 in
    let three = and_true (is_some_of (property_of name) name && is_some_of (property_of (32 ∷ name)) name) (list_all (λ c. not (is_colon c)) name) four.0 in
    let two = and_true (is_some_of (property_of name) name) (is_some_of (property_of (32 ∷ name)) name) three.0 in
    record {
      alone = is_some_of-true (property_of name) name two.0;
      after_space = is_some_of-true (property_of (32 ∷ name)) name two.1;
      no_colon = three.1;
      safe = four.1;
      silent = all.1;
      no_bracket = six.1;
    }

declaration_of-text : (front text property : List ℕ) (value : Value) → list_all (λ c. not (is_colon c)) front ≡ true → property_of front ≡ Some property
    → IsWrittenValue text value → declaration_of (front ++ 58 ∷ 32 ∷ text) ≡ Some (record { property = property; value = value })
unfolding declaration_of
declaration_of-text front text property value none known is =
    let place = position_at is_colon front 58 (32 ∷ text) none refl in
    let before : before_first is_colon (front ++ 58 ∷ 32 ∷ text) ≡ front =
    ap (λ (n : ℕ). take n (front ++ 58 ∷ 32 ∷ text)) place ∙ take-append-le (length front) front (58 ∷ 32 ∷ text) (omega arith) ∙ take_all (length front) front (omega arith) in
    let after : after_first is_colon (front ++ 58 ∷ 32 ∷ text) ≡ 32 ∷ text =
    ap (λ (n : ℕ). drop (n + 1) (front ++ 58 ∷ 32 ∷ text)) place ∙ drop-append-add front (58 ∷ 32 ∷ text) 1 in
    rw (before, after, known, after_colon text value is) refl

written-text : (d : Declaration) → written d ≡ d.property ++ 58 ∷ 32 ∷ written_value d.value
unfolding written
written-text d = append_assoc d.property (codes ": ") (written_value d.value)

pub reads : (d : Declaration) → IsGoodDeclaration d → declaration_of (written d) ≡ Some d
reads d good =
    let property = known_is d.property good.property in
    ap declaration_of (written-text d)
    ∙ declaration_of-text d.property (written_value d.value) d.property d.value property.no_colon property.alone (written_is d.value good.value)

reads_after : (d : Declaration) → IsGoodDeclaration d → declaration_of (32 ∷ written d) ≡ Some d
reads_after d good =
    let property = known_is d.property good.property in
    ap (λ (xs : List ℕ). declaration_of (32 ∷ xs)) (written-text d)
    ∙ declaration_of-text (32 ∷ d.property) (written_value d.value) d.property d.value property.no_colon property.after_space (written_is d.value good.value)

silent_written : (d : Declaration) → IsGoodDeclaration d → quiet Outside (written d) ≡ true
unfolding quiet
silent_written d good =
    ap (quiet Outside) (written-text d)
    ∙ quiet-append Outside d.property (58 ∷ 32 ∷ written_value d.value) (known_is d.property good.property).silent (written_is d.value good.value).silent

safe_written : (d : Declaration) → IsGoodDeclaration d → list_all is_safe (written d) ≡ true
safe_written d good =
    ap (list_all is_safe) (written-text d)
    ∙ all_append is_safe d.property (58 ∷ 32 ∷ written_value d.value) (known_is d.property good.property).safe (written_is d.value good.value).safe

-- ---- the pieces of a style

no_end : (place : Nesting) (c : ℕ) → (c == 59) ≡ false → is_piece_end place c ≡ false
no_end Outside c e = e
no_end (Until end) c e = refl

onto_first-front : (c : ℕ) (text : List ℕ) (ps : List (List ℕ)) → onto_first c (front_onto text ps) ≡ front_onto (c ∷ text) ps
onto_first-front c text [] = refl
onto_first-front c text (piece ∷ more) = refl

pieces-quiet : (place : Nesting) (text rest : List ℕ) → quiet place text ≡ true → pieces place (text ++ rest) ≡ front_onto text (pieces Outside rest)
unfolding quiet
pieces-quiet Outside [] rest h = sym (front_onto-begun rest)
pieces-quiet (Until end) [] rest h = absurd cc
pieces-quiet place (c ∷ more) rest h =
    let both = and_true (not (c == 59)) (quiet (nesting_after false place c) more) h in
    pieces-within place c (more ++ rest) (no_end place c (not_true (c == 59) both.0))
    ∙ ap (onto_first c) (pieces-quiet (nesting_after false place c) more rest both.1)
    ∙ onto_first-front c more (pieces Outside rest)

pieces-more : (all : List Declaration) → AllByRecursion IsGoodDeclaration all
    → pieces Outside (flat_map (λ d. codes "; " ++ written d) all) ≡ [] ∷ map (λ d. 32 ∷ written d) all
unfolding quiet
pieces-more [] good = pieces-nil Outside
pieces-more (d ∷ all) good =
    let rest = flat_map (λ d. codes "; " ++ written d) all in
    pieces-end Outside 59 (32 ∷ written d ++ rest) refl
    ∙ ap (λ (ps : List (List ℕ)). [] ∷ ps)
    (pieces-quiet Outside (32 ∷ written d) rest (silent_written d good.0)
    ∙ ap (front_onto (32 ∷ written d)) (pieces-more all good.1)
    ∙ ap (λ (xs : List ℕ). xs ∷ map (λ d. 32 ∷ written d) all) (append-nil (32 ∷ written d)))

pub pieces-style : (all : List Declaration) → AllByRecursion IsGoodDeclaration all → pieces Outside (style_of all) ≡ style_pieces all
unfolding style_of style_pieces
pieces-style [] good = pieces-nil Outside
pieces-style (d ∷ all) good =
    pieces-quiet Outside (written d) (flat_map (λ d. codes "; " ++ written d) all) (silent_written d good.0)
    ∙ ap (front_onto (written d)) (pieces-more all good.1)
    ∙ ap (λ (xs : List ℕ). xs ∷ map (λ d. 32 ∷ written d) all) (append-nil (written d))

read_more : (all : List Declaration) → AllByRecursion IsGoodDeclaration all → filter_map declaration_of (map (λ d. 32 ∷ written d) all) ≡ all
read_more [] good = refl
read_more (d ∷ all) good = rw (reads_after d good.0, read_more all good.1) refl

read_all : (all : List Declaration) → AllByRecursion IsGoodDeclaration all → filter_map declaration_of (style_pieces all) ≡ all
unfolding style_pieces
read_all [] good = ap (λ (d : Option Declaration). cons_option d []) (no_colon [] 0 refl refl)
read_all (d ∷ all) good = rw (reads d good.0, read_more all good.1) refl

pub declarations-style : (all : List Declaration) → AllByRecursion IsGoodDeclaration all → declarations (style_of all) ≡ all
unfolding declarations style_pieces
declarations-style all good = ap (filter_map declaration_of) (pieces-style all good) ∙ read_all all good

-- ---- the laws

good_onto : (next : Option Declaration) (more : List Declaration) → ((d : Declaration) → next ≡ Some d → IsGoodDeclaration d)
    → AllByRecursion IsGoodDeclaration more → AllByRecursion IsGoodDeclaration (cons_option next more)
good_onto None more next rest = rest
good_onto (Some d) more next rest = (next d refl, rest)

all_good : (pieces : List (List ℕ)) → AllByRecursion IsGoodDeclaration (filter_map declaration_of pieces)
all_good [] = tt
all_good (piece ∷ pieces) = good_onto (declaration_of piece) (filter_map declaration_of pieces) (good_declaration piece) (all_good pieces)

pub good_declarations : (text : List ℕ) → AllByRecursion IsGoodDeclaration (declarations text)
unfolding declarations
good_declarations text = all_good (pieces Outside text)

is_good : (all : List Declaration) → AllByRecursion IsDeclaration all → AllByRecursion IsGoodDeclaration all
is_good [] each = tt
is_good (d ∷ all) each = (good_declaration (written d) d each.0, is_good all each.1)

each_is : (all : List Declaration) → AllByRecursion IsGoodDeclaration all → AllByRecursion IsDeclaration all
each_is [] good = tt
each_is (d ∷ all) good = (reads d good.0, each_is all good.1)

pub washing_is_idempotent : (text : List ℕ) → stylewash (stylewash text) ≡ stylewash text
unfolding stylewash
washing_is_idempotent text = ap style_of (declarations-style (declarations text) (good_declarations text))

pub washed_is_style : (text : List ℕ) → IsStyle (stylewash text)
unfolding stylewash
washed_is_style text = record {
  all = declarations text;
  each = each_is (declarations text) (good_declarations text);
  is = refl;
}

pub styles_are_kept : (all : List Declaration) → AllByRecursion IsDeclaration all → (pieces Outside (style_of all) ≡ style_pieces all) × (declarations (style_of all) ≡ all)
styles_are_kept all each = (pieces-style all (is_good all each), declarations-style all (is_good all each))

-- ---- characters

style_written : (d : Declaration) → IsGoodDeclaration d → list_all is_style_char (written d) ≡ true
style_written d good = all_wider is_safe is_style_char (λ c e. (safe_char c e).1) (written d) (safe_written d good)

style_more : (all : List Declaration) → AllByRecursion IsGoodDeclaration all → list_all is_style_char (flat_map (λ d. codes "; " ++ written d) all) ≡ true
style_more [] good = refl
style_more (d ∷ all) good =
    all_append is_style_char (codes "; " ++ written d) (flat_map (λ d. codes "; " ++ written d) all)
    (all_append is_style_char (codes "; ") (written d) refl (style_written d good.0)) (style_more all good.1)

style_chars : (all : List Declaration) → AllByRecursion IsGoodDeclaration all → list_all is_style_char (style_of all) ≡ true
unfolding style_of
style_chars [] good = refl
style_chars (d ∷ all) good =
    all_append is_style_char (written d) (flat_map (λ d. codes "; " ++ written d) all) (style_written d good.0) (style_more all good.1)

pub washed_characters : (text : List ℕ) → list_all is_style_char (stylewash text) ≡ true
unfolding stylewash
washed_characters text = style_chars (declarations text) (good_declarations text)

pub IsAscii-stylewash : (text : List ℕ) → IsAscii (stylewash text)
IsAscii-stylewash text =
    IsAscii-from_all (stylewash text) (λ k d below.
    ltb-true _ 128 (ascii_char _ (AllPass-from_list_all is_style_char (stylewash text) (washed_characters text) k d below)))

-- ---- functions

calls_written : (d : Declaration) → IsGoodDeclaration d → CallsOnlyRgb (written d)
calls_written d good =
    subst CallsOnlyRgb (sym (written-text d))
    (calls-append d.property (58 ∷ 32 ∷ written_value d.value) (calls_none d.property (known_is d.property good.property).no_bracket)
    (after_delimiter 58 (32 ∷ written_value d.value) refl refl (calls_first (32 ∷ written_value d.value) (after_delimiter 32 (written_value d.value) refl refl (written_is d.value good.value).calls))))

calls_more : (all : List Declaration) → AllByRecursion IsGoodDeclaration all → CallsOnlyRgb (flat_map (λ d. codes "; " ++ written d) all)
calls_more [] good = calls_none [] refl
calls_more (d ∷ all) good =
    calls-append (codes "; " ++ written d) (flat_map (λ d. codes "; " ++ written d) all)
    (calls-append (codes "; ") (written d) (calls_none (codes "; ") refl) (calls_written d good.0)) (calls_more all good.1)

calls_style : (all : List Declaration) → AllByRecursion IsGoodDeclaration all → CallsOnlyRgb (style_of all)
unfolding style_of
calls_style [] good = calls_none [] refl
calls_style (d ∷ all) good = calls-append (written d) (flat_map (λ d. codes "; " ++ written d) all) (calls_written d good.0) (calls_more all good.1)

pub washed_calls_only_rgb : (text : List ℕ) → calls_only_rgb [] (stylewash text) ≡ true
unfolding stylewash
washed_calls_only_rgb text = (calls_style (declarations text) (good_declarations text)).whatever []

-- ---- the test of a style

same_text : (text : List ℕ) → bytes_eq text text ≡ true
same_text [] = refl
same_text (c ∷ more) = rw (eq-eqb c c refl, same_text more) refl

stays : (text : List ℕ) (all : List Declaration) → AllByRecursion IsDeclaration all → text ≡ style_of all → stylewash text ≡ text
unfolding stylewash
stays text all each is =
    ap (λ (xs : List ℕ). style_of (declarations xs)) is ∙ ap style_of (styles_are_kept all each).1 ∙ sym is

pub styles_are_fixed_points : (text : List ℕ) → (IsStyle text → is_style text ≡ true) × (is_style text ≡ true → IsStyle text)
unfolding is_style
styles_are_fixed_points text = (
  λ style. ap (λ (xs : List ℕ). bytes_eq xs text) (stays text style.all style.each style.is) ∙ same_text text,
  λ same. subst IsStyle (bytes_eq-true (stylewash text) text same) (washed_is_style text),
)
