-- The declarations of a washed style, one after the other.
use Rattle.std.proofs.Common.{◌≡◌, ℕ, ◌+◌, ◌<◌, ◌≤◌, Bool, true, not, List, [], ◌∷◌, ◌++◌, length, map, take, drop, refl, sym, ap, subst, ◌∙◌, arith, append_assoc}
use Rattle.std.specs.Prelude.{codes}
use Rattle.std.specs.Str.{IsAscii}
use Rattle.std.specs.List.{list_all, flat_map, position_or_len, before_first, AllByRecursion}
use Rattle.std.proofs.lemmas.List.{append-nil, take_at, drop_at, drop-drop, take_all, length-append, length-drop}
use Rattle.std.proofs.lemmas.Bool.Decides.{nat_tests}
use Rattle.style_wash.specs.Characters.{is_colon}
use Rattle.style_wash.specs.Items.{written_item}
use Rattle.style_wash.specs.Values.{Separator, Step, Value, written_separator, written_step, written_value}
use Rattle.style_wash.specs.Values.Separator.{Space, Comma, Slash}
use Rattle.style_wash.specs.Declarations.{Declaration, declarations, style_of, stylewash, written}
use Rattle.style_wash.proofs.Facts.{and_true, all_append, is_safe}
use Rattle.style_wash.proofs.Written.{GoodStep, GoodValue}
use Rattle.style_wash.proofs.Styles.{IsGoodDeclaration, IsAscii-stylewash, declarations-style, good_declarations}
use Rattle.style_rules.specs.Rules.{Entry, entry_of, is_semicolon}

-- ---- a written declaration has no `;`, and its property has no colon

safe_separator : (separator : Separator) → list_all is_safe (written_separator separator) ≡ true
safe_separator Space = refl
safe_separator Comma = refl
safe_separator Slash = refl

safe_steps : (steps : List Step) → AllByRecursion GoodStep steps → list_all is_safe (flat_map written_step steps) ≡ true
safe_steps [] good = refl
safe_steps (step ∷ steps) good =
    all_append is_safe (written_step step) (flat_map written_step steps)
    (all_append is_safe (written_separator step.separator) (written_item step.item) (safe_separator step.separator) good.0.item.safe) (safe_steps steps good.1)

safe_value : (value : Value) → GoodValue value → list_all is_safe (written_value value) ≡ true
safe_value value good = all_append is_safe (written_item value.first) (flat_map written_step value.more) good.first.safe (safe_steps value.more good.more)

safe_property : (d : Declaration) → IsGoodDeclaration d → list_all is_safe d.property ≡ true
safe_property d good = (and_true _ _ (and_true _ _ (and_true _ _ good.property).0).0).1

no_colon : (d : Declaration) → IsGoodDeclaration d → list_all (λ c. not (is_colon c)) d.property ≡ true
no_colon d good = (and_true _ _ (and_true _ _ (and_true _ _ (and_true _ _ good.property).0).0).0).1

written-text : (d : Declaration) → written d ≡ d.property ++ 58 ∷ 32 ∷ written_value d.value
unfolding written
written-text d = append_assoc d.property (codes ": ") (written_value d.value)

safe_written : (d : Declaration) → IsGoodDeclaration d → list_all is_safe (written d) ≡ true
safe_written d good =
    ap (list_all is_safe) (written-text d)
    ∙ all_append is_safe d.property (58 ∷ 32 ∷ written_value d.value) (safe_property d good) (safe_value d.value good.value)

-- ---- places

place_none : (p : ℕ → Bool) (text : List ℕ) → list_all (λ c. not (p c)) text ≡ true → position_or_len p text ≡ length text
place_none p [] none = refl
place_none p (c ∷ text) none =
    let both = and_true (not (p c)) (list_all (λ c. not (p c)) text) none in
    rw (both.0, place_none p text both.1) (omega arith)

place_at : (p : ℕ → Bool) (front : List ℕ) (c : ℕ) (rest : List ℕ) → list_all (λ x. not (p x)) front ≡ true → p c ≡ true → position_or_len p (front ++ c ∷ rest) ≡ length front
place_at p [] c rest none at = rw at refl
place_at p (x ∷ front) c rest none at =
    let both = and_true (not (p x)) (list_all (λ x. not (p x)) front) none in
    rw (both.0, place_at p front c rest both.1 at) (omega arith)

safe_semicolon : (c : ℕ) → is_safe c ≡ true → not (is_semicolon c) ≡ true
safe_semicolon c e = grind (arith, nat_tests)

no_semicolon : (text : List ℕ) → list_all is_safe text ≡ true → list_all (λ c. not (is_semicolon c)) text ≡ true
no_semicolon [] safe = refl
no_semicolon (c ∷ text) safe =
    let both = and_true (is_safe c) (list_all is_safe text) safe in
    rw (safe_semicolon c both.0, no_semicolon text both.1) refl

pub property_is : (d : Declaration) → IsGoodDeclaration d → before_first is_colon (written d) ≡ d.property
property_is d good =
    let text = written-text d in
    let at : position_or_len is_colon (written d) ≡ length d.property = ap (position_or_len is_colon) text ∙ place_at is_colon d.property 58 (32 ∷ written_value d.value) (no_colon d good) refl in
    ap (λ (n : ℕ). take n (written d)) at ∙ ap (take (length d.property)) text ∙ take_at d.property (58 ∷ 32 ∷ written_value d.value) (length d.property) refl

-- ---- a style

style_more : (d e : Declaration) (more : List Declaration) → style_of (d ∷ e ∷ more) ≡ written d ++ 59 ∷ 32 ∷ style_of (e ∷ more)
unfolding style_of
style_more d e more = ap (λ (t : List ℕ). written d ++ t) (append_assoc (codes "; ") (written e) _)

style_one : (d : Declaration) → style_of (d ∷ []) ≡ written d
unfolding style_of
style_one d = append-nil (written d)

-- what is left of a style whose first declarations were read
pub record IsLeft (style : List ℕ) (start : ℕ) (read : List Entry) : Type 0 where
  pub first : Declaration
  pub more : List Declaration
  pub good : AllByRecursion IsGoodDeclaration (first ∷ more)
  pub rest : drop start style ≡ style_of (first ∷ more)
  pub whole : read ++ map entry_of (first ∷ more) ≡ map entry_of (declarations style)
  pub within : start ≤ length style

-- the first of them, which has a length
pub record IsNext (style : List ℕ) (start size : ℕ) (read : List Entry) (text : List ℕ) : Type 0 where
  pub declaration : Declaration
  pub good : IsGoodDeclaration declaration
  pub text_is : text ≡ written declaration
  pub within : start + size ≤ length style
  pub last : start + size ≡ length style → read ++ entry_of declaration ∷ [] ≡ map entry_of (declarations style)
  pub more : (start + size ≡ length style → ⊥) → IsLeft style (start + (size + 2)) (read ++ entry_of declaration ∷ [])

next_last : (style : List ℕ) (start size : ℕ) (read : List Entry) (text : List ℕ) (d : Declaration) → IsGoodDeclaration d → drop start style ≡ style_of (d ∷ []) → start ≤ length style
    → read ++ map entry_of (d ∷ []) ≡ map entry_of (declarations style) → size ≡ position_or_len is_semicolon (drop start style) → text ≡ take size (drop start style) → IsNext style start size read text
next_last style start size read text d good rest within whole at is =
    let r : drop start style ≡ written d = rest ∙ style_one d in
    let n : size ≡ length (written d) = at ∙ ap (position_or_len is_semicolon) r ∙ place_none is_semicolon (written d) (no_semicolon (written d) (safe_written d good)) in
    let all : start + size ≡ length style = omega (arith, n, ap length r, length-drop start style) in
    record {
      declaration = d;
      good = good;
      text_is = is ∙ ap (take size) r ∙ take_all size (written d) (omega (arith, n));
      within = omega (arith, all);
      last = λ e. whole;
      more = λ e. absurd (e all);
    }

next_more : (style : List ℕ) (start size : ℕ) (read : List Entry) (text : List ℕ) (d e : Declaration) (more : List Declaration) → AllByRecursion IsGoodDeclaration (d ∷ e ∷ more) → drop start style ≡ style_of (d ∷ e ∷ more) → start ≤ length style
    → read ++ map entry_of (d ∷ e ∷ more) ≡ map entry_of (declarations style) → size ≡ position_or_len is_semicolon (drop start style) → text ≡ take size (drop start style) → IsNext style start size read text
next_more style start size read text d e more good rest within whole at is =
    let tail = 59 ∷ 32 ∷ style_of (e ∷ more) in
    let r : drop start style ≡ written d ++ tail = rest ∙ style_more d e more in
    let n : size ≡ length (written d) = at ∙ ap (position_or_len is_semicolon) r ∙ place_at is_semicolon (written d) 59 (32 ∷ style_of (e ∷ more)) (no_semicolon (written d) (safe_written d good.0)) refl in
    let long : length (drop start style) ≡ length (written d) + (length (style_of (e ∷ more)) + 2) = ap length r ∙ length-append (written d) tail ∙ omega arith in
    let less : start + (size + 2) ≤ length style = omega (arith, n, long, length-drop start style) in
    let cut : drop (start + (size + 2)) style ≡ style_of (e ∷ more) =
    sym (drop-drop (size + 2) start style) ∙ ap (drop (size + 2)) (r ∙ sym (append_assoc (written d) (59 ∷ 32 ∷ []) (style_of (e ∷ more))))
    ∙ drop_at (written d ++ 59 ∷ 32 ∷ []) (style_of (e ∷ more)) (size + 2) (length-append (written d) (59 ∷ 32 ∷ []) ∙ omega (arith, n)) in
    record {
      declaration = d;
      good = good.0;
      text_is = is ∙ ap (take size) r ∙ take_at (written d) tail size (sym n);
      within = omega (arith, less);
      last = λ all. absurd (omega (arith, less, all));
      more = λ _. record {
        first = e;
        more = more;
        good = good.1;
        rest = cut;
        whole = append_assoc read (entry_of d ∷ []) (map entry_of (e ∷ more)) ∙ whole;
        within = less;
      };
    }

next_of : (style : List ℕ) (start size : ℕ) (read : List Entry) (text : List ℕ) (d : Declaration) (more : List Declaration) → AllByRecursion IsGoodDeclaration (d ∷ more) → drop start style ≡ style_of (d ∷ more) → start ≤ length style
    → read ++ map entry_of (d ∷ more) ≡ map entry_of (declarations style) → size ≡ position_or_len is_semicolon (drop start style) → text ≡ take size (drop start style) → IsNext style start size read text
next_of style start size read text d [] good rest within whole at is = next_last style start size read text d good.0 rest within whole at is
next_of style start size read text d (e ∷ more) good rest within whole at is = next_more style start size read text d e more good rest within whole at is

pub next_entry : (style : List ℕ) (start size : ℕ) (read : List Entry) (text : List ℕ) → IsLeft style start read → size ≡ position_or_len is_semicolon (drop start style) → text ≡ take size (drop start style) → IsNext style start size read text
next_entry style start size read text left at is = next_of style start size read text left.first left.more left.good left.rest left.within left.whole at is

all_left : (style : List ℕ) (all : List Declaration) → all ≡ declarations style → AllByRecursion IsGoodDeclaration all → style ≡ style_of all → 0 < length style → IsLeft style 0 []
unfolding style_of
all_left style [] is good e some = absurd (omega (arith, ap length e))
all_left style (d ∷ more) is good e some = record { first = d; more = more; good = good; rest = e; whole = ap (map entry_of) is; within = omega arith }

washed_is : (style : List ℕ) → stylewash style ≡ style → style ≡ style_of (declarations style)
unfolding stylewash
washed_is style e = sym e

pub all_is_left : (style : List ℕ) → stylewash style ≡ style → 0 < length style → IsLeft style 0 []
all_is_left style e some = all_left style (declarations style) refl (good_declarations style) (washed_is style e) some

pub ascii_style : (style : List ℕ) → stylewash style ≡ style → IsAscii style
ascii_style style e = subst IsAscii e (IsAscii-stylewash style)

abbrev pub entry_in : List ℕ → Entry
entry_in text = record { property = before_first is_colon text; text = text }

pub entry_is : (d : Declaration) (text : List ℕ) → IsGoodDeclaration d → text ≡ written d → entry_in text ≡ entry_of d
entry_is d text good is = ap entry_in is ∙ ap (λ (property : List ℕ). let e : Entry = record { property = property; text = written d } in e) (property_is d good)

pub declarations_washed : (text : List ℕ) → declarations (stylewash text) ≡ declarations text
unfolding stylewash
declarations_washed text = declarations-style (declarations text) (good_declarations text)
