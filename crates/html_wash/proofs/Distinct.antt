-- Washed attributes have different names, which a page may have.
use Rattle.std.proofs.Common.{◌≡◌, ℕ, Bool, true, false, not, ◌||◌, cond, if◌then◌else◌, Option, Some, None, List, [], ◌∷◌, ◌++◌, codes, refl, sym, ap, subst, ◌∙◌, append-nil}
use Rattle.std.specs.List.{filter, filter_map, cons_option, AllByRecursion}
use Rattle.html_syntax.specs.Token.{Attribute}
use Rattle.html_syntax.specs.Tokenizer.{same, has_name}
use Rattle.html_tokens.specs.Attributes.{first_of_each}
use Rattle.html_rules.specs.Tables.{Name, is_listed_attribute, is_attribute_name, kind_of, common_attributes, attribute_rows, link_attributes, frame_attributes}
use Rattle.html_rules.specs.Values.{is_empty}
use Rattle.html_rules.proofs.Facts.{and_true, no_of, or_false, same-true, same-refl}
use Rattle.html_rules.proofs.Parts.{both_true}
use Rattle.page_writer.specs.Page.{are_attributes, are_distinct}
use Rattle.wash_attributes.specs.Given.{Given}
use Rattle.wash_attributes.specs.Attributes.{attribute, attribute_with, written_value_of_kind, kept_attribute, kept_attributes, with_declared, with_style, protect_link, link_protection, washed_attributes}
use Rattle.wash_attributes.proofs.ListedNames.{listed_name}

same-sym : (xs ys : List ℕ) → same xs ys ≡ false → same ys xs ≡ false
same-sym xs ys h =
    elim (same ys xs) as (λ b. same ys xs ≡ b → b ≡ false) [
      | true ↦ λ e. let k : true ≡ false = sym (same-refl xs) ∙ ap (λ (l : List ℕ). same xs l) (sym (same-true ys xs e)) ∙ h in cc
      | false ↦ λ e. refl
    ] refl

abbrev other_name : Attribute → Attribute → Bool
other_name a b = not (same a.name b.name)

-- ---- the first of each name

filtered_lacks : (a : Attribute) (xs : List Attribute) → has_name a.name (filter (other_name a) xs) ≡ false
filtered_lacks a [] = refl
filtered_lacks a (b ∷ xs) =
    elim (same a.name b.name) as (λ t. same a.name b.name ≡ t → has_name a.name (cond (not t) (b ∷ filter (other_name a) xs) (filter (other_name a) xs)) ≡ false) [
      | true ↦ λ e. filtered_lacks a xs
      | false ↦ λ e. rw (same-sym a.name b.name e) (filtered_lacks a xs)
    ] refl

lacks_filtered : (p : Attribute → Bool) (name : Name) (xs : List Attribute) → has_name name xs ≡ false → has_name name (filter p xs) ≡ false
lacks_filtered p name [] h = refl
lacks_filtered p name (x ∷ xs) h =
    let both = or_false (same x.name name) (has_name name xs) h in
    elim (p x) as (λ t. has_name name (cond t (x ∷ filter p xs) (filter p xs)) ≡ false) [
      | true ↦ rw both.0 (lacks_filtered p name xs both.1)
      | false ↦ lacks_filtered p name xs both.1
    ]

distinct_filtered : (p : Attribute → Bool) (xs : List Attribute) → are_distinct xs ≡ true → are_distinct (filter p xs) ≡ true
distinct_filtered p [] h = refl
distinct_filtered p (x ∷ xs) h =
    let both = and_true (not (has_name x.name xs)) (are_distinct xs) h in
    elim (p x) as (λ t. are_distinct (cond t (x ∷ filter p xs) (filter p xs)) ≡ true) [
      | true ↦ rw (lacks_filtered p x.name xs (no_of (has_name x.name xs) both.0)) (distinct_filtered p xs both.1)
      | false ↦ distinct_filtered p xs both.1
    ]

first_distinct : (xs : List Attribute) → are_distinct (first_of_each xs) ≡ true
first_distinct [] = refl
first_distinct (x ∷ xs) = rw (filtered_lacks x (first_of_each xs)) (distinct_filtered (other_name x) (first_of_each xs) (first_distinct xs))

all_others : (a : Attribute) (xs : List Attribute) → has_name a.name xs ≡ false → filter (other_name a) xs ≡ xs
all_others a [] h = refl
all_others a (x ∷ xs) h =
    let both = or_false (same x.name a.name) (has_name a.name xs) h in
    rw (same-sym x.name a.name both.0) (ap (λ (rest : List Attribute). x ∷ rest) (all_others a xs both.1))

first_of_distinct : (xs : List Attribute) → are_distinct xs ≡ true → first_of_each xs ≡ xs
first_of_distinct [] h = refl
first_of_distinct (x ∷ xs) h =
    let both = and_true (not (has_name x.name xs)) (are_distinct xs) h in
    ap (λ (rest : List Attribute). x ∷ filter (other_name x) rest) (first_of_distinct xs both.1)
    ∙ ap (λ (rest : List Attribute). x ∷ rest) (all_others x xs (no_of (has_name x.name xs) both.0))

-- the attributes of a token are washed as those that are written
pub washed_of_first : (given : Given) (declared : List ℕ) (element : Name) (xs : List Attribute) → washed_attributes given declared element (first_of_each xs) ≡ washed_attributes given declared element xs
unfolding washed_attributes kept_attributes
washed_of_first given declared element xs =
    ap (λ (ys : List Attribute). protect_link (with_style declared (filter_map (kept_attribute (with_declared declared given) element) ys))) (first_of_distinct (first_of_each xs) (first_distinct xs))

-- ---- kept attributes

abbrev OnSome : (Attribute → Type 0) → Option Attribute → Type 0
OnSome P None = Unit {0}
OnSome P (Some a) = P a

-- an attribute that is kept for one of this name
record IsListed (element name : Name) (a : Attribute) : Type 0 where
  named : a.name ≡ name
  listed : is_listed_attribute element a.name ≡ true

with_listed : (element name : Name) (value : Option (List ℕ)) → is_listed_attribute element name ≡ true → OnSome (IsListed element name) (attribute_with name value)
with_listed element name None h = tt
with_listed element name (Some value) h = record { named = refl; listed = h }

one_listed : (given : Given) (element : Name) (a : Attribute) → OnSome (IsListed element a.name) (kept_attribute given element a)
unfolding kept_attribute
one_listed given element a =
    elim (is_listed_attribute element a.name) as (λ b. is_listed_attribute element a.name ≡ b → OnSome (IsListed element a.name) (if b then attribute_with a.name (written_value_of_kind given (kind_of a.name) a.value) else None)) [
      | true ↦ λ e. with_listed element a.name (written_value_of_kind given (kind_of a.name) a.value) e
      | false ↦ λ e. tt
    ] refl

onto_lacks : (element name own : Name) (o : Option Attribute) (rest : List Attribute) → OnSome (IsListed element own) o → same own name ≡ false → has_name name rest ≡ false → has_name name (cons_option o rest) ≡ false
onto_lacks element name own None rest h e none = none
onto_lacks element name own (Some b) rest h e none = rw (h.named, e) none

kept_lacks : (given : Given) (element name : Name) (xs : List Attribute) → has_name name xs ≡ false → has_name name (filter_map (kept_attribute given element) xs) ≡ false
kept_lacks given element name [] h = refl
kept_lacks given element name (x ∷ xs) h =
    let both = or_false (same x.name name) (has_name name xs) h in
    onto_lacks element name x.name (kept_attribute given element x) (filter_map (kept_attribute given element) xs) (one_listed given element x) both.0 (kept_lacks given element name xs both.1)

onto_distinct : (element own : Name) (o : Option Attribute) (rest : List Attribute) → OnSome (IsListed element own) o → has_name own rest ≡ false → are_distinct rest ≡ true → are_distinct (cons_option o rest) ≡ true
onto_distinct element own None rest h none d = d
onto_distinct element own (Some b) rest h none d = rw (h.named, none) d

kept_distinct : (given : Given) (element : Name) (xs : List Attribute) → are_distinct xs ≡ true → are_distinct (filter_map (kept_attribute given element) xs) ≡ true
kept_distinct given element [] h = refl
kept_distinct given element (x ∷ xs) h =
    let both = and_true (not (has_name x.name xs)) (are_distinct xs) h in
    onto_distinct element x.name (kept_attribute given element x) (filter_map (kept_attribute given element) xs) (one_listed given element x) (kept_lacks given element x.name xs (no_of (has_name x.name xs) both.0)) (kept_distinct given element xs both.1)

onto_listed : (element own : Name) (o : Option Attribute) (rest : List Attribute) → OnSome (IsListed element own) o → AllByRecursion (λ a. is_listed_attribute element a.name ≡ true) rest → AllByRecursion (λ a. is_listed_attribute element a.name ≡ true) (cons_option o rest)
onto_listed element own None rest h all = all
onto_listed element own (Some b) rest h all = (h.listed, all)

kept_listed : (given : Given) (element : Name) (xs : List Attribute) → AllByRecursion (λ a. is_listed_attribute element a.name ≡ true) (filter_map (kept_attribute given element) xs)
kept_listed given element [] = tt
kept_listed given element (x ∷ xs) = onto_listed element x.name (kept_attribute given element x) (filter_map (kept_attribute given element) xs) (one_listed given element x) (kept_listed given element xs)

-- ---- a tag

-- attributes that a page may have
pub record AreWritable (attributes : List Attribute) : Type 0 where
  pub named : are_attributes attributes ≡ true
  pub distinct : are_distinct attributes ≡ true

plain_attribute : (element : Name) (a : Attribute) → is_listed_attribute element a.name ≡ true → is_attribute_name a.name ≡ true
plain_attribute element a h = (and_true (is_attribute_name a.name) _ (listed_name element a.name h)).0

not_protection : (element : Name) (a : Attribute) → is_listed_attribute element a.name ≡ true → has_name a.name link_protection ≡ false
unfolding link_protection
not_protection element a h =
    let plain = and_true (is_attribute_name a.name) _ (listed_name element a.name h) in
    let others = and_true (not (same a.name (codes "rel"))) (not (same a.name (codes "target"))) plain.1 in
    rw (same-sym a.name (codes "rel") (no_of (same a.name (codes "rel")) others.0), same-sym a.name (codes "target") (no_of (same a.name (codes "target")) others.1)) refl

lacks_append : (name : Name) (xs ys : List Attribute) → has_name name xs ≡ false → has_name name ys ≡ false → has_name name (xs ++ ys) ≡ false
lacks_append name [] ys g h = h
lacks_append name (x ∷ xs) ys g h = let both = or_false (same x.name name) (has_name name xs) g in rw both.0 (lacks_append name xs ys both.1 h)

kept_writable : (element : Name) (kept : List Attribute) → AllByRecursion (λ a. is_listed_attribute element a.name ≡ true) kept → are_distinct kept ≡ true → AreWritable kept
kept_writable element [] listed h = record { named = refl; distinct = refl }
kept_writable element (a ∷ kept) listed h =
    let both = and_true (not (has_name a.name kept)) (are_distinct kept) h in
    let rest = kept_writable element kept listed.1 both.1 in
    record { named = both_true (is_attribute_name a.name) (are_attributes kept) (plain_attribute element a listed.0) rest.named; distinct = h }

protected_writable : (element : Name) (kept : List Attribute) → AllByRecursion (λ a. is_listed_attribute element a.name ≡ true) kept → are_distinct kept ≡ true → AreWritable (kept ++ link_protection)
unfolding link_protection is_attribute_name common_attributes attribute_rows link_attributes frame_attributes
protected_writable element [] listed h = record { named = refl; distinct = refl }
protected_writable element (a ∷ kept) listed h =
    let both = and_true (not (has_name a.name kept)) (are_distinct kept) h in
    let rest = protected_writable element kept listed.1 both.1 in
    let lacks : has_name a.name (kept ++ link_protection) ≡ false = lacks_append a.name kept link_protection (no_of (has_name a.name kept) both.0) (not_protection element a listed.0) in
    record {
      named = both_true (is_attribute_name a.name) (are_attributes (kept ++ link_protection)) (plain_attribute element a listed.0) rest.named;
      distinct = both_true (not (has_name a.name (kept ++ link_protection))) (are_distinct (kept ++ link_protection)) (rw lacks refl) rest.distinct;
    }

-- ---- what rules declare

style_listed : (element : Name) → is_listed_attribute element (codes "style") ≡ true
unfolding is_listed_attribute common_attributes
style_listed element = refl

one_more_listed : (element : Name) (a : Attribute) (kept : List Attribute) → is_listed_attribute element a.name ≡ true → AllByRecursion (λ b. is_listed_attribute element b.name ≡ true) kept → AllByRecursion (λ b. is_listed_attribute element b.name ≡ true) (kept ++ a ∷ [])
one_more_listed element a [] h all = (h, tt)
one_more_listed element a (x ∷ kept) h all = (all.0, one_more_listed element a kept h all.1)

one_more_distinct : (a : Attribute) (kept : List Attribute) → has_name a.name kept ≡ false → are_distinct kept ≡ true → are_distinct (kept ++ a ∷ []) ≡ true
one_more_distinct a [] none h = refl
one_more_distinct a (x ∷ kept) none h =
    let both = and_true (not (has_name x.name kept)) (are_distinct kept) h in
    let others = or_false (same x.name a.name) (has_name a.name kept) none in
    let last : has_name x.name (a ∷ []) ≡ false = rw (same-sym x.name a.name others.0) refl in
    rw (lacks_append x.name kept (a ∷ []) (no_of (has_name x.name kept) both.0) last) (one_more_distinct a kept others.1 both.1)

-- attributes that may be kept of a tag of the element
record AreKept (element : Name) (kept : List Attribute) : Type 0 where
  listed : AllByRecursion (λ a. is_listed_attribute element a.name ≡ true) kept
  distinct : are_distinct kept ≡ true

styled_kept : (element : Name) (declared : List ℕ) (kept : List Attribute) → AreKept element kept → AreKept element (with_style declared kept)
styled_kept element declared kept k =
    elim (is_empty declared || has_name (codes "style") kept) as (λ b. (is_empty declared || has_name (codes "style") kept) ≡ b → AreKept element (kept ++ (if b then [] else attribute (codes "style") declared ∷ []))) [
      | true ↦ λ e. subst (AreKept element) (sym (append-nil kept)) k
      | false ↦ λ e. record {
        listed = one_more_listed element (attribute (codes "style") declared) kept (style_listed element) k.listed;
        distinct = one_more_distinct (attribute (codes "style") declared) kept (or_false (is_empty declared) _ e).1 k.distinct;
      }
    ] refl

pub washed_writable : (given : Given) (declared : List ℕ) (element : Name) (xs : List Attribute) → AreWritable (washed_attributes given declared element xs)
unfolding washed_attributes kept_attributes
washed_writable given declared element xs =
    let with = with_declared declared given in
    let own = filter_map (kept_attribute with element) (first_of_each xs) in
    let kept = with_style declared own in
    let k = styled_kept element declared own (record { listed = kept_listed with element (first_of_each xs); distinct = kept_distinct with element (first_of_each xs) (first_distinct xs) }) in
    elim (has_name (codes "href") kept) as (λ b. AreWritable (kept ++ (if b then link_protection else []))) [
      | true ↦ protected_writable element kept k.listed k.distinct
      | false ↦ subst AreWritable (sym (append-nil kept)) (kept_writable element kept k.listed k.distinct)
    ]
