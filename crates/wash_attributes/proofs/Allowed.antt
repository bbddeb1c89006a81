-- Washed attributes are those of a message.
use Rattle.std.proofs.Common.{◌≡◌, ℕ, Bool, true, false, not, ◌||◌, if◌then◌else◌, Option, Some, None, List, [], ◌∷◌, ◌++◌, map, codes, refl, sym, ap, subst, ◌∙◌, append-nil, IsTrue}
use Rattle.std.proofs.lemmas.List.Folds.{list_all-append}
use Rattle.std.specs.List.{list_all, filter_map, cons_option, AllByRecursion}
use Rattle.html_syntax.specs.Token.{Attribute}
use Rattle.html_syntax.specs.Tokenizer.{same, has_name, replace_null}
use Rattle.html_tokens.specs.Attributes.{first_of_each}
use Rattle.html_rules.specs.Tables.{Name, common_attributes, is_listed_attribute, kind_of, is_attribute_name, value_kind_rows}
use Rattle.html_rules.specs.Tokens.{replace_nulls}
use Rattle.html_rules.specs.Values.{is_empty, is_value_of, is_value_of_attribute}
use Rattle.html_rules.specs.MessageTokens.{is_message_attribute}
use Rattle.html_rules.specs.declared.ValueKind.{ValueKind}
use Rattle.html_rules.proofs.Facts.{and_true, no_of, or_false}
use Rattle.html_rules.proofs.Parts.{both_true, or_left, or_right}
use Rattle.wash_attributes.specs.Given.{Given}
use Rattle.wash_attributes.specs.Values.{written_value}
use Rattle.wash_attributes.specs.Attributes.{attribute, attribute_with, written_value_of_kind, kept_attribute, kept_attributes, with_declared, with_style, link_protection, washed_attributes}
use Rattle.wash_attributes.specs.Soundness.{as_written, IsSound, AreMessageAttributes}
use Rattle.style_wash.specs.Declarations.{is_style}
use Rattle.wash_attributes.proofs.JoinedStyles.{joined_style}
use Rattle.wash_attributes.proofs.ListedNames.{listed_name}
use Rattle.wash_attributes.proofs.WrittenValues.{IsOfKind, written_of_kind}

-- ---- each kept attribute

-- an attribute that is kept of a tag of the element
pub record IsKept (images : Bool) (own : List ℕ → Bool) (element : Name) (a : Attribute) : Type 0 where
  pub listed : is_listed_attribute element a.name ≡ true
  pub value : is_value_of_attribute images own a.name (as_written a.value) ≡ true

abbrev OnSome : (Attribute → Type 0) → Option Attribute → Type 0
OnSome P None = Unit {0}
OnSome P (Some a) = P a

named_kept : (images : Bool) (own : List ℕ → Bool) (element name : Name) (kind : ValueKind) (value : Option (List ℕ)) → is_listed_attribute element name ≡ true → kind_of name ≡ Some kind → IsOfKind images own kind value → OnSome (IsKept images own element) (attribute_with name value)
unfolding is_value_of_attribute
named_kept images own element name kind None listed e h = tt
named_kept images own element name kind (Some value) listed e h = record { listed = listed; value = rw e h }

kind_kept : (given : Given) (own : List ℕ → Bool) (element name : Name) (value : List ℕ) (k : Option ValueKind) → IsSound given own → is_listed_attribute element name ≡ true → kind_of name ≡ k → OnSome (IsKept given.images own element) (attribute_with name (written_value_of_kind given k value))
kind_kept given own element name value None sound listed e = tt
kind_kept given own element name value (Some kind) sound listed e =
    named_kept given.images own element name kind (written_value given kind value) listed e (written_of_kind given own kind value sound)

one_kept : (given : Given) (own : List ℕ → Bool) (element : Name) (a : Attribute) → IsSound given own → OnSome (IsKept given.images own element) (kept_attribute given element a)
unfolding kept_attribute
one_kept given own element a sound =
    elim (is_listed_attribute element a.name) as (λ b. is_listed_attribute element a.name ≡ b → OnSome (IsKept given.images own element) (if b then attribute_with a.name (written_value_of_kind given (kind_of a.name) a.value) else None)) [
      | true ↦ λ e. kind_kept given own element a.name a.value (kind_of a.name) sound e refl
      | false ↦ λ e. tt
    ] refl

onto_kept : (P : Attribute → Type 0) (o : Option Attribute) (rest : List Attribute) → OnSome P o → AllByRecursion P rest → AllByRecursion P (cons_option o rest)
onto_kept P None rest h all = all
onto_kept P (Some a) rest h all = (h, all)

all_kept : (given : Given) (own : List ℕ → Bool) (element : Name) (attributes : List Attribute) → IsSound given own → AllByRecursion (IsKept given.images own element) (filter_map (kept_attribute given element) attributes)
all_kept given own element [] sound = tt
all_kept given own element (a ∷ rest) sound =
    onto_kept (IsKept given.images own element) (kept_attribute given element a) (filter_map (kept_attribute given element) rest) (one_kept given own element a sound) (all_kept given own element rest sound)

-- ---- names

pub replace_nulls-append : (xs ys : List Attribute) → replace_nulls (xs ++ ys) ≡ replace_nulls xs ++ replace_nulls ys
replace_nulls-append [] ys = refl
replace_nulls-append (x ∷ xs) ys = ap (λ (rest : List Attribute). record { name = x.name; value = map replace_null x.value } ∷ rest) (replace_nulls-append xs ys)

has_name-written : (name : Name) (xs : List Attribute) → has_name name (replace_nulls xs) ≡ has_name name xs
has_name-written name [] = refl
has_name-written name (x ∷ xs) = ap (λ (b : Bool). same x.name name || b) (has_name-written name xs)

pub has_name-append : (name : Name) (xs ys : List Attribute) → has_name name (xs ++ ys) ≡ (has_name name xs || has_name name ys)
has_name-append name [] ys = refl
has_name-append name (x ∷ xs) ys =
    elim (same x.name name) as (λ b. (b || has_name name (xs ++ ys)) ≡ ((b || has_name name xs) || has_name name ys)) [
      | true ↦ refl
      | false ↦ has_name-append name xs ys
    ]

pub none_named : (name : Name) (xs : List Attribute) → AllByRecursion (λ a. same a.name name ≡ false) xs → has_name name xs ≡ false
none_named name [] h = refl
none_named name (x ∷ xs) h = rw h.0 (none_named name xs h.1)

pub all_wider : (P Q : Attribute → Type 0) → ((a : Attribute) → P a → Q a) → (xs : List Attribute) → AllByRecursion P xs → AllByRecursion Q xs
all_wider P Q f [] h = tt
all_wider P Q f (x ∷ xs) h = (f x h.0, all_wider P Q f xs h.1)

not_rel : (element : Name) (a : Attribute) → is_listed_attribute element a.name ≡ true → same a.name (codes "rel") ≡ false
not_rel element a h =
    let plain = and_true (is_attribute_name a.name) _ (listed_name element a.name h) in
    no_of (same a.name (codes "rel")) (and_true (not (same a.name (codes "rel"))) _ plain.1).0

not_target : (element : Name) (a : Attribute) → is_listed_attribute element a.name ≡ true → same a.name (codes "target") ≡ false
not_target element a h =
    let plain = and_true (is_attribute_name a.name) _ (listed_name element a.name h) in
    no_of (same a.name (codes "target")) (and_true (not (same a.name (codes "rel"))) _ plain.1).1

-- ---- a tag

kept_allowed : (images : Bool) (own : List ℕ → Bool) (element : Name) (kept : List Attribute) → AllByRecursion (IsKept images own element) kept → list_all (is_message_attribute images own element) (replace_nulls kept) ≡ true
kept_allowed images own element [] h = refl
kept_allowed images own element (a ∷ kept) h =
    both_true _ _ (or_left _ _ (both_true (is_listed_attribute element a.name) (is_value_of_attribute images own a.name (as_written a.value)) h.0.listed h.0.value)) (kept_allowed images own element kept h.1)

has_written : (name : Name) (kept : List Attribute) → has_name name (replace_nulls (kept ++ link_protection)) ≡ (has_name name kept || has_name name link_protection)
has_written name kept = has_name-written name (kept ++ link_protection) ∙ has_name-append name kept link_protection

protected_tag : (images : Bool) (own : List ℕ → Bool) (element : Name) (kept : List Attribute) → AllByRecursion (IsKept images own element) kept → has_name (codes "href") kept ≡ true → AreMessageAttributes images own element (replace_nulls (kept ++ link_protection))
unfolding link_protection
protected_tag images own element kept h e =
    let href : has_name (codes "href") (replace_nulls (kept ++ link_protection)) ≡ true = has_written (codes "href") kept ∙ or_left (has_name (codes "href") kept) _ e in
    let rel : has_name (codes "rel") (replace_nulls (kept ++ link_protection)) ≡ true = has_written (codes "rel") kept ∙ or_right (has_name (codes "rel") kept) true refl in
    let target : has_name (codes "target") (replace_nulls (kept ++ link_protection)) ≡ true = has_written (codes "target") kept ∙ or_right (has_name (codes "target") kept) true refl in
    record {
      listed = rw (replace_nulls-append kept link_protection, list_all-append) (both_true _ _ (kept_allowed images own element kept h) (both_true _ _ (or_right _ _ refl) (both_true _ _ (or_right _ _ refl) refl)));
      protected = rw (href, rel, target) refl;
    }

unprotected_tag : (images : Bool) (own : List ℕ → Bool) (element : Name) (kept : List Attribute) → AllByRecursion (IsKept images own element) kept → has_name (codes "href") kept ≡ false → AreMessageAttributes images own element (replace_nulls kept)
unprotected_tag images own element kept h e =
    let rel : has_name (codes "rel") (replace_nulls kept) ≡ false = has_name-written (codes "rel") kept ∙ none_named (codes "rel") kept (all_wider (IsKept images own element) (λ a. same a.name (codes "rel") ≡ false) (λ a k. not_rel element a k.listed) kept h) in
    let target : has_name (codes "target") (replace_nulls kept) ≡ false = has_name-written (codes "target") kept ∙ none_named (codes "target") kept (all_wider (IsKept images own element) (λ a. same a.name (codes "target") ≡ false) (λ a k. not_target element a k.listed) kept h) in
    let href : has_name (codes "href") (replace_nulls kept) ≡ false = has_name-written (codes "href") kept ∙ e in
    record { listed = kept_allowed images own element kept h; protected = rw (href, rel, target) refl }

tag_allowed : (images : Bool) (own : List ℕ → Bool) (element : Name) (kept : List Attribute) (b : Bool) → AllByRecursion (IsKept images own element) kept → has_name (codes "href") kept ≡ b → AreMessageAttributes images own element (replace_nulls (kept ++ (if b then link_protection else [])))
tag_allowed images own element kept true h e = protected_tag images own element kept h e
tag_allowed images own element kept false h e =
    subst (λ (xs : List Attribute). AreMessageAttributes images own element (replace_nulls xs)) (sym (append-nil kept)) (unprotected_tag images own element kept h e)

-- ---- what rules declare

all_append : (P : Attribute → Type 0) (xs ys : List Attribute) → AllByRecursion P xs → AllByRecursion P ys → AllByRecursion P (xs ++ ys)
all_append P [] ys f g = g
all_append P (x ∷ xs) ys f g = (f.0, all_append P xs ys f.1 g)

style_kept : (images : Bool) (own : List ℕ → Bool) (element : Name) (declared : List ℕ) → is_empty declared ≡ false → is_style (as_written declared) ≡ true → IsKept images own element (attribute (codes "style") declared)
unfolding is_listed_attribute common_attributes is_value_of_attribute kind_of value_kind_rows is_value_of
style_kept images own element [] some style = absurd cc
style_kept images own element (c ∷ cs) some style = record { listed = refl; value = both_true (is_style (as_written (c ∷ cs))) true style refl }

all_with_style : (images : Bool) (own : List ℕ → Bool) (element : Name) (declared : List ℕ) (kept : List Attribute) → is_style (as_written declared) ≡ true → AllByRecursion (IsKept images own element) kept → AllByRecursion (IsKept images own element) (with_style declared kept)
all_with_style images own element declared kept style h =
    elim (is_empty declared || has_name (codes "style") kept) as (λ b. (is_empty declared || has_name (codes "style") kept) ≡ b → AllByRecursion (IsKept images own element) (kept ++ (if b then [] else attribute (codes "style") declared ∷ []))) [
      | true ↦ λ e. all_append (IsKept images own element) kept [] h tt
      | false ↦ λ e. all_append (IsKept images own element) kept (attribute (codes "style") declared ∷ []) h (style_kept images own element declared (or_false (is_empty declared) _ e).0 style, tt)
    ] refl

declared_sound : (given : Given) (own : List ℕ → Bool) (declared : List ℕ) → IsSound given own → is_style (as_written declared) ≡ true → IsSound (with_declared declared given) own
unfolding with_declared
declared_sound given own declared sound style = record {
  targets = sound.targets;
  styles = λ text. joined_style declared (given.stylewash text) style (sound.styles text);
}

pub washed_allowed : (given : Given) (own : List ℕ → Bool) (declared : List ℕ) (element : Name) (attributes : List Attribute) → IsSound given own → IsTrue (is_style (as_written declared)) → AreMessageAttributes given.images own element (replace_nulls (washed_attributes given declared element attributes))
unfolding washed_attributes kept_attributes with_declared
washed_allowed given own declared element attributes sound style =
    let kept = with_style declared (kept_attributes (with_declared declared given) element attributes) in
    tag_allowed given.images own element kept (has_name (codes "href") kept)
    (all_with_style given.images own element declared _ style (all_kept (with_declared declared given) own element (first_of_each attributes) (declared_sound given own declared sound style))) refl
