-- A remote `src` is one attribute more with remote pictures than without.
use Rattle.std.proofs.Common.{◌≡◌, ℕ, suc, ◌+◌, Bool, true, false, ◌||◌, if◌then◌else◌, Option, Some, None, List, [], ◌∷◌, ◌++◌, codes, refl, sym, ap, ◌∙◌, arith}
use Rattle.std.specs.List.{list_any, filter_map, cons_option}
use Rattle.html_syntax.specs.Token.{Attribute}
use Rattle.html_syntax.specs.Tokenizer.{same, has_name}
use Rattle.html_tokens.specs.Attributes.{first_of_each}
use Rattle.html_rules.specs.Tables.{Name, common_attributes, attribute_rows, is_listed_attribute, kind_of, value_kind_rows}
use Rattle.html_rules.specs.Tokens.{replace_nulls}
use Rattle.html_rules.specs.Values.{is_empty}
use Rattle.html_rules.proofs.Facts.{and_true, same-true}
use Rattle.wash_attributes.specs.Given.{Target, Given}
use Rattle.wash_attributes.specs.Given.Target.{Part, Remote, Link, Nothing}
use Rattle.wash_attributes.specs.Values.{picture_address, written_value}
use Rattle.wash_attributes.specs.Attributes.{attribute, attribute_with, kept_attribute, kept_attributes, join_styles, with_declared, with_style, link_protection, washed_attributes}
use Rattle.remote_images.proofs.Sources.{washing, is_remote_target, is_remote_source, alike_unless_remote}

-- the number of attributes that are named `src`
pub src_count : List Attribute → ℕ
src_count [] = 0
src_count (a ∷ xs) = if same (codes "src") a.name then suc (src_count xs) else src_count xs

-- the number of remote ones
pub remote_count : (List ℕ → Target) → List Attribute → ℕ
remote_count to [] = 0
remote_count to (a ∷ xs) = if is_remote_source to a then suc (remote_count to xs) else remote_count to xs

abbrev pub kept_in_image : (List ℕ → Target) → (List ℕ → List ℕ) → Bool → List Attribute → List Attribute
kept_in_image to style images xs = filter_map (kept_attribute (washing to style images) (codes "img")) xs

-- ---- one attribute

kept_source : (given : Given) (value : List ℕ) → kept_attribute given (codes "img") (attribute (codes "src") value) ≡ attribute_with (codes "src") (picture_address given.images (given.refer value))
unfolding kept_attribute is_listed_attribute common_attributes attribute_rows kind_of value_kind_rows written_value
kept_source given value = refl

count_with : (t : Target) (xs : List Attribute) → is_remote_target t ≡ true → src_count (cons_option (attribute_with (codes "src") (picture_address true t)) xs) ≡ suc (src_count xs)
unfolding src_count
count_with (Part address) xs h = absurd cc
count_with (Remote address) xs h = refl
count_with (Link address) xs h = absurd cc
count_with Nothing xs h = absurd cc

count_without : (t : Target) (xs : List Attribute) → is_remote_target t ≡ true → src_count (cons_option (attribute_with (codes "src") (picture_address false t)) xs) ≡ src_count xs
count_without (Part address) xs h = absurd cc
count_without (Remote address) xs h = refl
count_without (Link address) xs h = absurd cc
count_without Nothing xs h = absurd cc

source_is : (a : Attribute) → same (codes "src") a.name ≡ true → attribute (codes "src") a.value ≡ a
source_is a h = ap (λ (name : Name). attribute name a.value) (same-true (codes "src") a.name h)

remote_with : (to : List ℕ → Target) (style : List ℕ → List ℕ) (a : Attribute) (xs : List Attribute) → is_remote_source to a ≡ true → src_count (cons_option (kept_attribute (washing to style true) (codes "img") a) xs) ≡ suc (src_count xs)
remote_with to style a xs h =
    let both = and_true (same (codes "src") a.name) (is_remote_target (to a.value)) h in
    ap (λ (b : Attribute). src_count (cons_option (kept_attribute (washing to style true) (codes "img") b) xs)) (sym (source_is a both.0))
    ∙ ap (λ (o : Option Attribute). src_count (cons_option o xs)) (kept_source (washing to style true) a.value)
    ∙ count_with (to a.value) xs both.1

remote_without : (to : List ℕ → Target) (style : List ℕ → List ℕ) (a : Attribute) (xs : List Attribute) → is_remote_source to a ≡ true → src_count (cons_option (kept_attribute (washing to style false) (codes "img") a) xs) ≡ src_count xs
remote_without to style a xs h =
    let both = and_true (same (codes "src") a.name) (is_remote_target (to a.value)) h in
    ap (λ (b : Attribute). src_count (cons_option (kept_attribute (washing to style false) (codes "img") b) xs)) (sym (source_is a both.0))
    ∙ ap (λ (o : Option Attribute). src_count (cons_option o xs)) (kept_source (washing to style false) a.value)
    ∙ count_without (to a.value) xs both.1

-- an attribute adds as many as it has, whatever comes after it
own_count : Option Attribute → ℕ
own_count None = 0
own_count (Some a) = if same (codes "src") a.name then 1 else 0

count_onto : (o : Option Attribute) (xs : List Attribute) → src_count (cons_option o xs) ≡ own_count o + src_count xs
unfolding src_count own_count
count_onto None xs = omega arith
count_onto (Some a) xs = elim (same (codes "src") a.name) as (λ (b : Bool). (if b then suc (src_count xs) else src_count xs) ≡ (if b then 1 else 0) + src_count xs) [ true ↦ omega arith | false ↦ omega arith ]

-- ---- lists

shift : (n a b c : ℕ) → a ≡ b + c → n + a ≡ b + (n + c)
shift n a b c h = omega arith

more : (a b c : ℕ) → a ≡ b + c → suc a ≡ suc b + c
more a b c h = omega arith

pub kept_counts : (to : List ℕ → Target) (style : List ℕ → List ℕ) (xs : List Attribute) → src_count (kept_in_image to style true xs) ≡ remote_count to xs + src_count (kept_in_image to style false xs)
unfolding src_count remote_count
kept_counts to style [] = refl
kept_counts to style (a ∷ xs) =
    let with = kept_in_image to style true xs in
    let without = kept_in_image to style false xs in
    let rest = kept_counts to style xs in
    elim (is_remote_source to a) as (λ (b : Bool). is_remote_source to a ≡ b → src_count (kept_in_image to style true (a ∷ xs)) ≡ (if b then suc (remote_count to xs) else remote_count to xs) + src_count (kept_in_image to style false (a ∷ xs))) [
      | true ↦ λ e. remote_with to style a with e ∙ more (src_count with) (remote_count to xs) (src_count without) rest ∙ ap (λ (n : ℕ). suc (remote_count to xs) + n) (sym (remote_without to style a without e))
      | false ↦ λ e.
          let o = kept_attribute (washing to style false) (codes "img") a in
          ap (λ (p : Option Attribute). src_count (cons_option p with)) (alike_unless_remote to style (codes "img") a e)
          ∙ count_onto o with
          ∙ shift (own_count o) (src_count with) (remote_count to xs) (src_count without) rest
          ∙ ap (λ (n : ℕ). remote_count to xs + n) (sym (count_onto o without))
    ] refl

count-append : (xs ys : List Attribute) → src_count (xs ++ ys) ≡ src_count xs + src_count ys
unfolding src_count
count-append [] ys = omega arith
count-append (a ∷ xs) ys = elim (same (codes "src") a.name) as (λ (b : Bool). (if b then suc (src_count (xs ++ ys)) else src_count (xs ++ ys)) ≡ (if b then suc (src_count xs) else src_count xs) + src_count ys) [ true ↦ rw (count-append xs ys) (omega arith) | false ↦ count-append xs ys ]

count_protected : (xs : List Attribute) (b : Bool) → src_count (xs ++ (if b then link_protection else [])) ≡ src_count xs
unfolding src_count link_protection
count_protected xs true = count-append xs link_protection ∙ omega arith
count_protected xs false = count-append xs [] ∙ omega arith

count_replaced : (xs : List Attribute) → src_count (replace_nulls xs) ≡ src_count xs
unfolding src_count
count_replaced [] = refl
count_replaced (a ∷ xs) = rw (count_replaced xs) refl

count_styled : (declared : List ℕ) (xs : List Attribute) (b : Bool) → src_count (xs ++ (if b then [] else attribute (codes "style") declared ∷ [])) ≡ src_count xs
unfolding src_count
count_styled declared xs true = count-append xs [] ∙ omega arith
count_styled declared xs false = count-append xs (attribute (codes "style") declared ∷ []) ∙ omega arith

washed_count : (given : Given) (declared : List ℕ) (element : Name) (xs : List Attribute) → src_count (replace_nulls (washed_attributes given declared element xs)) ≡ src_count (filter_map (kept_attribute (with_declared declared given) element) (first_of_each xs))
unfolding washed_attributes kept_attributes
washed_count given declared element xs =
    let own = filter_map (kept_attribute (with_declared declared given) element) (first_of_each xs) in
    let kept = with_style declared own in
    count_replaced (washed_attributes given declared element xs) ∙ count_protected kept (has_name (codes "href") kept) ∙ count_styled declared own (is_empty declared || has_name (codes "style") own)

none_counted : (to : List ℕ → Target) (xs : List Attribute) → remote_count to xs ≡ 0 → list_any (is_remote_source to) xs ≡ false
unfolding remote_count
none_counted to [] h = refl
none_counted to (a ∷ xs) h =
    elim (is_remote_source to a) as (λ (b : Bool). (if b then suc (remote_count to xs) else remote_count to xs) ≡ 0 → (b || list_any (is_remote_source to) xs) ≡ false) [
      | true ↦ λ e. absurd cc
      | false ↦ λ e. none_counted to xs e
    ] h

none_more : (a b : ℕ) → b ≡ a + b → a ≡ 0
none_more a b h = omega arith

-- an image whose attributes are washed alike has no remote source
pub no_remote_source : (to : List ℕ → Target) (style : List ℕ → List ℕ) (declared : List ℕ) (xs : List Attribute) → replace_nulls (washed_attributes (washing to style true) declared (codes "img") xs) ≡ replace_nulls (washed_attributes (washing to style false) declared (codes "img") xs) → list_any (is_remote_source to) (first_of_each xs) ≡ false
unfolding with_declared
no_remote_source to style declared xs h =
    let ys = first_of_each xs in
    let joined : List ℕ → List ℕ = λ text. join_styles declared (style text) in
    let same_count : src_count (kept_in_image to joined true ys) ≡ src_count (kept_in_image to joined false ys) =
    sym (washed_count (washing to style true) declared (codes "img") xs) ∙ ap src_count h ∙ washed_count (washing to style false) declared (codes "img") xs in
    none_counted to ys (none_more (remote_count to ys) (src_count (kept_in_image to joined false ys)) (sym same_count ∙ kept_counts to joined ys))
