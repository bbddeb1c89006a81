-- Which attributes are kept alike with remote pictures and without.
use Rattle.std.proofs.Common.{◌≡◌, ℕ, Bool, true, false, not, ◌&&◌, if◌then◌else◌, Option, Some, None, List, [], ◌∷◌, codes, refl, sym, ap, ◌∙◌}
use Rattle.std.specs.List.{list_all, list_any, filter_map}
use Rattle.html_syntax.specs.Token.{Attribute}
use Rattle.html_syntax.specs.Tokenizer.{same, is_among}
use Rattle.html_rules.specs.Tables.{Name, AttributeRow, ValueKindRow, common_attributes, attribute_rows, is_listed_attribute, kind_of, kind_among, value_kind_rows}
use Rattle.html_rules.specs.declared.ValueKind.{ValueKind}
use Rattle.html_rules.specs.declared.ValueKind.TheVariants as kind
use Rattle.html_rules.proofs.Facts.{and_true, or_false, same-true}
use Rattle.wash_attributes.specs.Given.{Target, Given}
use Rattle.wash_attributes.specs.Given.Target.{Part, Remote, Link, Nothing}
use Rattle.wash_attributes.specs.Values.{picture_address, written_value}
use Rattle.wash_attributes.specs.Attributes.{attribute_with, written_value_of_kind, kept_attribute}

-- what a text is washed with, by whether remote pictures are requested
abbrev pub washing : (List ℕ → Target) → (List ℕ → List ℕ) → Bool → Given
washing to style images = record { refer = to; stylewash = style; images = images }

abbrev pub is_remote_target : Target → Bool
is_remote_target (Part address) = false
is_remote_target (Remote address) = true
is_remote_target (Link address) = false
is_remote_target Nothing = false

abbrev pub is_remote_source : (List ℕ → Target) → Attribute → Bool
is_remote_source to a = same (codes "src") a.name && is_remote_target (to a.value)

-- an attribute is kept alike
abbrev pub KeptAlike : (List ℕ → Target) → (List ℕ → List ℕ) → Name → Attribute → Type 0
KeptAlike to style element a = kept_attribute (washing to style true) element a ≡ kept_attribute (washing to style false) element a

-- ---- values

abbrev is_source : ValueKind → Bool
is_source kind.Number = false
is_source kind.Word = false
is_source kind.Flag = false
is_source kind.Text = false
is_source kind.Link = false
is_source kind.Source = true
is_source kind.Style = false

other_value : (to : List ℕ → Target) (style : List ℕ → List ℕ) (k : ValueKind) (value : List ℕ) → is_source k ≡ false → written_value (washing to style true) k value ≡ written_value (washing to style false) k value
unfolding written_value
other_value to style kind.Number value h = refl
other_value to style kind.Word value h = refl
other_value to style kind.Flag value h = refl
other_value to style kind.Text value h = refl
other_value to style kind.Link value h = refl
other_value to style kind.Source value h = absurd cc
other_value to style kind.Style value h = refl

picture_alike : (t : Target) → is_remote_target t ≡ false → picture_address true t ≡ picture_address false t
picture_alike (Part address) h = refl
picture_alike (Remote address) h = absurd cc
picture_alike (Link address) h = refl
picture_alike Nothing h = refl

near_value : (to : List ℕ → Target) (style : List ℕ → List ℕ) (k : ValueKind) (value : List ℕ) → is_remote_target (to value) ≡ false → written_value (washing to style true) k value ≡ written_value (washing to style false) k value
unfolding written_value
near_value to style kind.Number value h = refl
near_value to style kind.Word value h = refl
near_value to style kind.Flag value h = refl
near_value to style kind.Text value h = refl
near_value to style kind.Link value h = refl
near_value to style kind.Source value h = picture_alike (to value) h
near_value to style kind.Style value h = refl

near_value_of_kind : (to : List ℕ → Target) (style : List ℕ → List ℕ) (k : Option ValueKind) (value : List ℕ) → is_remote_target (to value) ≡ false → written_value_of_kind (washing to style true) k value ≡ written_value_of_kind (washing to style false) k value
near_value_of_kind to style None value h = refl
near_value_of_kind to style (Some k) value h = near_value to style k value h

-- ---- kinds

no_source : List ValueKindRow → Name → Bool
no_source rows name = list_all (λ (r : ValueKindRow). not (is_source r.kind && is_among r.attributes name)) rows

not_both : (a b : Bool) → not (a && b) ≡ true → b ≡ true → a ≡ false
not_both true true h e = absurd cc
not_both true false h e = absurd cc
not_both false b h e = refl

alike_among : (to : List ℕ → Target) (style : List ℕ → List ℕ) (rows : List ValueKindRow) (name : Name) (value : List ℕ) → no_source rows name ≡ true → written_value_of_kind (washing to style true) (kind_among rows name) value ≡ written_value_of_kind (washing to style false) (kind_among rows name) value
unfolding no_source
alike_among to style [] name value h = refl
alike_among to style (row ∷ rows) name value h =
    let both = and_true (not (is_source row.kind && is_among row.attributes name)) (no_source rows name) h in
    elim (is_among row.attributes name) as (λ (b : Bool). is_among row.attributes name ≡ b → written_value_of_kind (washing to style true) (if b then Some row.kind else kind_among rows name) value ≡ written_value_of_kind (washing to style false) (if b then Some row.kind else kind_among rows name) value) [
      | true ↦ λ e. other_value to style row.kind value (not_both (is_source row.kind) (is_among row.attributes name) both.0 e)
      | false ↦ λ e. alike_among to style rows name value both.1
    ] refl

only_src : (name : Name) → same (codes "src") name ≡ false → no_source value_kind_rows name ≡ true
unfolding no_source value_kind_rows
only_src name h = rw h refl

-- ---- attributes

alike_if_other : (to : List ℕ → Target) (style : List ℕ → List ℕ) (element : Name) (a : Attribute) → same (codes "src") a.name ≡ false → KeptAlike to style element a
unfolding kept_attribute kind_of
alike_if_other to style element a h =
    ap (λ (value : Option (List ℕ)). if is_listed_attribute element a.name then attribute_with a.name value else None) (alike_among to style value_kind_rows a.name a.value (only_src a.name h))

alike_if_near : (to : List ℕ → Target) (style : List ℕ → List ℕ) (element : Name) (a : Attribute) → is_remote_target (to a.value) ≡ false → KeptAlike to style element a
unfolding kept_attribute
alike_if_near to style element a h =
    ap (λ (value : Option (List ℕ)). if is_listed_attribute element a.name then attribute_with a.name value else None) (near_value_of_kind to style (kind_of a.name) a.value h)

and_comm : (a b : Bool) → (a && b) ≡ (b && a)
and_comm true true = refl
and_comm true false = refl
and_comm false true = refl
and_comm false false = refl

flipped : (rows : List AttributeRow) (element name : Name) → list_any (λ (r : AttributeRow). is_among r.elements element && is_among r.attributes name) rows ≡ list_any (λ (r : AttributeRow). is_among r.attributes name && is_among r.elements element) rows
flipped [] element name = refl
flipped (row ∷ rows) element name = rw (and_comm (is_among row.elements element) (is_among row.attributes name), flipped rows element name) refl

-- no element but `img` has a `src`
src_unlisted : (element : Name) → same (codes "img") element ≡ false → is_listed_attribute element (codes "src") ≡ false
unfolding is_listed_attribute common_attributes attribute_rows
src_unlisted element h = flipped attribute_rows element (codes "src") ∙ rw h refl

unlisted_alike : (to : List ℕ → Target) (style : List ℕ → List ℕ) (element : Name) (a : Attribute) → is_listed_attribute element a.name ≡ false → KeptAlike to style element a
unfolding kept_attribute
unlisted_alike to style element a h = rw h refl

pub alike_elsewhere : (to : List ℕ → Target) (style : List ℕ → List ℕ) (element : Name) (a : Attribute) → same (codes "img") element ≡ false → KeptAlike to style element a
alike_elsewhere to style element a h =
    elim (same (codes "src") a.name) as (λ (b : Bool). same (codes "src") a.name ≡ b → KeptAlike to style element a) [
      | true ↦ λ e. unlisted_alike to style element a (ap (is_listed_attribute element) (sym (same-true (codes "src") a.name e)) ∙ src_unlisted element h)
      | false ↦ λ e. alike_if_other to style element a e
    ] refl

pub alike_unless_remote : (to : List ℕ → Target) (style : List ℕ → List ℕ) (element : Name) (a : Attribute) → is_remote_source to a ≡ false → KeptAlike to style element a
alike_unless_remote to style element a h =
    elim (same (codes "src") a.name) as (λ (b : Bool). same (codes "src") a.name ≡ b → (b && is_remote_target (to a.value)) ≡ false → KeptAlike to style element a) [
      | true ↦ λ e g. alike_if_near to style element a g
      | false ↦ λ e g. alike_if_other to style element a e
    ] refl h

-- ---- lists of attributes

pub all_alike_elsewhere : (to : List ℕ → Target) (style : List ℕ → List ℕ) (element : Name) (xs : List Attribute) → same (codes "img") element ≡ false → filter_map (kept_attribute (washing to style true) element) xs ≡ filter_map (kept_attribute (washing to style false) element) xs
all_alike_elsewhere to style element [] h = refl
all_alike_elsewhere to style element (a ∷ xs) h = rw (alike_elsewhere to style element a h, all_alike_elsewhere to style element xs h) refl

pub all_alike : (to : List ℕ → Target) (style : List ℕ → List ℕ) (element : Name) (xs : List Attribute) → list_any (is_remote_source to) xs ≡ false → filter_map (kept_attribute (washing to style true) element) xs ≡ filter_map (kept_attribute (washing to style false) element) xs
all_alike to style element [] h = refl
all_alike to style element (a ∷ xs) h =
    let both = or_false (is_remote_source to a) (list_any (is_remote_source to) xs) h in
    rw (alike_unless_remote to style element a both.0, all_alike to style element xs both.1) refl
