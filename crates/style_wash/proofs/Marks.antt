-- The colon and the mark of a declaration.
use Rattle.std.proofs.Common.{◌≡◌, ◌≤◌, ◌+◌, ℕ, List, [], ◌∷◌, ◌++◌, length, take, drop, Option, Some, None, refl, sym, ap, ◌∙◌, arith, append_assoc}
use Rattle.std.specs.Prelude.{codes}
use Rattle.std.specs.List.{position_or_len}
use Rattle.std.proofs.lemmas.List.{nil_from_length, length-drop, take-take}
use Rattle.style_wash.specs.Characters.{is_colon, trimmed}
use Rattle.style_wash.specs.Items.{is_plain, is_number, is_rgb, is_name, item_of}
use Rattle.style_wash.specs.Tables.{property_of, is_unit, units}
use Rattle.style_wash.specs.Declarations.{Declaration, declaration_of, declaration_with, value_after_colon, without_important}
use Rattle.style_wash.specs.Cuts.{BeginsWith, with_declaration, property_onto, written_onto}
use Rattle.style_wash.proofs.Cuts.{begins_itself, begins_more}
use Rattle.style_wash.specs.Values.{Value, parts, steps_of, value_in, value_of}

-- ---- the mark

pub after_colon_is : (text : List ℕ) → value_after_colon text ≡ value_of (trimmed (without_important text))
unfolding value_after_colon
after_colon_is text = refl

-- ---- the colon

nothing : value_after_colon [] ≡ None
unfolding value_after_colon trimmed value_of value_in parts steps_of item_of is_plain is_number is_rgb is_name is_unit units
nothing = refl

declaration_with-None : (property : Option (List ℕ)) → declaration_with property None ≡ None
declaration_with-None None = refl
declaration_with-None (Some property) = refl

pub no_colon : (text : List ℕ) (colon : ℕ) → colon ≡ position_or_len is_colon text → colon ≡ length text → declaration_of text ≡ None
unfolding declaration_of
no_colon text colon at all =
    let none : drop (position_or_len is_colon text + 1) text ≡ [] = nil_from_length _ (omega (arith, length-drop (position_or_len is_colon text + 1) text)) in
    ap (λ (xs : List ℕ). declaration_with (property_of (take (position_or_len is_colon text) text)) (value_after_colon xs)) none
    ∙ ap (declaration_with (property_of (take (position_or_len is_colon text) text))) nothing
    ∙ declaration_with-None (property_of (take (position_or_len is_colon text) text))

pub a_colon : (text : List ℕ) (colon : ℕ) → colon ≡ position_or_len is_colon text
    → declaration_of text ≡ declaration_with (property_of (take colon text)) (value_after_colon (drop (colon + 1) text))
unfolding declaration_of
a_colon text colon at = rw (← at) refl

-- ---- a declaration after others

not_whole_value : (style property : List ℕ) (value : Option Value) → written_onto (property_onto style property) value ≡ None
    → with_declaration style (declaration_with (Some property) value) ≡ style
not_whole_value style property None e = refl
not_whole_value style property (Some value) e = cc

whole_value : (style property written : List ℕ) (value : Option Value) → written_onto (property_onto style property) value ≡ Some written
    → written ≡ with_declaration style (declaration_with (Some property) value)
whole_value style property written None e = cc
whole_value style property written (Some value) e = cc

pub bad_value : (style begun property value : List ℕ) (declaration : Option Declaration) (name : Option (List ℕ)) (after : Option Value)
    → declaration ≡ declaration_with name after → name ≡ Some property → after ≡ value_of value → begun ≡ property_onto style property
    → written_onto begun (value_of value) ≡ None → with_declaration style declaration ≡ style
bad_value style begun property value declaration name after d n a b e =
    rw (d, n, a) (not_whole_value style property (value_of value) (ap (λ (xs : List ℕ). written_onto xs (value_of value)) (sym b) ∙ e))

pub good_value : (style begun written property value : List ℕ) (declaration : Option Declaration) (name : Option (List ℕ)) (after : Option Value)
    → declaration ≡ declaration_with name after → name ≡ Some property → after ≡ value_of value → begun ≡ property_onto style property
    → written_onto begun (value_of value) ≡ Some written → written ≡ with_declaration style declaration
good_value style begun written property value declaration name after d n a b e =
    rw (d, n, a) (whole_value style property written (value_of value) (ap (λ (xs : List ℕ). written_onto xs (value_of value)) (sym b) ∙ e))

property_onto-begins : (style property : List ℕ) → BeginsWith style (property_onto style property)
property_onto-begins [] property = begins_more [] [] (property ++ codes ": ") _ refl (begins_itself [])
property_onto-begins (c ∷ more) property = begins_more (c ∷ more) (c ∷ more) (codes "; " ++ property ++ codes ": ") _ (simp append_assoc) (begins_itself (c ∷ more))

-- what stood before a declaration that is dropped
pub begins_rest : (style begun written property : List ℕ) → begun ≡ property_onto style property → BeginsWith begun written
    → take (length style) written ≡ style
begins_rest style begun written property b h =
    let first = property_onto-begins style property in
    let bound : length style ≤ length begun = rw b first.bound in
    sym (take-take (length style) (length begun) written bound) ∙ ap (take (length style)) h.is ∙ ap (take (length style)) b ∙ first.is
