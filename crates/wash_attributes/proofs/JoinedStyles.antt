-- A washed style after another one is a washed style.
use Rattle.std.proofs.Common.{◌≡◌, ℕ, true, false, List, [], ◌∷◌, ◌++◌, codes, refl, sym, ap, subst, ◌∙◌, append_assoc}
use Rattle.std.proofs.lemmas.List.{append-nil, map-append}
use Rattle.std.specs.List.{AllByRecursion}
use Rattle.html_syntax.specs.Tokenizer.{replace_null}
use Rattle.html_rules.specs.Values.{is_empty}
use Rattle.style_wash.specs.Declarations.{Declaration, IsDeclaration, IsStyle, is_style, style_of, written}
use Rattle.style_wash.proofs.Styles.{styles_are_fixed_points}
use Rattle.wash_attributes.specs.Attributes.{join_styles}
use Rattle.wash_attributes.specs.Soundness.{as_written}

style_one : (d : Declaration) → style_of (d ∷ []) ≡ written d
unfolding style_of
style_one d = append-nil (written d)

style_more : (d e : Declaration) (more : List Declaration) → style_of (d ∷ e ∷ more) ≡ written d ++ (codes "; " ++ style_of (e ∷ more))
unfolding style_of
style_more d e more = ap (λ (t : List ℕ). written d ++ t) (append_assoc (codes "; ") (written e) _)

style_of-append : (d : Declaration) (ds : List Declaration) (e : Declaration) (es : List Declaration) → style_of ((d ∷ ds) ++ e ∷ es) ≡ style_of (d ∷ ds) ++ (codes "; " ++ style_of (e ∷ es))
style_of-append d [] e es = style_more d e es ∙ ap (λ (t : List ℕ). t ++ (codes "; " ++ style_of (e ∷ es))) (sym (style_one d))
style_of-append d (x ∷ ds) e es =
    style_more d x (ds ++ e ∷ es)
    ∙ ap (λ (t : List ℕ). written d ++ (codes "; " ++ t)) (style_of-append x ds e es)
    ∙ sym (append_assoc (written d) (codes "; " ++ style_of (x ∷ ds)) (codes "; " ++ style_of (e ∷ es)))
    ∙ ap (λ (t : List ℕ). t ++ (codes "; " ++ style_of (e ∷ es))) (sym (style_more d x ds))

each-append : (ds es : List Declaration) → AllByRecursion IsDeclaration ds → AllByRecursion IsDeclaration es → AllByRecursion IsDeclaration (ds ++ es)
each-append [] es f g = g
each-append (d ∷ ds) es f g = (f.0, each-append ds es f.1 g)

both_styles : (ds es : List Declaration) → AllByRecursion IsDeclaration ds → AllByRecursion IsDeclaration es → is_empty (style_of ds) ≡ false → is_empty (style_of es) ≡ false → IsStyle (style_of ds ++ (codes "; " ++ style_of es))
unfolding style_of
both_styles [] es f g some more = absurd cc
both_styles (d ∷ ds) [] f g some more = absurd cc
both_styles (d ∷ ds) (e ∷ es) f g some more = record { all = (d ∷ ds) ++ e ∷ es; each = each-append (d ∷ ds) (e ∷ es) f g; is = sym (style_of-append d ds e es) }

both_are_style : (x y : List ℕ) → is_empty x ≡ false → is_empty y ≡ false → is_style x ≡ true → is_style y ≡ true → is_style (x ++ (codes "; " ++ y)) ≡ true
both_are_style x y some more f g =
    let first = (styles_are_fixed_points x).1 f in
    let last = (styles_are_fixed_points y).1 g in
    let both = both_styles first.all last.all first.each last.each (ap is_empty (sym first.is) ∙ some) (ap is_empty (sym last.is) ∙ more) in
    (styles_are_fixed_points (x ++ (codes "; " ++ y))).0
    (subst (λ (t : List ℕ). IsStyle (t ++ (codes "; " ++ y))) (sym first.is) (subst (λ (t : List ℕ). IsStyle (style_of first.all ++ (codes "; " ++ t))) (sym last.is) both))

pub empty_style : is_style [] ≡ true
unfolding style_of
empty_style = (styles_are_fixed_points []).0 (record { all = []; each = tt; is = refl })

-- as both are written
pub joined_style : (declared own : List ℕ) → is_style (as_written declared) ≡ true → is_style (as_written own) ≡ true → is_style (as_written (join_styles declared own)) ≡ true
joined_style [] own f g = g
joined_style (c ∷ cs) [] f g = f
joined_style (c ∷ cs) (o ∷ os) f g =
    ap (λ (t : List ℕ). is_style (as_written t)) (append_assoc (c ∷ cs) (codes "; ") (o ∷ os))
    ∙ ap is_style (map-append replace_null (c ∷ cs) (codes "; " ++ (o ∷ os)))
    ∙ both_are_style (as_written (c ∷ cs)) (as_written (o ∷ os)) refl refl f g
