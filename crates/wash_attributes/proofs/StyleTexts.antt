-- Styles as the code joins them: bytes that are read as characters.
use Rattle.std.proofs.Common.{◌≡◌, ℕ, Bool, true, false, ◌||◌, IsTrue, List, [], ◌∷◌, ◌++◌, codes, chars, encode_utf8_all, IsUtf8, Some, None, refl, sym, ap, ◌∙◌}
use Rattle.std.specs.Str as str
use Rattle.std.proofs.lemmas.List.{append-nil}
use Rattle.std.proofs.lemmas.Str.{chars-append, chars-nil, encodes-chars, IsUtf8-append, IsUtf8-from_ascii}
use Rattle.std.specs.List.{list_all}
use Rattle.html_syntax.specs.Token.{Attribute}
use Rattle.html_syntax.specs.Tokenizer.{has_name}
use Rattle.html_rules.specs.Values.{is_empty}
use Rattle.style_wash.specs.Characters.{is_style_char}
use Rattle.style_wash.specs.Declarations.{stylewash}
use Rattle.wash_attributes.specs.Values.{unless_empty}
use Rattle.wash_attributes.specs.Attributes.{attribute, join_styles, with_style}
use Rattle.wash_attributes.proofs.AsciiValues.{is_ascii, ascii_of, style_chars_same}

-- ---- empty texts

some_encoded : (cs : List ℕ) (b : ℕ) (bs : List ℕ) → encode_utf8_all cs ≡ b ∷ bs → is_empty cs ≡ false
some_encoded [] b bs e = absurd cc
some_encoded (c ∷ cs) b bs e = refl

pub empty_chars : (bs : List ℕ) → IsUtf8 bs → is_empty (chars bs) ≡ is_empty bs
empty_chars [] utf8 = ap is_empty chars-nil
empty_chars (b ∷ bs) utf8 = some_encoded (chars (b ∷ bs)) b bs (encodes-chars (b ∷ bs) utf8)

-- ---- a style after another one

pub join_none : (declared own : List ℕ) → IsUtf8 declared → is_empty declared ≡ true → chars own ≡ join_styles (chars declared) (chars own)
join_none declared own utf8 none = rw (empty_chars declared utf8 ∙ none) refl

pub join_first : (declared own : List ℕ) → IsUtf8 declared → IsUtf8 own → is_empty declared ≡ false → is_empty own ≡ true → chars declared ≡ join_styles (chars declared) (chars own)
join_first declared own utf8 own_utf8 some none = rw (empty_chars declared utf8 ∙ some, empty_chars own own_utf8 ∙ none) refl

joined_chars : (declared own : List ℕ) → IsUtf8 declared → chars (declared ++ codes "; " ++ own) ≡ chars declared ++ codes "; " ++ chars own
unfolding str.chars is_ascii
joined_chars declared own utf8 =
    chars-append (declared ++ codes "; ") own (IsUtf8-append declared (codes "; ") utf8 (IsUtf8-from_ascii (codes "; ") (ascii_of (codes "; ") refl)))
    ∙ ap (λ (t : List ℕ). t ++ chars own) (chars-append declared (codes "; ") utf8)

pub join_both : (declared own : List ℕ) → IsUtf8 declared → IsUtf8 own → is_empty declared ≡ false → is_empty own ≡ false → chars (declared ++ codes "; " ++ own) ≡ join_styles (chars declared) (chars own)
join_both declared own utf8 own_utf8 some more = joined_chars declared own utf8 ∙ rw (empty_chars declared utf8 ∙ some, empty_chars own own_utf8 ∙ more) refl

-- ---- an element's own style

true_of : (b : Bool) → IsTrue b → b ≡ true
true_of true h = refl
true_of false h = absurd cc

pub joined_is : (value own style declared : List ℕ) → IsUtf8 value → own ≡ stylewash value → IsTrue (list_all is_style_char own) → chars style ≡ join_styles declared (chars own) → chars style ≡ join_styles declared (stylewash (encode_utf8_all (chars value)))
joined_is value own style declared utf8 e all is =
    is ∙ ap (join_styles declared) (style_chars_same own (true_of _ all) ∙ e ∙ ap stylewash (sym (encodes-chars value utf8)))

pub kept_style : (style joined : List ℕ) → IsUtf8 style → chars style ≡ joined → is_empty style ≡ false → Some (chars style) ≡ unless_empty joined
kept_style style joined utf8 e some = rw (ap is_empty (sym e) ∙ empty_chars style utf8 ∙ some) (ap Some e)

pub dropped_style : (style joined : List ℕ) → IsUtf8 style → chars style ≡ joined → is_empty style ≡ true → None ≡ unless_empty joined
dropped_style style joined utf8 e none = rw (ap is_empty (sym e) ∙ empty_chars style utf8 ∙ none) refl

-- ---- the style of a tag without one

with_nothing : (declared : List ℕ) (kept : List Attribute) → (is_empty declared || has_name (codes "style") kept) ≡ true → kept ≡ with_style declared kept
with_nothing declared kept e = rw e (sym (append-nil kept))

or_true : (a b : Bool) → b ≡ true → (a || b) ≡ true
or_true true b h = refl
or_true false b h = h

pub nothing_declared : (declared : List ℕ) (kept : List Attribute) → IsUtf8 declared → is_empty declared ≡ true → kept ≡ with_style (chars declared) kept
nothing_declared declared kept utf8 none = with_nothing (chars declared) kept (ap (λ b. b || has_name (codes "style") kept) (empty_chars declared utf8 ∙ none))

pub style_there : (declared : List ℕ) (kept : List Attribute) → has_name (codes "style") kept ≡ true → kept ≡ with_style declared kept
style_there declared kept there = with_nothing declared kept (or_true (is_empty declared) _ there)

pub style_added : (declared : List ℕ) (kept : List Attribute) → IsUtf8 declared → is_empty declared ≡ false → has_name (codes "style") kept ≡ false → kept ++ attribute (codes "style") (chars declared) ∷ [] ≡ with_style (chars declared) kept
style_added declared kept utf8 some none = rw (empty_chars declared utf8 ∙ some, none) refl
