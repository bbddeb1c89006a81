-- The bytes of tags, and the texts of their names and attributes.
use Rattle.std.specs.Prelude.{◌≡◌, ◌≢◌, ◌⊎◌, ℕ, Bool, false, if◌then◌else◌, not, ◌&&◌, ◌||◌, ◌==◌, List, [], ◌∷◌, ◌++◌, take, drop, map, Option, MatchOption}
use Rattle.std.specs.Char.{is_ascii_alphabetic}
use Rattle.html_syntax.specs.Token.{Attribute, Token}
use Rattle.html_syntax.specs.Characters.{carriage_return, quotation_mark, apostrophe, solidus, equals_sign, greater_than, is_between, is_space, lower}
use Rattle.html_syntax.specs.States.{Tag, has_name, keep, keep_flag, emit, replace_null}
use Rattle.html_syntax.specs.States.State.{BeforeName, AfterName, BeforeValue}
use Rattle.html_syntax.specs.Tokenizer.{read, emitted_tokens, next_state}
use Rattle.html_references.specs.Input.{input, read_as}
use Rattle.html_references.specs.declared.stretch.ReadAs.TheVariants as reads
use Rattle.html_tokens.specs.Scanned.{slice_between}
use Rattle.html_tokens.specs.declared.tags.AttributePlace.{AttributePlace}
use Rattle.html_tokens.specs.declared.tags.ValuePlace.{ValuePlace}
use Rattle.html_tokens.specs.declared.tags.Class.{Class}
use Rattle.html_tokens.specs.declared.tags.Class.TheVariants as class

-- the tag with more of its name
abbrev pub extend_name : Tag → List ℕ → Tag
extend_name tag text = record { is_end = tag.is_end; name = tag.name ++ map lower (map replace_null text); attributes = tag.attributes }

abbrev pub with_attributes : Tag → List Attribute → Tag
with_attributes tag attributes = record { is_end = tag.is_end; name = tag.name; attributes = attributes }

-- the tag's token, and the tokens of the text after its `>`
abbrev pub tokens_after_tag : Tag → List ℕ → List Token
tokens_after_tag tag text = emitted_tokens (emit tag) ++ read (next_state (emit tag)) 0 text

-- a byte that is read as white space, with the carriage return, which is read as a line feed
abbrev pub is_blank : ℕ → Bool
is_blank b = is_space b || b == carriage_return

-- the byte is in the class (13.2.5.8, 13.2.5.32, 13.2.5.33, 13.2.5.34 and 13.2.5.38)
abbrev pub in_class : Class → ℕ → Bool
in_class class.TagName b = not (is_blank b || b == solidus || b == greater_than)
in_class class.Gap b = is_space b || b == solidus || b == carriage_return
in_class class.AttributeName b = not (is_blank b || b == solidus || b == greater_than || b == equals_sign)
in_class class.Space b = is_blank b
in_class class.UnquotedValue b = not (is_blank b || b == greater_than)

-- the name of a stretch: ASCII letters lowered, U+0000 as U+FFFD
abbrev pub read_name : List ℕ → List ℕ
read_name bytes = map lower (map replace_null (input bytes))

-- the letter that a name begins with, or 0
abbrev pub initial : List ℕ → ℕ
initial [] = 0
initial (c ∷ more) = if is_between 0x61 0x7A c then c else 0

-- the letter that a stretch begins with, lowered, or 0
abbrev pub initial_byte : List ℕ → ℕ
initial_byte [] = 0
initial_byte (b ∷ more) = if is_ascii_alphabetic b then lower b else 0

-- a visible ASCII character that isn't an upper alpha
abbrev pub is_word_char : ℕ → Bool
is_word_char c = is_between 0x21 0x7E c && not (is_between 0x41 0x5A c)

-- the value of a stretch
abbrev pub read_value : List ℕ → List ℕ
read_value bytes = read_as reads.Value (input bytes)

-- the bytes are empty or begin with a byte that fails the test
abbrev pub BeginsOutside : (ℕ → Bool) → List ℕ → Type 0
BeginsOutside p [] = Unit {0}
BeginsOutside p (b ∷ bytes) = p b ≡ false

abbrev pub begins_quoted : List ℕ → Bool
begins_quoted [] = false
begins_quoted (b ∷ bytes) = b == quotation_mark || b == apostrophe

-- The text after the `=` of an attribute has its value at this place.
abbrev pub ReadsValueAt : List ℕ → ValuePlace → Type 0
ReadsValueAt rest place =
    (tag : Tag) (name : List ℕ)
    → read (BeforeValue tag name) 0 (input rest) ≡ read (BeforeName (keep tag name (read_value (slice_between place.start place.end rest)))) 0 (input (drop place.after rest))

-- The text after the name of an attribute has a `=` right before the offset; or, if there is none, the attribute has no value.
abbrev pub ReadsEqualsBefore : List ℕ → Option ℕ → Type 0
ReadsEqualsBefore rest found =
    (tag : Tag) (name : List ℕ)
    → MatchOption found (read (AfterName tag name) 0 (input rest) ≡ read (BeforeName (keep_flag tag name)) 0 (input rest))
    (λ n. read (AfterName tag name) 0 (input rest) ≡ read (BeforeValue tag name) 0 (input (drop n rest)))

-- the text begins with an attribute's name
abbrev pub BeginsAttribute : List ℕ → Type 0
BeginsAttribute [] = ⊥
BeginsAttribute (b ∷ bytes) = (in_class class.Gap b ≡ false) × (b ≢ greater_than)

-- the text is empty or begins with the tag's `>`
abbrev pub EndsTag : List ℕ → Type 0
EndsTag [] = Unit {0}
EndsTag (b ∷ bytes) = b ≡ greater_than

-- the attribute that the text begins with
abbrev pub attribute_at : List ℕ → AttributePlace → Attribute
attribute_at rest place = record { name = read_name (take place.name rest); value = read_value (slice_between place.value place.value_end rest) }

-- the tag with one more attribute, if none of its own has that name
abbrev pub keep_attribute : Tag → Attribute → Tag
keep_attribute tag a = keep tag a.name a.value

-- A text that begins with an attribute's name has the attribute at this place.
abbrev pub ReadsAttributeAt : List ℕ → AttributePlace → Type 0
ReadsAttributeAt rest place = (tag : Tag) → read (BeforeName tag) 0 (input rest) ≡ read (BeforeName (keep_attribute tag (attribute_at rest place))) 0 (input (drop place.end rest))

-- the attributes with one more, if none of them has its name
abbrev pub add_attribute : List Attribute → Attribute → List Attribute
add_attribute attributes a = if has_name a.name attributes then attributes else attributes ++ a ∷ []

-- The text after the name of a tag has the tag's `>` right before the offset; or, if there is none, the tag gives no token.
abbrev pub TagEndsAfter : List ℕ → Option ℕ → Type 0
TagEndsAfter rest end =
    (tag : Tag)
    → MatchOption end (read (BeforeName tag) 0 (input rest) ≡ [])
    (λ n. (attributes : List Attribute) × (read (BeforeName tag) 0 (input rest) ≡ tokens_after_tag (with_attributes tag attributes) (input (drop n rest))))

-- The text after the name of a tag has these attributes; or it ends before the tag, which then gives no token.
abbrev pub ReadsAttributes : List ℕ → List Attribute → Type 0
ReadsAttributes rest attributes =
    (tag : Tag) → tag.attributes ≡ []
    → (read (BeforeName tag) 0 (input rest) ≡ []) ⊎ ((n : ℕ) × (read (BeforeName tag) 0 (input rest) ≡ tokens_after_tag (with_attributes tag attributes) (input (drop n rest))))
