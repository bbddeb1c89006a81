-- How a page is spelled, and which lists of tokens a page may have.
use Rattle.std.specs.Prelude.{◌≡◌, ℕ, Bool, true, false, not, ◌&&◌, ◌==◌, if◌then◌else◌, List, [], ◌∷◌, ◌++◌, codes, encode_utf8_all, IsTrue}
use Rattle.std.specs.List.{AllByRecursion, list_all}
use Rattle.std.specs.Char.{IsScalar}
use Rattle.html_syntax.specs.Characters.{null, carriage_return, space, quotation_mark, ampersand, solidus, less_than, greater_than, replacement}
use Rattle.html_syntax.specs.Token.{Attribute, Token}
use Rattle.html_syntax.specs.Token.Token.{Start, End, Char, Comment, Doctype}
use Rattle.html_syntax.specs.Tokenizer.{has_name, same, tokens_of_bytes}
use Rattle.html_rules.specs.Tables.{Name, is_element, is_void, is_text_only, is_attribute_name}

-- ---- spelling (HTML Standard, 13.1 and 13.3)

-- how a character is spelled in a text or a quoted value; U+0000, which no page can hold, is U+FFFD
abbrev pub spell_char : ℕ → List ℕ
spell_char c =
    if c == less_than then codes "&lt;"
    else (if c == greater_than then codes "&gt;"
    else (if c == ampersand then codes "&amp;"
    else (if c == quotation_mark then codes "&quot;"
    else (if c == carriage_return then codes "&#13;"
    else (if c == null then replacement ∷ [] else c ∷ [])))))

abbrev pub spell_chars : List ℕ → List ℕ
spell_chars [] = []
spell_chars (c ∷ cs) = spell_char c ++ spell_chars cs

-- ` name="value"`
abbrev pub spell_attribute : Attribute → List ℕ
spell_attribute a = space ∷ a.name ++ codes "=\"" ++ spell_chars a.value ++ quotation_mark ∷ []

abbrev pub spell_attributes : List Attribute → List ℕ
spell_attributes [] = []
spell_attributes (a ∷ rest) = spell_attribute a ++ spell_attributes rest

-- a page has no comments
abbrev pub spell_token : Token → List ℕ
spell_token (Start name attributes) = less_than ∷ name ++ spell_attributes attributes ++ greater_than ∷ []
spell_token (End name) = less_than ∷ solidus ∷ name ++ greater_than ∷ []
spell_token (Char c) = spell_char c
spell_token (Comment text) = []
spell_token Doctype = codes "<!DOCTYPE html>"

unfoldable pub spell : List Token → List ℕ
spell [] = []
spell (t ∷ ts) = spell_token t ++ spell ts

-- ---- which token may be appended

-- a character other than U+0000
abbrev pub IsWritable : ℕ → Type 0
IsWritable c = IsTrue (not (c == null)) × IsScalar c

-- the attributes have listed names
abbrev pub are_attributes : List Attribute → Bool
are_attributes attributes = list_all (λ a. is_attribute_name a.name) attributes

-- the attributes have different names
abbrev pub are_distinct : List Attribute → Bool
are_distinct [] = true
are_distinct (a ∷ rest) = not (has_name a.name rest) && are_distinct rest

-- the innermost open element, if any, may contain tags
abbrev pub takes_tags : List Name → Bool
takes_tags [] = true
takes_tags (name ∷ outer) = not (is_text_only name)

abbrev pub innermost_is : Name → List Name → Bool
innermost_is name [] = false
innermost_is name (inner ∷ outer) = same inner name

-- a start tag with this name and these attributes may be appended if these elements are open, innermost first
abbrev pub MayStart : List Name → Name → List Attribute → Type 0
MayStart inside name attributes =
    IsTrue (is_element name) × IsTrue (takes_tags inside) × IsTrue (are_attributes attributes) × IsTrue (are_distinct attributes)

-- the token may be appended if these elements are open, innermost first
abbrev pub MayAppend : List Name → Token → Type 0
MayAppend inside (Start name attributes) = MayStart inside name attributes × AllByRecursion (λ a. AllByRecursion IsWritable a.value) attributes
MayAppend inside (End name) = IsTrue (is_element name) × IsTrue (innermost_is name inside)
MayAppend inside (Char c) = IsWritable c
MayAppend inside (Comment text) = ⊥
MayAppend inside Doctype = IsTrue (takes_tags inside)

-- the open elements but the innermost
abbrev pub outer : List Name → List Name
outer [] = []
outer (name ∷ names) = names

-- the elements that are open after the token
abbrev pub open_elements_after_token : List Name → Token → List Name
open_elements_after_token inside (Start name attributes) = if is_void name then inside else name ∷ inside
open_elements_after_token inside (End name) = outer inside
open_elements_after_token inside t = inside

-- the tokens may be appended one after another if `inside` are open, and `after` are open then
unfoldable pub MayAppendAll : List Name → List Token → List Name → Type 0
MayAppendAll inside [] after = inside ≡ after
MayAppendAll inside (t ∷ ts) after = MayAppend inside t × MayAppendAll (open_elements_after_token inside t) ts after

-- a page of such tokens reads as these tokens
abbrev pub PagesReadAsWritten : Type 0
PagesReadAsWritten = (page : List Token) → MayAppendAll [] page [] → tokens_of_bytes (encode_utf8_all (spell page)) ≡ page
