-- The named character references that are read (HTML Standard 13.5): all names that the Standard reads without a semicolon, and
-- 40 of those that it reads only with one.
use Rattle.std.specs.Prelude.{ℕ, ◌+◌, ◌==◌, List, [], ◌∷◌, ◌++◌, map, codes}
use Rattle.std.specs.List.{slice_split}
use Rattle.html_syntax.specs.Characters.{space, semicolon, ampersand, less_than, greater_than, quotation_mark}

-- the text after the `&`, and the character of the reference
pub record Name : Type 0 where
  pub spelling : List ℕ
  pub char : ℕ

abbrev pub new_name : List ℕ → ℕ → Name
new_name spelling char = record { spelling = spelling; char = char }

-- the words of a text, separated by spaces
abbrev pub words : List ℕ → List (List ℕ)
words text = slice_split (λ c. c == space) text

-- names of consecutive characters, the first of which is `n`
abbrev pub named_from : ℕ → List (List ℕ) → List Name
named_from n [] = []
named_from n (x ∷ xs) = new_name x n ∷ named_from (n + 1) xs

-- the same name with its semicolon
abbrev pub with_semicolon : Name → Name
with_semicolon n = new_name (n.spelling ++ semicolon ∷ []) n.char

-- U+00A0 to U+00FF in order
abbrev pub latin_names : List Name
latin_names = named_from 0xA0 (
    words (codes "nbsp iexcl cent pound curren yen brvbar sect uml copy ordf laquo not shy reg macr")
    ++ words (codes "deg plusmn sup2 sup3 acute micro para middot cedil sup1 ordm raquo frac14 frac12 frac34 iquest")
    ++ words (codes "Agrave Aacute Acirc Atilde Auml Aring AElig Ccedil Egrave Eacute Ecirc Euml Igrave Iacute Icirc Iuml")
    ++ words (codes "ETH Ntilde Ograve Oacute Ocirc Otilde Ouml times Oslash Ugrave Uacute Ucirc Uuml Yacute THORN szlig")
    ++ words (codes "agrave aacute acirc atilde auml aring aelig ccedil egrave eacute ecirc euml igrave iacute icirc iuml")
    ++ words (codes "eth ntilde ograve oacute ocirc otilde ouml divide oslash ugrave uacute ucirc uuml yacute thorn yuml"))

-- read with and without a semicolon
abbrev pub names_without_semicolon : List Name
names_without_semicolon = new_name (codes "amp") ampersand
    ∷ new_name (codes "lt") less_than
    ∷ new_name (codes "gt") greater_than
    ∷ new_name (codes "quot") quotation_mark
    ∷ new_name (codes "AMP") ampersand
    ∷ new_name (codes "LT") less_than
    ∷ new_name (codes "GT") greater_than
    ∷ new_name (codes "QUOT") quotation_mark
    ∷ new_name (codes "COPY") 0xA9
    ∷ new_name (codes "REG") 0xAE
    ∷ latin_names

-- read with a semicolon only
abbrev pub further_names : List Name
further_names = new_name (codes "apos") 0x27
    ∷ new_name (codes "OElig") 0x152
    ∷ new_name (codes "oelig") 0x153
    ∷ new_name (codes "Scaron") 0x160
    ∷ new_name (codes "scaron") 0x161
    ∷ new_name (codes "Yuml") 0x178
    ∷ new_name (codes "fnof") 0x192
    ∷ new_name (codes "ensp") 0x2002
    ∷ new_name (codes "emsp") 0x2003
    ∷ new_name (codes "thinsp") 0x2009
    ∷ new_name (codes "zwnj") 0x200C
    ∷ new_name (codes "zwj") 0x200D
    ∷ new_name (codes "ndash") 0x2013
    ∷ new_name (codes "mdash") 0x2014
    ∷ new_name (codes "lsquo") 0x2018
    ∷ new_name (codes "rsquo") 0x2019
    ∷ new_name (codes "sbquo") 0x201A
    ∷ new_name (codes "ldquo") 0x201C
    ∷ new_name (codes "rdquo") 0x201D
    ∷ new_name (codes "bdquo") 0x201E
    ∷ new_name (codes "dagger") 0x2020
    ∷ new_name (codes "Dagger") 0x2021
    ∷ new_name (codes "bull") 0x2022
    ∷ new_name (codes "hellip") 0x2026
    ∷ new_name (codes "permil") 0x2030
    ∷ new_name (codes "lsaquo") 0x2039
    ∷ new_name (codes "rsaquo") 0x203A
    ∷ new_name (codes "euro") 0x20AC
    ∷ new_name (codes "trade") 0x2122
    ∷ new_name (codes "larr") 0x2190
    ∷ new_name (codes "uarr") 0x2191
    ∷ new_name (codes "rarr") 0x2192
    ∷ new_name (codes "darr") 0x2193
    ∷ new_name (codes "harr") 0x2194
    ∷ new_name (codes "minus") 0x2212
    ∷ new_name (codes "infin") 0x221E
    ∷ new_name (codes "ne") 0x2260
    ∷ new_name (codes "le") 0x2264
    ∷ new_name (codes "ge") 0x2265
    ∷ new_name (codes "hearts") 0x2665
    ∷ []

-- every name as it is written
abbrev pub names : List Name
names = names_without_semicolon ++ map with_semicolon (names_without_semicolon ++ further_names)
