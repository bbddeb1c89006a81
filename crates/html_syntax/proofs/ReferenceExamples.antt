-- Character references, computed at some texts.
use Rattle.std.proofs.Common.{◌≡◌, ℕ, List, [], ◌∷◌, ◌++◌, length, codes, refl, false}
use Rattle.html_syntax.specs.Token.{Token}
use Rattle.html_syntax.specs.Token.Token.{Start, Char}
use Rattle.html_syntax.specs.Names.{names_without_semicolon, further_names}
use Rattle.html_syntax.specs.References.{reference}
use Rattle.html_syntax.specs.Tokenizer.{chars}
use Rattle.html_syntax.proofs.Reading.{reading, AreRead, attribute}

-- whatever comes after it
less_than : (rest : List ℕ) → reference false (codes "lt;" ++ rest) ≡ record { len = 3; chars = 60 ∷ [] }
unfolding reading
less_than rest = refl

abbrev number_table : List (List ℕ × List Token)
number_table = (codes "&#65;&#x42;&#X43;", chars (codes "ABC"))
    ∷ (codes "&#65&#x4a&#x4B g", chars (codes "AJK g"))
    ∷ (codes "&#00000000065;", Char 65 ∷ [])
    -- without a digit
    ∷ (codes "&#;&#x;&#a&#xg&#", chars (codes "&#;&#x;&#a&#xg&#"))
    -- no character has this number
    ∷ (codes "&#0;&#xD800;&#xDFFF;&#x110000;&#99999999999999999999;", Char 0xFFFD ∷ Char 0xFFFD ∷ Char 0xFFFD ∷ Char 0xFFFD ∷ Char 0xFFFD ∷ [])
    ∷ (codes "&#xD7FF;&#xE000;&#x10FFFF;&#x7F;&#xA0;", Char 0xD7FF ∷ Char 0xE000 ∷ Char 0x10FFFF ∷ Char 0x7F ∷ Char 0xA0 ∷ [])
    -- the windows-1252 numbers
    ∷ (
      codes "&#x80;&#x81;&#x82;&#x83;&#x84;&#x85;&#x86;&#x87;&#x88;&#x89;&#x8A;&#x8B;&#x8C;&#x8D;&#x8E;&#x8F;",
      chars (0x20AC ∷ 0x81 ∷ 0x201A ∷ 0x192 ∷ 0x201E ∷ 0x2026 ∷ 0x2020 ∷ 0x2021 ∷ 0x2C6 ∷ 0x2030 ∷ 0x160 ∷ 0x2039 ∷ 0x152 ∷ 0x8D ∷ 0x17D ∷ 0x8F ∷ []),
    )
    ∷ (
      codes "&#144;&#145;&#146;&#147;&#148;&#149;&#150;&#151;&#152;&#153;&#154;&#155;&#156;&#157;&#158;&#159;",
      chars (0x90 ∷ 0x2018 ∷ 0x2019 ∷ 0x201C ∷ 0x201D ∷ 0x2022 ∷ 0x2013 ∷ 0x2014 ∷ 0x2DC ∷ 0x2122 ∷ 0x161 ∷ 0x203A ∷ 0x153 ∷ 0x9D ∷ 0x17E ∷ 0x178 ∷ []),
    )
    ∷ []

numbers : AreRead number_table
unfolding reading
numbers = refl

abbrev name_table : List (List ℕ × List Token)
name_table = (codes "&amp;&lt;&gt;&quot;&AMP;&LT;&GT;&QUOT;", chars (codes "&<>\"&<>\""))
    ∷ (codes "&amp&lt&gt&quot&COPY&REG&nbsp&yuml", chars (codes "&<>\"" ++ 0xA9 ∷ 0xAE ∷ 0xA0 ∷ 0xFF ∷ []))
    ∷ (codes "&apos;&euro;&hearts;&Dagger;&dagger;", chars (0x27 ∷ 0x20AC ∷ 0x2665 ∷ 0x2021 ∷ 0x2020 ∷ []))
    -- read with a semicolon only
    ∷ (codes "&apos &euro &hearts&le", chars (codes "&apos &euro &hearts&le"))
    -- the longest name is read
    ∷ (codes "&not;&notit;&notx&sup1;&sup1x&supx", chars (0xAC ∷ 0xAC ∷ codes "it;" ++ 0xAC ∷ codes "x" ++ 0xB9 ∷ 0xB9 ∷ codes "x&supx"))
    ∷ (codes "&ampamp;&amp;amp;&ltlt;", chars (codes "&amp;&amp;<lt;"))
    -- no name
    ∷ (codes "&;& &&x;&Amp;&LT", chars (codes "&;& &&x;&Amp;<"))
    ∷ []

names : AreRead name_table
unfolding reading
names = refl

-- each name that needs its semicolon, and each name of U+00A0 to U+00FF without its semicolon
abbrev whole_table : List (List ℕ × List Token)
whole_table = (codes "&apos;&OElig;&oelig;&Scaron;&scaron;&Yuml;&fnof;&ensp;", chars (0x27 ∷ 0x152 ∷ 0x153 ∷ 0x160 ∷ 0x161 ∷ 0x178 ∷ 0x192 ∷ 0x2002 ∷ []))
    ∷ (codes "&emsp;&thinsp;&zwnj;&zwj;&ndash;&mdash;&lsquo;&rsquo;", chars (0x2003 ∷ 0x2009 ∷ 0x200C ∷ 0x200D ∷ 0x2013 ∷ 0x2014 ∷ 0x2018 ∷ 0x2019 ∷ []))
    ∷ (codes "&sbquo;&ldquo;&rdquo;&bdquo;&dagger;&Dagger;&bull;&hellip;", chars (0x201A ∷ 0x201C ∷ 0x201D ∷ 0x201E ∷ 0x2020 ∷ 0x2021 ∷ 0x2022 ∷ 0x2026 ∷ []))
    ∷ (codes "&permil;&lsaquo;&rsaquo;&euro;&trade;&larr;&uarr;&rarr;", chars (0x2030 ∷ 0x2039 ∷ 0x203A ∷ 0x20AC ∷ 0x2122 ∷ 0x2190 ∷ 0x2191 ∷ 0x2192 ∷ []))
    ∷ (codes "&darr;&harr;&minus;&infin;&ne;&le;&ge;&hearts;", chars (0x2193 ∷ 0x2194 ∷ 0x2212 ∷ 0x221E ∷ 0x2260 ∷ 0x2264 ∷ 0x2265 ∷ 0x2665 ∷ []))
    ∷ (codes "&nbsp.&iexcl.&cent.&pound.&curren.&yen.&brvbar.&sect.&uml.&copy.&ordf.&laquo.&not.&shy.&reg.&macr.", chars (0xA0 ∷ 46 ∷ 0xA1 ∷ 46 ∷ 0xA2 ∷ 46 ∷ 0xA3 ∷ 46 ∷ 0xA4 ∷ 46 ∷ 0xA5 ∷ 46 ∷ 0xA6 ∷ 46 ∷ 0xA7 ∷ 46 ∷ 0xA8 ∷ 46 ∷ 0xA9 ∷ 46 ∷ 0xAA ∷ 46 ∷ 0xAB ∷ 46 ∷ 0xAC ∷ 46 ∷ 0xAD ∷ 46 ∷ 0xAE ∷ 46 ∷ 0xAF ∷ 46 ∷ []))
    ∷ (codes "&deg.&plusmn.&sup2.&sup3.&acute.&micro.&para.&middot.&cedil.&sup1.&ordm.&raquo.&frac14.&frac12.&frac34.&iquest.", chars (0xB0 ∷ 46 ∷ 0xB1 ∷ 46 ∷ 0xB2 ∷ 46 ∷ 0xB3 ∷ 46 ∷ 0xB4 ∷ 46 ∷ 0xB5 ∷ 46 ∷ 0xB6 ∷ 46 ∷ 0xB7 ∷ 46 ∷ 0xB8 ∷ 46 ∷ 0xB9 ∷ 46 ∷ 0xBA ∷ 46 ∷ 0xBB ∷ 46 ∷ 0xBC ∷ 46 ∷ 0xBD ∷ 46 ∷ 0xBE ∷ 46 ∷ 0xBF ∷ 46 ∷ []))
    ∷ (codes "&Agrave.&Aacute.&Acirc.&Atilde.&Auml.&Aring.&AElig.&Ccedil.&Egrave.&Eacute.&Ecirc.&Euml.&Igrave.&Iacute.&Icirc.&Iuml.", chars (0xC0 ∷ 46 ∷ 0xC1 ∷ 46 ∷ 0xC2 ∷ 46 ∷ 0xC3 ∷ 46 ∷ 0xC4 ∷ 46 ∷ 0xC5 ∷ 46 ∷ 0xC6 ∷ 46 ∷ 0xC7 ∷ 46 ∷ 0xC8 ∷ 46 ∷ 0xC9 ∷ 46 ∷ 0xCA ∷ 46 ∷ 0xCB ∷ 46 ∷ 0xCC ∷ 46 ∷ 0xCD ∷ 46 ∷ 0xCE ∷ 46 ∷ 0xCF ∷ 46 ∷ []))
    ∷ (codes "&ETH.&Ntilde.&Ograve.&Oacute.&Ocirc.&Otilde.&Ouml.&times.&Oslash.&Ugrave.&Uacute.&Ucirc.&Uuml.&Yacute.&THORN.&szlig.", chars (0xD0 ∷ 46 ∷ 0xD1 ∷ 46 ∷ 0xD2 ∷ 46 ∷ 0xD3 ∷ 46 ∷ 0xD4 ∷ 46 ∷ 0xD5 ∷ 46 ∷ 0xD6 ∷ 46 ∷ 0xD7 ∷ 46 ∷ 0xD8 ∷ 46 ∷ 0xD9 ∷ 46 ∷ 0xDA ∷ 46 ∷ 0xDB ∷ 46 ∷ 0xDC ∷ 46 ∷ 0xDD ∷ 46 ∷ 0xDE ∷ 46 ∷ 0xDF ∷ 46 ∷ []))
    ∷ (codes "&agrave.&aacute.&acirc.&atilde.&auml.&aring.&aelig.&ccedil.&egrave.&eacute.&ecirc.&euml.&igrave.&iacute.&icirc.&iuml.", chars (0xE0 ∷ 46 ∷ 0xE1 ∷ 46 ∷ 0xE2 ∷ 46 ∷ 0xE3 ∷ 46 ∷ 0xE4 ∷ 46 ∷ 0xE5 ∷ 46 ∷ 0xE6 ∷ 46 ∷ 0xE7 ∷ 46 ∷ 0xE8 ∷ 46 ∷ 0xE9 ∷ 46 ∷ 0xEA ∷ 46 ∷ 0xEB ∷ 46 ∷ 0xEC ∷ 46 ∷ 0xED ∷ 46 ∷ 0xEE ∷ 46 ∷ 0xEF ∷ 46 ∷ []))
    ∷ (codes "&eth.&ntilde.&ograve.&oacute.&ocirc.&otilde.&ouml.&divide.&oslash.&ugrave.&uacute.&ucirc.&uuml.&yacute.&thorn.&yuml.", chars (0xF0 ∷ 46 ∷ 0xF1 ∷ 46 ∷ 0xF2 ∷ 46 ∷ 0xF3 ∷ 46 ∷ 0xF4 ∷ 46 ∷ 0xF5 ∷ 46 ∷ 0xF6 ∷ 46 ∷ 0xF7 ∷ 46 ∷ 0xF8 ∷ 46 ∷ 0xF9 ∷ 46 ∷ 0xFA ∷ 46 ∷ 0xFB ∷ 46 ∷ 0xFC ∷ 46 ∷ 0xFD ∷ 46 ∷ 0xFE ∷ 46 ∷ 0xFF ∷ 46 ∷ []))
    ∷ []

whole : AreRead whole_table
unfolding reading
whole = refl

counts : (length names_without_semicolon ≡ 106) × (length further_names ≡ 40)
counts = (refl, refl)

-- a tag with one attribute
abbrev value : List ℕ → List ℕ → List ℕ × List Token
value written read_as = (codes "<a b=\"" ++ written ++ codes "\">", Start (codes "a") (attribute (codes "b") read_as ∷ []) ∷ [])

abbrev value_table : List (List ℕ × List Token)
value_table = value (codes "&amp;&#65;&#66&lt;") (codes "&AB<")
    -- without a semicolon, before = or a letter or digit: text
    ∷ value (codes "&copy=1&copya&copy2&copyZ&amp=") (codes "&copy=1&copya&copy2&copyZ&amp=")
    -- and else a reference
    ∷ value (codes "&copy &copy;=&copy-&copy") (0xA9 ∷ codes " " ++ 0xA9 ∷ codes "=" ++ 0xA9 ∷ codes "-" ++ 0xA9 ∷ [])
    ∷ value (codes "&notit;&not;it&#65=&#x41Z") (codes "&notit;" ++ 0xAC ∷ codes "itA=AZ")
    ∷ (codes "<a b=&lt;&copy=&copy c='&gt;&lt'>", Start (codes "a") (attribute (codes "b") (codes "<&copy=" ++ 0xA9 ∷ []) ∷ attribute (codes "c") (codes "><") ∷ []) ∷ [])
    -- a quote that a reference gives ends nothing
    ∷ value (codes "&quot;>&#34;") (codes "\">\"")
    ∷ []

values : AreRead value_table
unfolding reading
values = refl
