-- Tags, attributes and text, computed at some texts.
use Rattle.std.proofs.Common.{◌≡◌, ℕ, List, [], ◌∷◌, ◌++◌, codes, refl}
use Rattle.std.specs.Str.{chars as text_chars, is_utf8}
use Rattle.std.specs.Str.Lossy.{utf8_lossy, utf8_valid_len, utf8_error_len}
use lib.Utf8.{encode}
use Rattle.html_syntax.specs.Token.{Token}
use Rattle.html_syntax.specs.Token.Token.{Start, End, Char, Comment}
use Rattle.html_syntax.specs.Tokenizer.{tokens, tokens_of_bytes, chars}
use Rattle.html_syntax.proofs.Reading.{reading, AreRead, attribute}

-- a `<` in a tag's name belongs to the name
tag_in_tag_name : tokens (codes "<scr<script>ipt>x</script>y") ≡ Start (codes "scr<script") [] ∷ chars (codes "ipt>x") ++ End (codes "script") ∷ chars (codes "y")
unfolding reading
tag_in_tag_name = refl

unquoted_and_repeated_attributes : tokens (codes "<img src=x onerror=alert(1)><IMG SRC=\"cid:top%40n\" src=\"http://e.example/\">")
    ≡ Start (codes "img") (attribute (codes "src") (codes "x") ∷ attribute (codes "onerror") (codes "alert(1)") ∷ [])
    ∷ Start (codes "img") (attribute (codes "src") (codes "cid:top%40n") ∷ []) ∷ []
unfolding reading
unquoted_and_repeated_attributes = refl

links : tokens (codes "<a href=\"jav&#9;ascript:1\">t</a><a href=\" HTTPS://E.example/a b\">u</a>")
    ≡ Start (codes "a") (attribute (codes "href") (codes "jav" ++ 9 ∷ codes "ascript:1") ∷ []) ∷ Char 116 ∷ End (codes "a")
    ∷ Start (codes "a") (attribute (codes "href") (codes " HTTPS://E.example/a b") ∷ []) ∷ Char 117 ∷ End (codes "a") ∷ []
unfolding reading
links = refl

-- no end tag is asked for, and none needs its start tag
unbalanced_tags : tokens (codes "</div></div><p>a<p>b<table><tr><td>1<td>2</table>")
    ≡ End (codes "div") ∷ End (codes "div") ∷ Start (codes "p") [] ∷ Char 97 ∷ Start (codes "p") [] ∷ Char 98
    ∷ Start (codes "table") [] ∷ Start (codes "tr") [] ∷ Start (codes "td") [] ∷ Char 49 ∷ Start (codes "td") [] ∷ Char 50 ∷ End (codes "table") ∷ []
unfolding reading
unbalanced_tags = refl

references_in_value_and_text : tokens (codes "<b title='\"&gt;&notanentity; &copy=1'>&#13;&#0;&#128;</b>")
    ≡ Start (codes "b") (attribute (codes "title") (codes "\">&notanentity; &copy=1") ∷ []) ∷ Char 13 ∷ Char 0xFFFD ∷ Char 0x20AC ∷ End (codes "b") ∷ []
unfolding reading
references_in_value_and_text = refl

abbrev text_table : List (List ℕ × List Token)
text_table = ([], [])
    ∷ (codes "a < b", chars (codes "a < b"))
    ∷ (codes "<1></1>", chars (codes "<1>") ++ Comment (codes "1") ∷ [])
    ∷ (codes "<<b>", Char 60 ∷ Start (codes "b") [] ∷ [])
    ∷ (codes "a></>b", chars (codes "a>b"))
    ∷ (codes "]]>", chars (codes "]]>"))
    ∷ []

text : AreRead text_table
unfolding reading
text = refl

abbrev tag_table : List (List ℕ × List Token)
tag_table = (codes "<B></B >", Start (codes "b") [] ∷ End (codes "b") ∷ [])
    ∷ (codes "<br/><br /><br/ >", Start (codes "br") [] ∷ Start (codes "br") [] ∷ Start (codes "br") [] ∷ [])
    ∷ (codes "<a\n>\t<\n>", Start (codes "a") [] ∷ Char 9 ∷ Char 60 ∷ Char 10 ∷ Char 62 ∷ [])
    ∷ (codes "<H1>", Start (codes "h1") [] ∷ [])
    -- white space: a form feed, and a tabulation
    ∷ (codes "<a" ++ 12 ∷ codes "b" ++ 12 ∷ codes "=" ++ 12 ∷ codes "c" ++ 12 ∷ codes "d>", Start (codes "a") (attribute (codes "b") (codes "c") ∷ attribute (codes "d") [] ∷ []) ∷ [])
    ∷ (codes "</a" ++ 12 ∷ codes "b>\t<a\tb>", End (codes "a") ∷ Char 9 ∷ Start (codes "a") (attribute (codes "b") [] ∷ []) ∷ [])
    -- an end tag has no attributes
    ∷ (codes "</a b=1 c/>", End (codes "a") ∷ [])
    ∷ []

tags : AreRead tag_table
unfolding reading
tags = refl

abbrev attribute_table : List (List ℕ × List Token)
attribute_table = (codes "<a b>", Start (codes "a") (attribute (codes "b") [] ∷ []) ∷ [])
    ∷ (codes "<a B=C>", Start (codes "a") (attribute (codes "b") (codes "C") ∷ []) ∷ [])
    ∷ (codes "<a b=>", Start (codes "a") (attribute (codes "b") [] ∷ []) ∷ [])
    ∷ (codes "<a b = c>", Start (codes "a") (attribute (codes "b") (codes "c") ∷ []) ∷ [])
    ∷ (codes "<a/b/c>", Start (codes "a") (attribute (codes "b") [] ∷ attribute (codes "c") [] ∷ []) ∷ [])
    ∷ (codes "<a b c=d/e>", Start (codes "a") (attribute (codes "b") [] ∷ attribute (codes "c") (codes "d/e") ∷ []) ∷ [])
    ∷ (codes "<a b='c'd>", Start (codes "a") (attribute (codes "b") (codes "c") ∷ attribute (codes "d") [] ∷ []) ∷ [])
    ∷ (codes "<a b=\"'>\" c='\">'>", Start (codes "a") (attribute (codes "b") (codes "'>") ∷ attribute (codes "c") (codes "\">") ∷ []) ∷ [])
    ∷ (codes "<a b=c\"d'<=`>", Start (codes "a") (attribute (codes "b") (codes "c\"d'<=`") ∷ []) ∷ [])
    ∷ (codes "<a \"'<>", Start (codes "a") (attribute (codes "\"'<") [] ∷ []) ∷ [])
    -- an = at the beginning of a name belongs to the name
    ∷ (codes "<a =x>", Start (codes "a") (attribute (codes "=x") [] ∷ []) ∷ [])
    ∷ (codes "<a ==x>", Start (codes "a") (attribute (codes "=") (codes "x") ∷ []) ∷ [])
    -- of attributes of one name the first is kept
    ∷ (codes "<a b=1 c b=2 B=3 b c=4>", Start (codes "a") (attribute (codes "b") (codes "1") ∷ attribute (codes "c") [] ∷ []) ∷ [])
    ∷ []

attributes : AreRead attribute_table
unfolding reading
attributes = refl

abbrev null_table : List (List ℕ × List Token)
null_table = (97 ∷ 0 ∷ [], Char 97 ∷ Char 0 ∷ [])
    ∷ (codes "<a" ++ 0 ∷ codes "></a" ++ 0 ∷ codes ">", Start (97 ∷ 0xFFFD ∷ []) [] ∷ End (97 ∷ 0xFFFD ∷ []) ∷ [])
    ∷ (codes "<" ++ 0 ∷ codes ">", Char 60 ∷ Char 0 ∷ Char 62 ∷ [])
    ∷ (codes "<a " ++ 0 ∷ codes "=" ++ 0 ∷ codes ">", Start (codes "a") (attribute (0xFFFD ∷ []) (0xFFFD ∷ []) ∷ []) ∷ [])
    ∷ (codes "<a b=\"" ++ 0 ∷ codes "\">", Start (codes "a") (attribute (codes "b") (0xFFFD ∷ []) ∷ []) ∷ [])
    ∷ (codes "<!--" ++ 0 ∷ codes ">", Comment (0xFFFD ∷ 62 ∷ []) ∷ [])
    ∷ (codes "<!--" ++ 0 ∷ codes "-->", Comment (0xFFFD ∷ []) ∷ [])
    ∷ (codes "<?" ++ 0 ∷ codes ">", Comment (63 ∷ 0xFFFD ∷ []) ∷ [])
    ∷ (codes "<title>" ++ 0 ∷ codes "</title" ++ 0 ∷ codes ">", Start (codes "title") [] ∷ Char 0xFFFD ∷ chars (codes "</title") ++ Char 0xFFFD ∷ Char 62 ∷ [])
    ∷ (codes "<style>" ++ 0 ∷ [], Start (codes "style") [] ∷ Char 0xFFFD ∷ [])
    ∷ (codes "<plaintext>" ++ 0 ∷ [], Start (codes "plaintext") [] ∷ Char 0xFFFD ∷ [])
    ∷ (
      codes "<script>" ++ 0 ∷ codes "<!--" ++ 0 ∷ codes "-" ++ 0 ∷ codes "--" ++ 0 ∷ codes "<script>" ++ 0 ∷ [],
      Start (codes "script") [] ∷ Char 0xFFFD ∷ chars (codes "<!--") ++ Char 0xFFFD ∷ Char 45 ∷ Char 0xFFFD ∷ chars (codes "--") ++ Char 0xFFFD ∷ chars (codes "<script>") ++ Char 0xFFFD ∷ [],
    )
    ∷ []

-- U+0000 stays in text, and is U+FFFD elsewhere
null_characters : AreRead null_table
unfolding reading
null_characters = refl

abbrev newline_table : List (List ℕ × List Token)
newline_table = (codes "a" ++ 13 ∷ 10 ∷ 13 ∷ codes "b", Char 97 ∷ Char 10 ∷ Char 10 ∷ Char 98 ∷ [])
    ∷ (13 ∷ 13 ∷ 10 ∷ 10 ∷ 10 ∷ 13 ∷ [], Char 10 ∷ Char 10 ∷ Char 10 ∷ Char 10 ∷ Char 10 ∷ [])
    ∷ (codes "<a b='" ++ 13 ∷ 10 ∷ codes "'" ++ 13 ∷ codes ">", Start (codes "a") (attribute (codes "b") (10 ∷ []) ∷ []) ∷ [])
    ∷ (codes "<!--" ++ 13 ∷ codes "-->", Comment (10 ∷ []) ∷ [])
    -- one that a reference gives stays
    ∷ (codes "&#13;&#10;", Char 13 ∷ Char 10 ∷ [])
    ∷ []

newlines_are_line_feeds : AreRead newline_table
unfolding reading
newlines_are_line_feeds = refl

-- e with an acute in UTF-8, a byte that is none, and a byte order mark
bytes : tokens_of_bytes (0xC3 ∷ 0xA9 ∷ 0xFF ∷ 0xEF ∷ 0xBB ∷ 0xBF ∷ codes "<b>") ≡ Char 0xE9 ∷ Char 0xFFFD ∷ Char 0xFEFF ∷ Start (codes "b") [] ∷ []
unfolding reading tokens_of_bytes text_chars utf8_lossy utf8_valid_len is_utf8 encode utf8_error_len
bytes = refl
