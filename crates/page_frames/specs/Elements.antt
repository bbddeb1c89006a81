-- Elements of a page, as their tokens.
use Rattle.std.specs.Prelude.{ℕ, List, [], ◌∷◌, ◌++◌, codes, chars}
use Rattle.html_syntax.specs.Token.{Token}
use Rattle.html_syntax.specs.Token.Token.{Start, End, Char}
use Rattle.html_rules.specs.Tables.{Name}
use Rattle.html_rules.specs.Tokens.{text_tokens, replace_nulls, start_tag}
use Rattle.page_writer.specs.Writer.{Page}

-- the characters of a text in UTF-8
abbrev pub text : List ℕ → List Token
text bytes = text_tokens (chars bytes)

abbrev pub line_end : Token
line_end = Char 10

-- an element with a text in it
abbrev pub element : List ℕ → List ℕ → List Token
element name content = start_tag name ∷ text content ++ End name ∷ []

-- a link to an address, with a text in it
abbrev pub link : List ℕ → List ℕ → List Token
link address content =
    Start (codes "a") (replace_nulls (record { name = codes "href"; value = chars address } ∷ []))
    ∷ text content ++ End (codes "a") ∷ []

-- the page with these tokens appended and these elements open
abbrev pub with_tokens : Page → List Token → List Name → Page
with_tokens page tokens opened = record { written = page.written ++ tokens; opened = opened }
