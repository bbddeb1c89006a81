-- The end of the text in each state.
use Rattle.std.proofs.Common.{◌≡◌, ℕ, List, [], ◌∷◌, ◌++◌, codes, refl}
use Rattle.html_syntax.specs.Token.{Token}
use Rattle.html_syntax.specs.Token.Token.{Start, Char, Comment, Doctype}
use Rattle.html_syntax.specs.Tokenizer.{tokens, chars}
use Rattle.html_syntax.proofs.Reading.{reading, AreRead}

unclosed_tag : tokens (codes "x<b y") ≡ chars (codes "x")
unfolding reading
unclosed_tag = refl

unclosed_comment : tokens (codes "x<!--y") ≡ Char 120 ∷ Comment (codes "y") ∷ []
unfolding reading
unclosed_comment = refl

-- all of it is text
abbrev text : List ℕ → List ℕ × List Token
text t = (t, chars t)

-- all of it after a title's or a script's start tag is text
abbrev title : List ℕ → List ℕ × List Token
title t = (codes "<title>" ++ t, Start (codes "title") [] ∷ chars t)

abbrev script : List ℕ → List ℕ × List Token
script t = (codes "<script>" ++ t, Start (codes "script") [] ∷ chars t)

abbrev text_table : List (List ℕ × List Token)
text_table = text [] ∷ text (codes "<") ∷ text (codes "</") ∷ text (codes "&") ∷ text (codes "&#") ∷ text (codes "&#x") ∷ text (codes "&am")
    ∷ title [] ∷ title (codes "<") ∷ title (codes "</") ∷ title (codes "</t") ∷ title (codes "</title")
    ∷ script [] ∷ script (codes "<") ∷ script (codes "</") ∷ script (codes "</scrip") ∷ script (codes "<!") ∷ script (codes "<!-")
    ∷ script (codes "<!--") ∷ script (codes "<!--a") ∷ script (codes "<!--a-") ∷ script (codes "<!--a--") ∷ script (codes "<!--<") ∷ script (codes "<!--</") ∷ script (codes "<!--</s")
    ∷ script (codes "<!--<s") ∷ script (codes "<!--<script ") ∷ script (codes "<!--<script -") ∷ script (codes "<!--<script --") ∷ script (codes "<!--<script <") ∷ script (codes "<!--<script </s")
    ∷ (codes "<plaintext>", Start (codes "plaintext") [] ∷ [])
    ∷ []

ends_in_text : AreRead text_table
unfolding reading
ends_in_text = refl

-- a tag that is not ended gives nothing
abbrev nothing : List ℕ → List ℕ × List Token
nothing t = (t, [])

abbrev tag_table : List (List ℕ × List Token)
tag_table = nothing (codes "<b") ∷ nothing (codes "<b ") ∷ nothing (codes "<b /") ∷ nothing (codes "<b c") ∷ nothing (codes "<b c ") ∷ nothing (codes "<b c=")
    ∷ nothing (codes "<b c=\"d") ∷ nothing (codes "<b c='d") ∷ nothing (codes "<b c=d") ∷ nothing (codes "<b c=\"d\"") ∷ nothing (codes "<b/")
    ∷ nothing (codes "</b") ∷ nothing (codes "</b ") ∷ nothing (codes "<b c=\"&amp")
    ∷ (codes "<title></title ", Start (codes "title") [] ∷ [])
    ∷ []

ends_in_a_tag : AreRead tag_table
unfolding reading
ends_in_a_tag = refl

abbrev comment : List ℕ → List ℕ → List ℕ × List Token
comment written read_as = (written, Comment read_as ∷ [])

abbrev comment_table : List (List ℕ × List Token)
comment_table = comment (codes "<!") [] ∷ comment (codes "<!-") (codes "-") ∷ comment (codes "<!doc") (codes "doc") ∷ comment (codes "<?") (codes "?") ∷ comment (codes "</ a") (codes " a")
    ∷ comment (codes "<!--") [] ∷ comment (codes "<!---") [] ∷ comment (codes "<!--a") (codes "a") ∷ comment (codes "<!--a-") (codes "a") ∷ comment (codes "<!--a--") (codes "a")
    ∷ comment (codes "<!--a--!") (codes "a") ∷ comment (codes "<!--<!-") (codes "<!") ∷ comment (codes "<!--<!--") (codes "<!")
    ∷ (codes "<!doctype", Doctype ∷ []) ∷ (codes "<!doctype html", Doctype ∷ [])
    ∷ []

ends_in_a_comment : AreRead comment_table
unfolding reading
ends_in_a_comment = refl
