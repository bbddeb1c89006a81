-- Text in which few tags are read, computed at some texts.
use Rattle.std.proofs.Common.{◌≡◌, ℕ, List, [], ◌∷◌, ◌++◌, codes, refl}
use Rattle.html_syntax.specs.Token.{Token}
use Rattle.html_syntax.specs.Token.Token.{Start, End, Char}
use Rattle.html_syntax.specs.Tokenizer.{tokens, chars}
use Rattle.html_syntax.proofs.Reading.{reading, AreRead}

abbrev rcdata_table : List (List ℕ × List Token)
rcdata_table = (codes "<title>a<b></title>c", Start (codes "title") [] ∷ chars (codes "a<b>") ++ End (codes "title") ∷ Char 99 ∷ [])
    ∷ (codes "<textarea>&lt;&#65;<!--</textarea>", Start (codes "textarea") [] ∷ chars (codes "<A<!--") ++ End (codes "textarea") ∷ [])
    -- an end tag of another name is text
    ∷ (codes "<title></titl></titles></b></></title>", Start (codes "title") [] ∷ chars (codes "</titl></titles></b></>") ++ End (codes "title") ∷ [])
    ∷ (codes "<TITLE></Title a=b>c", Start (codes "title") [] ∷ End (codes "title") ∷ Char 99 ∷ [])
    ∷ (codes "<title></title/>c", Start (codes "title") [] ∷ End (codes "title") ∷ Char 99 ∷ [])
    ∷ (codes "<title><</title", Start (codes "title") [] ∷ chars (codes "<</title"))
    ∷ []

rcdata : AreRead rcdata_table
unfolding reading
rcdata = refl

abbrev raw_text_table : List (List ℕ × List Token)
raw_text_table = (codes "<style>&lt;<b></b></style>c", Start (codes "style") [] ∷ chars (codes "&lt;<b></b>") ++ End (codes "style") ∷ Char 99 ∷ [])
    ∷ (codes "<xmp><b></xmp>", Start (codes "xmp") [] ∷ chars (codes "<b>") ++ End (codes "xmp") ∷ [])
    ∷ (codes "<iframe><b></iframe>", Start (codes "iframe") [] ∷ chars (codes "<b>") ++ End (codes "iframe") ∷ [])
    ∷ (codes "<noembed><b></noembed>", Start (codes "noembed") [] ∷ chars (codes "<b>") ++ End (codes "noembed") ∷ [])
    ∷ (codes "<noframes><b></noframes>", Start (codes "noframes") [] ∷ chars (codes "<b>") ++ End (codes "noframes") ∷ [])
    ∷ (codes "<style></script></styl/></style>", Start (codes "style") [] ∷ chars (codes "</script></styl/>") ++ End (codes "style") ∷ [])
    -- noscript holds tags, as if scripting is disabled
    ∷ (codes "<noscript><b></noscript>", Start (codes "noscript") [] ∷ Start (codes "b") [] ∷ End (codes "noscript") ∷ [])
    -- an end tag changes nothing
    ∷ (codes "</style><b>", End (codes "style") ∷ Start (codes "b") [] ∷ [])
    ∷ []

raw_text : AreRead raw_text_table
unfolding reading
raw_text = refl

plaintext : tokens (codes "<plaintext>&amp;<b></plaintext>") ≡ Start (codes "plaintext") [] ∷ chars (codes "&amp;<b></plaintext>")
unfolding reading
plaintext = refl

-- a script whose content is this text
abbrev script : List ℕ → List ℕ × List Token
script text = (codes "<script>" ++ text ++ codes "</script>y", Start (codes "script") [] ∷ chars text ++ End (codes "script") ∷ Char 121 ∷ [])

-- a script that is not ended
abbrev open_script : List ℕ → List ℕ × List Token
open_script text = (codes "<script>" ++ text, Start (codes "script") [] ∷ chars text)

abbrev script_table : List (List ℕ × List Token)
script_table = script (codes "a<b></b>&lt;")
    ∷ script (codes "</scrip></scripts></script-")
    -- escape start, escape start dash
    ∷ script (codes "<!a<!-a<!")
    -- escaped: a script that is ended there is ended
    ∷ script (codes "<!--")
    ∷ script (codes "<!--a-b--c--->-->")
    -- escaped dash, escaped dash dash
    ∷ script (codes "<!--a-<b")
    ∷ script (codes "<!--a--<b")
    ∷ script (codes "<!---->")
    -- out of it by -->
    ∷ script (codes "<!--a--><script>")
    -- escaped less-than sign, escaped end tag open, escaped end tag name
    ∷ script (codes "<!--<<1</1</scrip</b>")
    -- double escape start, with other letters
    ∷ script (codes "<!--<b><scripts><scrip ")
    ∷ script (codes "<!--<script-<script<")
    -- double escaped, and out of it by a second end tag or by -->
    ∷ script (codes "<!--<script></script>x-->")
    ∷ script (codes "<!--<SCRIPT </Script ")
    ∷ script (codes "<!--<script/</script/-->")
    ∷ script (codes "<!--<script></script>")
    ∷ script (codes "<!--<script>-->")
    ∷ script (codes "<!--<script>a-b--c-->")
    -- double escaped: neither of these ends it
    ∷ open_script (codes "<!--<script></scripts></script")
    ∷ open_script (codes "<!--<script>-</scrip></b></script-></script<")
    ∷ open_script (codes "<!--<script>--</b>-<<--<a")
    ∷ open_script (codes "<!--<script></script></b")
    ∷ []

scripts : AreRead script_table
unfolding reading
scripts = refl

-- the first `</script>` ends the double escape, the second one the script
double_escape : tokens (codes "<script><!--<script></script>x--></script>y") ≡ Start (codes "script") [] ∷ chars (codes "<!--<script></script>x-->") ++ End (codes "script") ∷ chars (codes "y")
unfolding reading
double_escape = refl
