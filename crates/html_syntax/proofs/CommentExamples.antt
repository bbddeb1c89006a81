-- Comments and DOCTYPEs, computed at some texts.
use Rattle.std.proofs.Common.{◌≡◌, ℕ, List, [], ◌∷◌, ◌++◌, codes, refl}
use Rattle.html_syntax.specs.Token.{Token}
use Rattle.html_syntax.specs.Token.Token.{Start, End, Char, Comment, Doctype}
use Rattle.html_syntax.specs.Tokenizer.{tokens, chars}
use Rattle.html_syntax.proofs.Reading.{reading, AreRead}

short_comments : tokens (codes "<!--><b>x</b><!-- --!><i>y") ≡ Comment [] ∷ Start (codes "b") [] ∷ Char 120 ∷ End (codes "b") ∷ Comment (codes " ") ∷ Start (codes "i") [] ∷ Char 121 ∷ []
unfolding reading
short_comments = refl

bogus_comments : tokens (codes "a</>b</ c>d<?e>") ≡ chars (codes "ab") ++ Comment (codes " c") ∷ chars (codes "d") ++ Comment (codes "?e") ∷ []
unfolding reading
bogus_comments = refl

abbrev comment_table : List (List ℕ × List Token)
comment_table = (codes "<!--a-->b", Comment (codes "a") ∷ Char 98 ∷ [])
    ∷ (codes "<!---->b", Comment [] ∷ Char 98 ∷ [])
    ∷ (codes "<!--->b", Comment [] ∷ Char 98 ∷ [])
    ∷ (codes "<!---a-->b", Comment (codes "-a") ∷ Char 98 ∷ [])
    ∷ (codes "<!--a-b--c->--->b", Comment (codes "a-b--c->-") ∷ Char 98 ∷ [])
    ∷ (codes "<!----!>b", Comment [] ∷ Char 98 ∷ [])
    ∷ (codes "<!--a--!b--!-c--!>d", Comment (codes "a--!b--!-c") ∷ Char 100 ∷ [])
    ∷ (codes "<!--a--!-->b", Comment (codes "a--!") ∷ Char 98 ∷ [])
    -- the less-than sign states
    ∷ (codes "<!--<a<!b<!-c<!--d-->e", Comment (codes "<a<!b<!-c<!--d") ∷ Char 101 ∷ [])
    ∷ (codes "<!--<!-->b", Comment (codes "<!") ∷ Char 98 ∷ [])
    ∷ (codes "<!--<!--->b", Comment (codes "<!-") ∷ Char 98 ∷ [])
    ∷ (codes "<!--&lt;</title>-->", Comment (codes "&lt;</title>") ∷ [])
    -- bogus
    ∷ (codes "<!>b", Comment [] ∷ Char 98 ∷ [])
    ∷ (codes "<!-a-->b", Comment (codes "-a--") ∷ Char 98 ∷ [])
    ∷ (codes "<!doctyp>b", Comment (codes "doctyp") ∷ Char 98 ∷ [])
    ∷ (codes "<![CDATA[<b>]]>", Comment (codes "[CDATA[<b") ∷ chars (codes "]]>"))
    ∷ (codes "<?php a->b ?>", Comment (codes "?php a-") ∷ chars (codes "b ?>"))
    ∷ []

comments : AreRead comment_table
unfolding reading
comments = refl

abbrev doctype_table : List (List ℕ × List Token)
doctype_table = (codes "<!DocType html>a", Doctype ∷ Char 97 ∷ [])
    ∷ (codes "<!doctype>a", Doctype ∷ Char 97 ∷ [])
    ∷ (codes "<!DOCTYPEhtml>a", Doctype ∷ Char 97 ∷ [])
    ∷ (codes "<!DOCTYPE html PUBLIC \"-//W3C//DTD HTML 4.01//EN\">a", Doctype ∷ Char 97 ∷ [])
    -- a > in an identifier ends it too
    ∷ (codes "<!DOCTYPE html SYSTEM \"a>b\">", Doctype ∷ chars (codes "b\">"))
    ∷ []

doctypes : AreRead doctype_table
unfolding reading
doctypes = refl
