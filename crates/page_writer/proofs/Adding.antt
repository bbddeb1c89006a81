-- Pages to which many tokens are added, for functions that write a part of a page.
use Rattle.std.proofs.Common.{◌≡◌, ℕ, List, [], ◌∷◌, ◌++◌, refl, sym, ap, ◌∙◌, append_assoc, append-nil}
use Rattle.html_syntax.specs.Token.{Token}
use Rattle.html_syntax.specs.Token.Token.{Char}
use Rattle.html_syntax.specs.Tokenizer.{replace_null}
use Rattle.html_rules.specs.Tokens.{text_tokens}
use Rattle.page_writer.specs.Writer.{Page, with_token, with_all_tokens, with_text}

-- one part after the other
pub added_all-append : (page : Page) (xs ys : List Token) → with_all_tokens page (xs ++ ys) ≡ with_all_tokens (with_all_tokens page xs) ys
added_all-append page [] ys = refl
added_all-append page (x ∷ xs) ys = added_all-append (with_token page x) xs ys

pub added_all-written : (page : Page) (ts : List Token) → (with_all_tokens page ts).written ≡ page.written ++ ts
added_all-written page [] = sym (append-nil page.written)
added_all-written page (t ∷ ts) = added_all-written (with_token page t) ts ∙ append_assoc page.written (t ∷ []) ts

-- a text is its characters, one after the other
pub added_all-text : (page : Page) (cs : List ℕ) → with_all_tokens page (text_tokens cs) ≡ with_text page cs
added_all-text page [] = ap (λ (ts : List Token). record { written = ts; opened = page.opened }) (sym (append-nil page.written))
added_all-text page (c ∷ cs) =
    added_all-text (with_token page (Char (replace_null c))) cs
    ∙ ap (λ (ts : List Token). record { written = ts; opened = page.opened }) (append_assoc page.written (Char (replace_null c) ∷ []) (text_tokens cs))
