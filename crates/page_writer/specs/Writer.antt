-- A page that is being written: the tokens so far, and the elements that are open.
use Rattle.std.specs.Prelude.{◌≡◌, ℕ, List, [], ◌∷◌, ◌++◌, map, reverse, chars, string_bytes, String, encode_utf8_all}
use Rattle.html_syntax.specs.Token.{Token}
use Rattle.html_syntax.specs.Tokenizer.{tokens_of_bytes}
use Rattle.html_rules.specs.Tables.{Name}
use Rattle.html_rules.specs.Tokens.{text_tokens}
use Rattle.page_writer.specs.Page.{open_elements_after_token, MayAppendAll, spell}

-- `opened` has the innermost element first
pub record Page : Type 0 where
  pub written : List Token
  pub opened : List Name

abbrev pub page_of : List ℕ → List Name → Page
page_of bytes opened = record { written = tokens_of_bytes bytes; opened = opened }

-- the names, innermost first
abbrev pub names_of : {Z : Type 0} → List (String Z) → List Name
names_of names = reverse (map (λ s. chars (string_bytes s)) names)

-- the bytes are the beginning of a page, with these elements open
pub record IsPagePrefix (bytes : List ℕ) (opened : List Name) : Type 0 where
  pub led : MayAppendAll [] (tokens_of_bytes bytes) opened
  pub spelled : bytes ≡ encode_utf8_all (spell (tokens_of_bytes bytes))

-- the page with a token appended
abbrev pub with_token : Page → Token → Page
with_token page t = record { written = page.written ++ t ∷ []; opened = open_elements_after_token page.opened t }

-- the page with tokens appended
abbrev pub with_all_tokens : Page → List Token → Page
with_all_tokens page [] = page
with_all_tokens page (t ∷ ts) = with_all_tokens (with_token page t) ts

-- the page with a text appended
abbrev pub with_text : Page → List ℕ → Page
with_text page cs = record { written = page.written ++ text_tokens cs; opened = page.opened }

abbrev pub innermost : List Name → Name
innermost [] = []
innermost (name ∷ outer) = name
