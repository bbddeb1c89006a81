-- Flowed text (RFC 3676) as it is shown: a `div` for each paragraph, in as many `blockquote` as it is deep.
use Rattle.std.specs.Prelude.{◌≡◌, ℕ, ◌-◌, min, List, [], ◌∷◌, ◌++◌, codes, drop, replicate}
use Rattle.html_syntax.specs.Token.{Token}
use Rattle.html_syntax.specs.Token.Token.{End}
use Rattle.html_rules.specs.Tables.{Name}
use Rattle.html_rules.specs.Tokens.{start_tag}
use Rattle.flowed_text.specs.declared.Para.{Para}
use Rattle.page_frames.specs.Elements.{text}

abbrev pub quote : Name
quote = codes "blockquote"

-- the quotes in which a paragraph is shown: those past the sixteenth are left out
abbrev pub shown_depth : Para → ℕ
shown_depth para = min para.depth 16

abbrev pub opened_quotes : ℕ → List Token
opened_quotes count = replicate count (start_tag quote)

abbrev pub closed_quotes : ℕ → List Token
closed_quotes count = replicate count (End quote)

-- from one depth to another: only the difference is closed or opened
abbrev pub change_depth : ℕ → ℕ → List Token
change_depth old new = closed_quotes (old - new) ++ opened_quotes (new - old)

-- an empty paragraph is as high as a line
abbrev pub text_or_break : List ℕ → List Token
text_or_break [] = start_tag (codes "br") ∷ []
text_or_break (b ∷ bs) = text (b ∷ bs)

abbrev pub para_element : List ℕ → List Token
para_element content = start_tag (codes "div") ∷ text_or_break content ++ End (codes "div") ∷ []

-- paragraphs after `depth` quotes were opened; all are closed at the end
unfoldable pub paras_after : ℕ → List Para → List Token
paras_after depth [] = closed_quotes depth
paras_after depth (para ∷ more) = change_depth depth (shown_depth para) ++ para_element para.text ++ paras_after (shown_depth para) more

-- the paragraphs of a text
abbrev pub flowed_paras : List Para → List Token
flowed_paras paras = paras_after 0 paras

-- the innermost elements are this many quotes
abbrev pub AreQuotes : ℕ → List Name → Type 0
AreQuotes depth opened = opened ≡ replicate depth quote ++ drop depth opened
