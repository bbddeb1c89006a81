-- A page and its spelling, computed.
use Rattle.std.proofs.Common.{◌≡◌, [], ◌∷◌, ◌++◌, codes, refl}
use Rattle.html_syntax.specs.Token.Token.{End, Doctype}
use Rattle.html_syntax.specs.Tokenizer.{chars}
use Rattle.page_writer.specs.Page.{spell}
use Rattle.html_rules.specs.Tokens.{start_tag, start_tag_with}

page_is_spelled : spell (Doctype ∷ start_tag_with (codes "p") (codes "title") (codes "<\">&") ∷ start_tag (codes "br") ∷ chars (codes "a < b" ++ 13 ∷ 10 ∷ []) ++ End (codes "p") ∷ [])
    ≡ codes "<!DOCTYPE html><p title=\"&lt;&quot;&gt;&amp;\"><br>a &lt; b&#13;\n</p>"
unfolding spell
page_is_spelled = refl
