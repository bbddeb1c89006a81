-- The tokens of the definition that the code's tokens hold.
use Rattle.std.specs.Prelude.{List, [], ◌∷◌, ◌++◌, chars}
use Rattle.html_syntax.specs.declared.token.Token.TheVariants as held
use Rattle.html_syntax.specs.declared.token.Token.{Token as HeldToken}
use Rattle.html_syntax.specs.Token.{Token}
use Rattle.html_syntax.specs.Token.Token.{Start, End, Comment, Doctype}
use Rattle.html_syntax.specs.Rows.{chars as char_tokens}

-- a token of text holds one character token for each of its characters
abbrev pub meaning : HeldToken → List Token
meaning (held.Start name attributes) = Start (chars name) attributes ∷ []
meaning (held.End name) = End (chars name) ∷ []
meaning (held.Chars text) = char_tokens (chars text)
meaning (held.Comment text) = Comment (chars text) ∷ []
meaning held.Doctype = Doctype ∷ []

abbrev pub meanings : List HeldToken → List Token
meanings [] = []
meanings (t ∷ ts) = meaning t ++ meanings ts
