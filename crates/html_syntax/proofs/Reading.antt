-- A table of texts and their tokens, and what a proof unfolds to compute it.
use Rattle.std.proofs.Common.{◌≡◌, ℕ, List, map}
use Rattle.html_syntax.specs.Token.{Attribute, Token}
use Rattle.html_syntax.specs.References.{reference}
use Rattle.html_syntax.specs.Tokenizer.{look, look_again, step, tokens_at_end, read, normalize_newlines, tokens}

unfoldable pub reading : Unit {0}
unfolding tokens normalize_newlines read step look_again look tokens_at_end reference
reading = tt

-- each text of the table is read as the tokens beside it
abbrev pub AreRead : List (List ℕ × List Token) → Type 0
AreRead table = map (λ (r : List ℕ × List Token). tokens r.0) table ≡ map (λ (r : List ℕ × List Token). r.1) table

abbrev pub attribute : List ℕ → List ℕ → Attribute
attribute name value = record { name = name; value = value }
