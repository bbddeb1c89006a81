use Rattle.std.proofs.Common.{◌≡◌, chars, refl, sym, ap, ◌∙◌}
use Rattle.html_syntax.specs.Held.{meaning}
use Rattle.html_syntax.specs.Tokenizer.{chars as char_tokens}
use Rattle.html_wash.proofs.Taking.{lent_if, other_token}
use Rattle.html_wash.proofs.runs.token_text.Goals as goal

pub returns-in-Chars : goal.returns-in-Chars
returns-in-Chars c = lent_if (chars c.as_str.result.now) _ (λ cs. chars c.as_str.result.now ≡ cs) (ap (λ text. char_tokens (chars text)) c.as_str.ensures ∙ ap meaning (sym c.in-Chars.is)) refl

pub returns-in_default : goal.returns-in_default
returns-in_default c = other_token c.args.token.now _ c.in_default.not-Chars
