use Rattle.std.proofs.Common.{sym, ap, ◌≡◌, ◌∙◌, chars}
use Rattle.html_tokens.specs.Lexemes.{lexeme_tokens}
use Rattle.page_writer.specs.Writer.{with_text}
use Rattle.html_wash.proofs.Writing.{on_ok_map}
use Rattle.html_wash.proofs.Taking.{lent_if, if_text, if_tokens}
use Rattle.html_wash.proofs.runs.write_run.Goals as goal

pub returns-in-Lent : goal.returns-in-Lent
returns-in-Lent c =
    on_ok_map c.chars.result _ _ (lent_if (chars c.in-Lent.text.now) _ (λ cs. c.chars.new.self ≡ with_text c.args.out.now cs) (ap lexeme_tokens (sym c.in-Lent.is) ∙ c.in_ok-text.ensures.tokens)) c.chars.ensures.ok

pub returns-in-Made : goal.returns-in-Made
returns-in-Made c =
    on_ok_map c.chars-in-Made.result _ _
    (λ e. if_tokens _ _ (λ cs. c.chars-in-Made.new.self ≡ with_text c.args.out.now cs) (sym (ap lexeme_tokens (sym c.in-Made.is) ∙ c.in_ok-text.ensures.tokens)) (if_text _ (chars c.token_text.result.now) _ c.token_text.ensures e))
    c.chars-in-Made.ensures.ok
