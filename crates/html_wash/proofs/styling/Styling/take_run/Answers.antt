use Rattle.std.proofs.Common.{◌≡◌, chars, sym, ap, ◌∙◌}
use Rattle.html_tokens.specs.Lexemes.{lexeme_tokens}
use Rattle.html_wash.specs.Styling.{with_characters, with_following}
use Rattle.html_wash.proofs.Writing.{on_ok_map}
use Rattle.html_wash.proofs.Taking.{lent_if, if_text, if_tokens}
use Rattle.html_wash.proofs.styling.Styling.take_run.Goals as goal

pub returns-in-Lent : goal.returns-in-Lent
returns-in-Lent c =
    on_ok_map c.read_text.result _ _
    (λ e. lent_if (chars c.in-Lent.text.now) _ (λ cs. c.read_text.new.self ≡ with_following (with_characters c.args.self.now.following cs) c.args.self.now) (ap lexeme_tokens (sym c.in-Lent.is) ∙ c.in_ok-text.ensures.tokens) e)
    c.read_text.ensures

pub returns-in-Made : goal.returns-in-Made
returns-in-Made c =
    on_ok_map c.read_text-in-Made.result _ _
    (λ e. if_tokens _ _ (λ cs. c.read_text-in-Made.new.self ≡ with_following (with_characters c.args.self.now.following cs) c.args.self.now) (sym (ap lexeme_tokens (sym c.in-Made.is) ∙ c.in_ok-text.ensures.tokens)) (if_text _ (chars c.token_text.result.now) _ c.token_text.ensures e))
    c.read_text-in-Made.ensures
