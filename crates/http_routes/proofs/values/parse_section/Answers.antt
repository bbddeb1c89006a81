use Rattle.std.proofs.Common.{◌∙◌}
use Rattle.http_routes.proofs.Numbers.{no_section, none_is_some, spelled_section}
use Rattle.http_routes.proofs.values.parse_section.Goals as goal

pub returns : goal.returns
returns c = spelled_section c.in_ok-section.section c.args.text.now c.numbers-numbers.ensures.is_section c.in_ok-section.ensures.sound

pub returns-in_err-section : goal.returns-in_err-section
returns-in_err-section c =
    c.from_residual.ensures ∙ no_section c.args.text.now (λ numbers is spelled. none_is_some numbers (c.in_err-section.ensures.complete numbers is spelled))
