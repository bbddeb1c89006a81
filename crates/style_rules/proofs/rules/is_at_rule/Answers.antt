use Rattle.std.proofs.Common.{ap, ◌∙◌, nat_eq, List, ℕ}
use Rattle.std.specs.Prelude.{codes}
use Rattle.std.specs.List.{starts_with}
use Rattle.std.proofs.lemmas.Str.Ascii.{trim_ascii_start_is}
use Rattle.style_rules.specs.Rules.{is_at_rule}
use Rattle.style_rules.proofs.rules.is_at_rule.Goals as goal

pub returns : goal.returns
unfolding is_at_rule
returns c = c.starts_with.ensures.value ∙ ap (λ (t : List ℕ). starts_with nat_eq t (codes "@")) (trim_ascii_start_is c.args.text.now c.trim_ascii_start.result.now c.trim_ascii_start.ensures.value)
