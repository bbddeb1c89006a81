use Rattle.std.proofs.Common.{chars, ap, ◌∙◌}
use Rattle.html_wash.proofs.StylingLemmas.{counted_same}
use Rattle.html_wash.proofs.styling.Styling.declared.Goals as goal

pub returns-clause-counts : goal.returns-clause-counts
returns-clause-counts c = c.count_tag.ensures ∙ counted_same c.args.self.now c.as_str.result.now _ c.as_str.utf8 (ap chars c.as_str.ensures.value ∙ c.in_ok-style.ensures.is)
