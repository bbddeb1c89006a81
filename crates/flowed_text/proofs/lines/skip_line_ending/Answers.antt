use lib.Utf8.{encode}
use Rattle.std.proofs.Common.{◌∙◌}
use Rattle.flowed_text.proofs.LineCuts.{skip_line_ending-other}
use Rattle.flowed_text.proofs.lines.skip_line_ending.Goals as goal

pub returns-in-None : goal.returns-in-None
unfolding encode
returns-in-None c = c.strip_first-in-None.ensures ∙ skip_line_ending-other c.args.text.now c.in-None.ensures.cases
