use Rattle.imap_values.proofs.MarkLemmas.{one_line, more_lines}
use Rattle.imap_values.proofs.strings.is_one_line.Goals as goal

pub returns-in-Some : goal.returns-in-Some
returns-in-Some c = more_lines c.args.text.now c.in-Some.field-0 c.in-Some.ensures.0.high c.in-Some.ensures.0.before c.in-Some.ensures.1

pub returns-in-None : goal.returns-in-None
returns-in-None c = one_line c.args.text.now c.in-None.ensures
