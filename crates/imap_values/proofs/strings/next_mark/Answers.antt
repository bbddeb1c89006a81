use Rattle.std.proofs.Common.{arith}
use Rattle.imap_values.proofs.MarkLemmas.{skip_to, skip_all}
use Rattle.imap_values.proofs.strings.next_mark.Goals as goal

pub returns-in-Some-clause-plain : goal.returns-in-Some-clause-plain
returns-in-Some-clause-plain c =
    let high = c.in-Some.ensures.0.high in
    skip_to c.args.bytes.now c.args.at c.in-Some.count (omega arith) c.in-Some.ensures.0.before

pub returns-in-None-clause-plain : goal.returns-in-None-clause-plain
returns-in-None-clause-plain c = skip_all c.args.bytes.now c.args.at c.requires c.in-None.ensures
