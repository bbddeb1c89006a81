use Rattle.std.proofs.Common.{ℕ, List, subst}
use Rattle.html_tokens.specs.Scripts.{ReadsPassage}
use Rattle.html_tokens.proofs.ScriptSteps.{plain_parts}
use Rattle.html_tokens.proofs.script.read_passage.Goals as goal

pub returns-clause-reads : goal.returns-clause-reads
returns-clause-reads c =
    let mark = c.read_mark-mark.result in
    let p = c.read_mark-mark.ensures in
    let n = c.skip_to_next.result in
    plain_parts c.args.phase mark.phase mark.phase c.args.rest.now mark.len n c.utf8.rest p.boundary p.plain p.reads
    (subst (λ (l : List ℕ). ReadsPassage mark.phase l n mark.phase) c.range_from.ensures.value c.skip_to_next.ensures.reads)
