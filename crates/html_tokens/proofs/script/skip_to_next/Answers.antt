use Rattle.html_tokens.proofs.ScriptSteps.{plain_run, marked_run}
use Rattle.html_tokens.proofs.script.skip_to_next.Goals as goal

pub returns-in-Plain-clause-reads : goal.returns-in-Plain-clause-reads
returns-in-Plain-clause-reads c =
    let p = c.skip_to_byte.ensures in
    rw c.in-Plain.is (plain_run c.args.rest.now c.skip_to_byte.result c.utf8.rest p.boundary p.lacks p.begins)

pub returns-in-Escaped : goal.returns-in-Escaped
returns-in-Escaped c =
    let p = c.skip_to_mark.ensures in
    record {
      boundary = p.boundary;
      marks = p.begins;
      reads = marked_run c.args.phase c.in-Escaped.is c.args.rest.now c.skip_to_mark.result c.utf8.rest p.boundary p.lacks p.begins;
    }
