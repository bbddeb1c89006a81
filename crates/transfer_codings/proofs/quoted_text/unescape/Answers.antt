use Rattle.std.proofs.Common.{length, ap, arith, ◌∙◌}
use Rattle.std.proofs.lemmas.List.{length-drop, length-take, take_rest}
use Rattle.transfer_codings.proofs.QuotedLemmas.{unescaped-copied, unescaped-nothing}
use Rattle.transfer_codings.proofs.quoted_text.unescape.Goals as goal

pub loop-rest-preserved : goal.loop-rest-preserved
loop-rest-preserved c =
    let rest = c.loop-rest.rest.now in
    let run = c.find-run.result in
    record {
      written = unescaped-copied _ _ rest _ run c.find-run.ensures.place c.write-size.ensures.written (take_rest rest run)
          ∙ c.loop-rest.invariant.written;
      room = omega (arith, ap length (take_rest rest run), length-drop run rest, length-take run rest);
    }

pub returns-clause-written : goal.returns-clause-written
returns-clause-written c = unescaped-nothing _ c.loop-rest.rest.now (omega arith) ∙ c.loop-rest.invariant.written
