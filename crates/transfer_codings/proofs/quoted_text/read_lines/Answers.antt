use Rattle.std.proofs.Common.{◌++◌, arith, ◌∙◌, ap, sym, take}
use Rattle.transfer_codings.proofs.QuotedLemmas.{quoted_bytes-line, quoted_bytes-last}
use Rattle.transfer_codings.proofs.quoted_text.read_lines.Goals as goal

pub loop-line-preserved : goal.loop-line-preserved
loop-line-preserved c =
    let rest = c.loop-line.rest.now in
    record {
      written = quoted_bytes-line _ _ rest _ _ c.in-Some.ensures.0 c.read_broken_line-size.ensures.written
          ∙ c.loop-line.invariant.written;
      room = omega (arith, c.in-Some.ensures.1);
    }

pub returns : goal.returns
returns c =
    c.read_line.ensures.written ∙ ap (λ bytes. take c.loop-line.size c.loop-line.bytes ++ bytes) (sym (quoted_bytes-last c.loop-line.rest.now c.in_default.ensures))
    ∙ c.loop-line.invariant.written
