use Rattle.std.proofs.Common.{arith, ◌∙◌}
use Rattle.transfer_codings.proofs.Base64Lemmas.{bytes_of-four}
use Rattle.transfer_codings.proofs.Places.{take-set-three}
use Rattle.transfer_codings.proofs.base64_text.read_sextets.Goals as goal

pub loop-a-preserved : goal.loop-a-preserved
loop-a-preserved c =
    record {
      written = bytes_of-four _ _ c.loop-a.rest.now _ _ _ _ _ c.in-Some.ensures.sextets_are
          (take-set-three c.loop-a.bytes c.loop-a.size _ _ _ (omega (arith, c.in-Some.ensures.shorter)))
          ∙ c.loop-a.invariant.written;
      room = omega (arith, c.in-Some.ensures.shorter);
    }
