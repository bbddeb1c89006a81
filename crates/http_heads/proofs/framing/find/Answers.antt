use Rattle.std.proofs.Common.{◌∙◌}
use Rattle.http_heads.specs.Framing.{found_seen}
use Rattle.http_heads.proofs.Framings.{find_more}
use Rattle.http_heads.proofs.framing.find.Goals as goal

pub loop-field-preserved : goal.loop-field-preserved
loop-field-preserved c =
    c.found_with-found.ensures ∙ find_more c.args.name.now c.args.fields.now c.loop-field.field-index _ (found_seen c.loop-field.found) c.loop-field-test.true c.loop-field.invariant
