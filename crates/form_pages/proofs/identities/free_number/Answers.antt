use Rattle.std.proofs.Common.{sym, ◌∙◌}
use Rattle.form_pages.specs.Identities.{is_free}
use Rattle.form_pages.proofs.Free.{next_free}
use Rattle.form_pages.proofs.identities.free_number.Goals as goal

pub loop-number-preserved : goal.loop-number-preserved
loop-number-preserved c = next_free (is_free c.args.kept.now) c.loop-number.number c.loop-number-test.true (sym c.is_free.ensures ∙ c.if-is_free.false) ∙ c.loop-number.invariant
