use mir.Syntax.{w64}
use Rattle.std.proofs.Common.{subst}
use Rattle.std.proofs.lemmas.Int.{to_z-of_z}
use Rattle.compose_drafts.specs.Moments.{Shows}
use Rattle.compose_drafts.proofs.Finished.{built_at}
use Rattle.compose_drafts.proofs.building.dated_message.Goals as goal

pub returns-clause-equals : goal.returns-clause-equals
returns-clause-equals c = built_at c.args.draft.now c.args.parties.now c.args.moment c.clock_at.result c.message.result (subst (λ m. Shows m c.clock_at.result) (to_z-of_z w64 c.args.moment c.ranges.moment) c.clock_at.ensures) c.message.ensures.equals
