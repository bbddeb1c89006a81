use Rattle.http_routes.specs.Fields.{look_in}
use Rattle.http_routes.proofs.Servables.{kept_in_range}
use Rattle.http_routes.proofs.deeds.set_identity.Goals as goal

pub returns-clause-servable : goal.returns-clause-servable
returns-clause-servable c = kept_in_range (look_in c.args.fields.now) _ c.in_ok-number.ensures
