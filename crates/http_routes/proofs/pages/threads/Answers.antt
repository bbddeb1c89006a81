use Rattle.http_routes.specs.Fields.{look_in}
use Rattle.http_routes.proofs.Servables.{page_positive}
use Rattle.http_routes.proofs.pages.threads.Goals as goal

pub returns-clause-servable : goal.returns-clause-servable
returns-clause-servable c = page_positive (look_in c.args.fields.now) _ c.in_ok-page.ensures
