use Rattle.http_routes.specs.Fields.{look_in}
use Rattle.http_routes.proofs.Servables.{password_without_nul, user_is_name}
use Rattle.http_routes.proofs.deeds.login.Goals as goal

pub returns-clause-servable : goal.returns-clause-servable
returns-clause-servable c = (user_is_name (look_in c.args.fields.now) _ c.in_ok-user.ensures, password_without_nul (look_in c.args.fields.now) _ c.in_ok-password.ensures)
