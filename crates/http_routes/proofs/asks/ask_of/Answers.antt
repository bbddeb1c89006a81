use Rattle.http_routes.specs.Asks.{form_of, path_of}
use Rattle.http_routes.specs.Routes.{row_seen, words_of}
use Rattle.http_routes.proofs.Requests.{asked}
use Rattle.http_routes.proofs.asks.ask_of.Goals as goal

pub returns-clause-equals : goal.returns-clause-equals
returns-clause-equals c =
    asked c.route_ask.result (row_seen c.in-Some.row.now) _ (words_of (path_of c.args.target.now)) (form_of c.args.method.now c.args.target.now c.args.body.now) c.args.form c.in_ok-fields.fields.items
    (rw c.deref-3.ensures.value at c.route_ask.ensures.equals)
    (rw (c.deref-2.ensures.value, c.in_ok-words.ensures, c.path_of.ensures, c.form_of.ensures) at c.in_ok-fields.ensures)
    (rw (c.deref.ensures.value, c.in_ok-words.ensures, c.path_of.ensures) at c.in-Some.ensures)
