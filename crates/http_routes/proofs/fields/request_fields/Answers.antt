use Rattle.http_routes.proofs.fields.request_fields.Goals as goal

pub returns : goal.returns
returns c = rw (c.in_ok-push_parameters.ensures, c.new-fields.ensures.items, c.parameters_of.ensures) at c.in_ok-push_form.ensures
