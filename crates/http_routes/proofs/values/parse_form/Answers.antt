use Rattle.std.proofs.Common.{◌∙◌, sym}
use Rattle.http_routes.proofs.Numbers.{form_parsed}
use Rattle.http_routes.proofs.values.parse_form.Goals as goal

pub returns : goal.returns
returns c =
    c.ok.ensures.value ∙ form_parsed c.args.text.now c.from_str_radix.result (sym c.is_form_text.ensures ∙ c.if-not-is_form_text.false) c.from_str_radix.ensures.value
