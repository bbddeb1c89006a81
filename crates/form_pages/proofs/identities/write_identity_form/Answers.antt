use Rattle.std.proofs.Common.{codes}
use Rattle.std.proofs.lemmas.Result.{on_ok_weaker}
use Rattle.page_frames.specs.Paths.{identities_path}
use Rattle.form_pages.specs.Identities.{identity_form, identity_inputs}
use Rattle.form_pages.proofs.Written.{form_written}
use Rattle.form_pages.proofs.identities.write_identity_form.Goals as goal

pub returns : goal.returns
unfolding identity_form
returns c = on_ok_weaker c.close_form.result
    (λ closed. form_written c.args.out.now c.open_form.new.out c.write_inputs.new.out c.close_form.new.out identities_path (identity_inputs c.args.key.now c.args.number c.args.name.now c.args.address.now) (codes "Save")
    c.in_ok-open_form.ensures c.in_ok-write_inputs.ensures closed)
    c.close_form.ensures
