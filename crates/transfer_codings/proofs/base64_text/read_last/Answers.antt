use Rattle.std.proofs.Common.{arith, ◌∙◌, ap, sym, take, ◌++◌}
use Rattle.std.proofs.lemmas.List.{take_more_set}
use Rattle.transfer_codings.proofs.Base64Lemmas.{bytes_of-none, bytes_of-one, bytes_of-two, bytes_of-three}
use Rattle.transfer_codings.proofs.Places.{take-set-two}
use Rattle.transfer_codings.proofs.base64_text.read_last.Goals as goal

pub returns-in_default : goal.returns-in_default
returns-in_default c = bytes_of-none _ c.args.text.now c.in_default.ensures

pub returns-in_default-next_sextet : goal.returns-in_default-next_sextet
returns-in_default-next_sextet c = bytes_of-one _ c.args.text.now _ _ c.in-Some.ensures.0 c.in_default-next_sextet.ensures

pub returns-in_default-next_sextet-2 : goal.returns-in_default-next_sextet-2
returns-in_default-next_sextet-2 c =
    let last = bytes_of-two c.args.text.now _ _ _ _ c.in-Some.ensures.0 c.in-Some-next_sextet.ensures.0 c.in_default-next_sextet-2.ensures in
    take_more_set c.args.bytes.now c.args.start _ (omega arith) ∙ ap (λ bytes. take c.args.start c.args.bytes.now ++ bytes) (sym last)

pub returns : goal.returns
returns c =
    let last = bytes_of-three c.args.text.now _ _ _ _ _ _ c.in-Some.ensures.0 c.in-Some-next_sextet.ensures.0 c.in-Some-next_sextet-2.ensures.0 c.requires.few in
    take-set-two c.args.bytes.now c.args.start _ _ (omega (arith, c.in-Some.ensures.2, c.in-Some-next_sextet.ensures.2, c.in-Some-next_sextet-2.ensures.2)) ∙ ap (λ bytes. take c.args.start c.args.bytes.now ++ bytes) (sym last)
