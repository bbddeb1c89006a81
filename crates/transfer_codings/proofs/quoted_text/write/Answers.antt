use Rattle.std.proofs.Common.{◌++◌, arith, ◌∙◌, ap, take, length}
use Rattle.std.proofs.lemmas.List.{length-take-le}
use Rattle.transfer_codings.proofs.Places.{take_front_and_piece}
use Rattle.transfer_codings.proofs.quoted_text.write.Goals as goal

pub returns-clause-written : goal.returns-clause-written
returns-clause-written c =
    let front = take c.args.start c.args.bytes.now in
    take_front_and_piece front c.copy_from_slice.new.self _ c.args.start _
    (length-take-le c.args.start c.args.bytes.now (omega arith)) (ap length c.copy_from_slice.ensures.after)
    ∙ ap (λ xs. front ++ xs) c.copy_from_slice.ensures.after
