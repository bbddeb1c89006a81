use Rattle.std.proofs.Common.{◌≡◌, ◌-◌, arith, ap, sym, ◌∙◌, length, take, drop, min}
use Rattle.std.proofs.lemmas.List.{take_rest}
use Rattle.mail_io.proofs.MemoryReads.{given_front, given_end}
use Rattle.mail_io.proofs.memory.MemorySourceSource.read.Goals as goal

pub returns-clause-consumes : goal.returns-clause-consumes
returns-clause-consumes c =
    let here = c.self.inside in
    let n = c.min-count.result in
    let lent : take (length c.as_slice.result.now - here.at) (drop here.at c.as_slice.result.now) ≡ drop here.at here.bytes = take_rest c.as_slice.result.now here.at ∙ ap (drop here.at) c.as_slice.ensures in
    let got : c.copy_from_slice.new.self ≡ take n (drop here.at here.bytes) = c.copy_from_slice.ensures.after ∙ ap (take n) lent in
    let size : n ≡ min (length (drop here.at here.bytes)) (length c.args.room.now) = c.min-count.ensures ∙ ap (λ l. min (length l) (length c.args.room.now)) lent in (
      sym (ap (λ v. v.left) c.self.view_is) ∙ given_front here.bytes c.args.room.now c.copy_from_slice.new.self here.at n got (omega arith),
      given_end here.bytes c.args.room.now c.copy_from_slice.new.self here.at n got size,
    )
