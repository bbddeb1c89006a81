use Rattle.std.proofs.Common.{◌++◌, ap, sym, ◌∙◌, append-nil, List, ℕ}
use Rattle.std.proofs.lemmas.List.{drop_all}
use Rattle.submission.proofs.Stuffing.{written, all_dotted}
use Rattle.submission.proofs.message.dotted.Goals as goal

pub returns : goal.returns
returns c =
    sym (append-nil c.loop-byte.out.items) ∙ ap (λ (rest : List ℕ). c.loop-byte.out.items ++ written c.loop-byte.begins_line rest) (sym (drop_all c.loop-byte.byte-index c.args.message.now c.loop-byte-test.false))
    ∙ sym c.loop-byte.invariant ∙ all_dotted c.args.message.now
