use Rattle.std.proofs.Common.{sym}
use Rattle.std.proofs.lemmas.List.{take_rest}
use Rattle.transfer_codings.proofs.QuotedLemmas.{unescaped-some, unescaped-none}
use Rattle.transfer_codings.proofs.quoted_text.byte_after_equals.Goals as goal

pub returns-in-Some-clause-byte : goal.returns-in-Some-clause-byte
returns-in-Some-clause-byte c =
    let rest = take_rest c.args.text.now 2 in
    rw rest (unescaped-some c.args.text.now c.in-Some.byte (sym c.in-Some.ensures.value))

pub returns-in-None-clause-byte : goal.returns-in-None-clause-byte
returns-in-None-clause-byte c = unescaped-none c.args.text.now (sym c.in-None.ensures.value)
