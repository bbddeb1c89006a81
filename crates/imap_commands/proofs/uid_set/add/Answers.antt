use Rattle.std.proofs.lemmas.Result.{on_ok_weaker}
use Rattle.imap_commands.proofs.UidSetLemmas.{joined_apart, joined_begin, joined_has}
use Rattle.imap_commands.proofs.uid_set.add.Goals as goal

pub returns-in-Some-clause-apart : goal.returns-in-Some-clause-apart
returns-in-Some-clause-apart c =
    on_ok_weaker c.push_joined.result (joined_apart _ _ _ _ _ c.in-Some.ensures.items c.requires.apart c.requires.latest c.if-range.false) c.push_joined.ensures

pub returns-in-Some-clause-latest : goal.returns-in-Some-clause-latest
returns-in-Some-clause-latest c =
    on_ok_weaker c.push_joined.result (joined_begin _ _ _ _ _ c.in-Some.ensures.items c.requires.latest) c.push_joined.ensures

pub returns-in-Some-clause-members : goal.returns-in-Some-clause-members
returns-in-Some-clause-members c =
    on_ok_weaker c.push_joined.result (λ is uid. joined_has uid _ _ _ _ _ c.in-Some.ensures.items c.requires.apart c.requires.latest c.if-range.false is) c.push_joined.ensures
