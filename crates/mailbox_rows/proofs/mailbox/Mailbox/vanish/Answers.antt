use Rattle.std.proofs.Common.{ℕ, ap, arith, length}
use Rattle.imap_commands.specs.UidSets.{contains_uid}
use Rattle.mailbox_rows.specs.Rows.{header_total}
use Rattle.mailbox_rows.proofs.UidLemmas.{without_shorter, without_total}
use Rattle.mailbox_rows.proofs.mailbox.Mailbox.vanish.Goals as goal

pub invariant_of-self : goal.invariant_of-self
invariant_of-self c =
    let gone = λ (uid : ℕ). contains_uid uid c.args.set.now in
    let len = ap length c.vanish.ensures in
    let total = ap header_total c.vanish.ensures in
    (omega (arith, len, without_shorter gone c.self.inside.rows, c.self.invariant.0), omega (arith, total, without_total gone c.self.inside.rows, c.self.invariant.1))
