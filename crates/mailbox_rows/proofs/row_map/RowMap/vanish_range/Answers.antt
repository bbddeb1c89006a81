use Rattle.std.proofs.Common.{ap, ◌∙◌, arith, length}
use Rattle.imap_commands.specs.UidSets.{in_range}
use Rattle.mailbox_rows.specs.Rows.{Rows, has_uid, without}
use Rattle.mailbox_rows.proofs.RowLemmas.{removed_shorter, removed_gone}
use Rattle.mailbox_rows.proofs.row_map.RowMap.vanish_range.Goals as goal

pub loop-uid-smaller : goal.loop-uid-smaller
loop-uid-smaller c =
    let shorter = removed_shorter (has_uid c.in-Some.uid) c.loop-uid.self c.in-Some.ensures.kept in
    let now = ap (λ (rows : Rows). length rows) c.remove.ensures in
    omega (arith, shorter, now)

pub loop-uid-preserved : goal.loop-uid-preserved
loop-uid-preserved c =
    ap (λ rows. without (λ uid. in_range uid c.args.range) rows) c.remove.ensures
    ∙ removed_gone (λ uid. in_range uid c.args.range) c.in-Some.uid c.loop-uid.self c.in-Some.ensures.found
    ∙ c.loop-uid.invariant
