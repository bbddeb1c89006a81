use Rattle.std.proofs.Common.{sym, ◌∙◌}
use Rattle.mailbox_rows.proofs.RowLemmas.{split_first, vanish_more, vanish_end}
use Rattle.mailbox_rows.proofs.row_map.RowMap.vanish.Goals as goal

pub loop-rest-preserved : goal.loop-rest-preserved
loop-rest-preserved c =
    vanish_more c.loop-rest.rest.now _ _ c.loop-rest.self _ _ c.vanish_range.ensures (split_first c.loop-rest.rest.now _ c.in-len1-up.len_at_least) c.loop-rest.invariant

pub returns : goal.returns
returns c = sym (vanish_end c.loop-rest.rest.now c.loop-rest.self c.in_default.len_below) ∙ c.loop-rest.invariant
