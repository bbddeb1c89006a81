use Rattle.std.proofs.Common.{◌≡◌, ◌∙◌, ◌*◌, ◌-◌, ℕ, List, ap, subst, take, drop}
use Rattle.std.specs.Prelude.{IfOk, reverse}
use Rattle.std.specs.Slice.Iter.{iter_rest}
use Rattle.std.proofs.lemmas.Iterator.{items_from_collect}
use Rattle.std.proofs.lemmas.Iterator.Adapters.{YieldsList-from_rev_slice}
use Rattle.std.proofs.lemmas.Iterator.Consumers.{YieldsList-at, YieldsList-from_copied}
use Rattle.folder_pages.proofs.Lists.{slice_from_last}
use Rattle.folder_pages.proofs.tables.newest_uids.Goals as goal

pub returns : goal.returns
returns c =
    let uids = c.uids-uids.result.now in
    let start = c.saturating_sub-start.result in
    let end = c.saturating_sub-end.result in
    let backwards = YieldsList-from_rev_slice (take (end - start) (drop start uids)) (ap iter_rest c.rev.ensures.source ∙ c.iter.ensures.rest) in
    let items = items_from_collect c.collect.result c.collect.ensures.ran (YieldsList-from_copied (YieldsList-at c.copied.ensures.source backwards)) in
    let place = slice_from_last uids c.rows_before.result 50 start end c.saturating_sub-end.ensures c.saturating_sub-start.ensures in
    let page = ap (λ n. take 50 (drop n (reverse uids))) c.rows_before.ensures ∙ ap (λ (keys : List ℕ). take 50 (drop (50 * (c.args.page - 1)) (reverse keys))) c.uids-uids.ensures.equals in
    subst (λ (shown : List ℕ). IfOk c.collect.result (λ found. found.items ≡ shown)) (place ∙ page) items
