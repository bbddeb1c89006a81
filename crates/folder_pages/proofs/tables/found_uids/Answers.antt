use Rattle.std.proofs.Common.{◌∙◌, ap, rules, tests}
use Rattle.std.specs.Slice.Iter.{iter_rest}
use Rattle.std.proofs.lemmas.Iterator.{items_from_collect}
use Rattle.std.proofs.lemmas.Iterator.Adapters.{YieldsList-from_rev_slice}
use Rattle.std.proofs.lemmas.Iterator.Consumers.{YieldsList-at, YieldsList-from_copied, YieldsList-from_filter}
use Rattle.std.specs.Map.{keys_of}
use Rattle.imap_commands.specs.UidSets.{contains_uid}
use Rattle.folder_pages.proofs.tables.found_uids.Goals as goal

pub returns : goal.returns
returns c =
    let uids = YieldsList-from_rev_slice (keys_of c.args.rows.now) (ap iter_rest c.rev.ensures.source ∙ c.iter.ensures.rest ∙ c.uids.ensures.equals) in
    items_from_collect c.collect.result c.collect.ensures.ran
    (YieldsList-from_copied (YieldsList-at c.copied.ensures.source (YieldsList-from_filter _ (λ uid. contains_uid uid c.args.found.now) (YieldsList-at c.filter.ensures.source uids) c.filter.ensures.closure (λ x b q k. search (rules, tests)))))
