use Rattle.std.proofs.Common.{◌∙◌, ap, map}
use Rattle.std.proofs.lemmas.List.{take_all}
use Rattle.folder_pages.specs.Folders.{Key, by_key, folder_order}
use Rattle.folder_pages.proofs.Sorting.{places_of, sorted_by_key}
use Rattle.folder_pages.proofs.folders.folder_order.Goals as goal

pub returns : goal.returns
unfolding folder_order
returns c =
    let sorted = sorted_by_key c.in_ok-keys.keys.items c.sort.new.self.items c.in_ok-sort.ensures.permutation c.in_ok-sort.ensures.sorted in
    c.loop-key.invariant ∙ ap (map (λ key. key.2)) (take_all c.loop-key.key-index c.deref-key-items.result.now c.loop-key-test.false ∙ c.deref-key-items.ensures.value)
    ∙ places_of c.sort.new.self.items ∙ ap (map (λ (k : Key). k.2)) (sorted ∙ ap by_key c.in_ok-keys.ensures)
