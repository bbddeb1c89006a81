use Rattle.std.proofs.Common.{◌≡◌, ◌-◌, length}
use Rattle.imap_grammar.specs.ItemData.{items_data_of}
use Rattle.imap_grammar.specs.Items.{items_at}
use Rattle.imap_grammar.proofs.ItemLemmas.{prepend_items}
use Rattle.imap_grammar.proofs.fetch.items.Given as goal

abbrev pub invariant-loop : goal.invariant-loop
invariant-loop l = prepend_items (items_data_of l.items.items) (items_at (length l.bytes - l.counter) l.left) ≡ items_at (length l.bytes) l.bytes
