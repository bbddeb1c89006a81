use Rattle.std.proofs.Common.{◌≡◌, length}
use Rattle.std.specs.List.{fold}
use Rattle.imap_grammar.specs.ItemData.{items_data_of}
use Rattle.mailbox_view.specs.Fetched.{with_item, fields_of}
use Rattle.mailbox_view.proofs.fetched.read_fields.Given as goal

abbrev pub invariant-loop-rest : goal.invariant-loop-rest
invariant-loop-rest l = record {
  read : fold with_item l.fields (items_data_of l.rest) ≡ fields_of l.items;
}

abbrev pub decreases-loop-rest : goal.decreases-loop-rest
decreases-loop-rest l = length l.rest
