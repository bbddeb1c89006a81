use Rattle.std.proofs.Common.{ap, ◌∙◌}
use Rattle.std.specs.Prelude.{map}
use Rattle.record_io.specs.Maps.{entry_records}
use Rattle.record_io.specs.Records.{with_records}
use Rattle.record_io.proofs.RecordLemmas.{inserted, named}
use Rattle.record_io.proofs.record_maps.RecordMaps.insert.Goals as goal

pub returns-clause-inserts : goal.returns-clause-inserts
returns-clause-inserts c =
    let entries = c.self.inside.accounts.entries in
    let all = ap (map entry_records) c.in_ok-insert.ensures.entries ∙ inserted entries c.in_ok-name.name c.args.maps in
    rw (← c.self.view_is) (all ∙ ap (λ name. with_records (named name c.args.maps) (map entry_records entries)) c.in_ok-name.ensures.items)
