use Rattle.std.proofs.Common.{ap, sym, ◌∙◌}
use Rattle.std.specs.Map.{lookup}
use Rattle.std.specs.BTreeMap.{is_at}
use Rattle.std.specs.Ordering.{nat_cmp}
use Rattle.account_pictures.specs.declared.records.Records.{Records}
use Rattle.record_io.proofs.RecordLemmas.{records_found, records_absent}
use Rattle.record_io.proofs.record_maps.RecordMaps.state.Goals as goal

pub returns-in-Some : goal.returns-in-Some
returns-in-Some c =
    let found = records_found c.args.account.now c.self.inside.accounts.entries c.in-Some.maps.now (sym c.in-Some.ensures.value) in
    rw (← c.self.view_is) (c.state.ensures ∙ sym (ap (λ (one : Records). lookup (is_at (nat_cmp c.args.form)) one.sends) found))

pub returns-in-None : goal.returns-in-None
returns-in-None c =
    let absent = records_absent c.args.account.now c.self.inside.accounts.entries (sym c.in-None.ensures.value) in
    rw (← c.self.view_is) (sym (ap (λ (one : Records). lookup (is_at (nat_cmp c.args.form)) one.sends) absent))
