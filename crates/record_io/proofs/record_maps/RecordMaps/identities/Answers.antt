use Rattle.std.proofs.Common.{ap, sym, ◌∙◌}
use Rattle.std.proofs.lemmas.Result.{IfOk-weaker}
use Rattle.account_pictures.specs.declared.records.Records.{Records}
use Rattle.record_io.proofs.RecordLemmas.{records_found, records_absent}
use Rattle.record_io.proofs.record_maps.RecordMaps.identities.Goals as goal

pub returns-in-Some : goal.returns-in-Some
returns-in-Some c =
    let found = records_found c.args.account.now c.self.inside.accounts.entries c.in-Some.maps.now (sym c.in-Some.ensures.value) in
    rw (← c.self.view_is) (IfOk-weaker c.identities.result _ _ (λ list is. is ∙ sym (ap (λ (one : Records). one.identities) found)) c.identities.ensures)

pub returns-in-None : goal.returns-in-None
returns-in-None c =
    let absent = records_absent c.args.account.now c.self.inside.accounts.entries (sym c.in-None.ensures.value) in
    rw (← c.self.view_is) (c.new.ensures.items ∙ sym (ap (λ (one : Records). one.identities) absent))
