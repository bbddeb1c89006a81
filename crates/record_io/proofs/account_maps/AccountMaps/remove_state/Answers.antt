use Rattle.std.proofs.Common.{ap, ◌∙◌}
use Rattle.record_io.proofs.RecordLemmas.{removed}
use Rattle.record_io.proofs.account_maps.AccountMaps.remove_state.Goals as goal

pub returns-then-len-gt0 : goal.returns-then-len-gt0
returns-then-len-gt0 c =
    let sends = c.remove.ensures.entries ∙ removed c.args.form c.self.inside.sends.entries c.len.ensures.ordered in
    rw (← c.self.view_is) (ap (λ kept. record { identities = c.self.inside.identities.entries; sends = kept }) sends)
