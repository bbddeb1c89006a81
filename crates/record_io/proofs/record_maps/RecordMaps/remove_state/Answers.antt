use Rattle.std.proofs.Common.{rules, ◌≡◌, ℕ, ap, sym, ◌∙◌}
use Rattle.std.specs.Prelude.{None, map}
use Rattle.std.specs.BTreeMap.{BTreeMap}
use Rattle.std.specs.Global.{Vec}
use Rattle.std.specs.Map.{lookup, set_value}
use Rattle.record_io.specs.Maps.{AccountEntries, entry_records}
use Rattle.record_io.specs.Records.{after_change}
use Rattle.record_io.proofs.RecordLemmas.{name_at, unset, unset_absent}
use Rattle.record_io.proofs.record_maps.RecordMaps.remove_state.Goals as goal
use Rattle.record_io.proofs.record_maps.RecordMaps.remove_state.Goals.{in-Some, in_default}

pub returns : goal.returns
unfolding after_change
returns c =
    let entries = c.self.inside.accounts.entries in
    elim c.match-get_mut.branch [
      | in-Some w ↦ (
          let after = (c.get_mut.follows.holds w.remove_state.new.self).0 in
          rw (w.self-inside-is, ← c.self.view_is) (ap (map entry_records) after ∙ ap (λ (kept : AccountEntries). map entry_records (set_value (name_at c.args.account.now) entries kept)) w.remove_state.ensures
          ∙ unset c.args.account.now c.args.form entries w.in-Some.maps.now (sym w.in-Some.ensures.value))
          )
      | in_default w ↦ (
          let missing : lookup (name_at c.args.account.now) entries ≡ None = search rules in
          let same = c.get_mut.follows.holds-at-none in
          rw (w.self-inside-is, ← c.self.view_is) (ap (λ (accounts : BTreeMap (Vec ℕ) AccountEntries). map entry_records accounts.entries) same ∙ unset_absent c.args.account.now c.args.form entries missing)
          )
    ]
