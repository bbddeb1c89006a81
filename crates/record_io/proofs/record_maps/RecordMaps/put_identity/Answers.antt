use Rattle.std.proofs.Common.{rules, ◌≡◌, ℕ, ap, sym, ◌∙◌}
use Rattle.std.specs.Prelude.{None, map}
use Rattle.std.specs.Map.{lookup, set_value}
use Rattle.std.specs.BTreeMap.{BTreeMap, insert_entry}
use Rattle.std.specs.Global.{Vec}
use Rattle.std.specs.Ordering.{nat_cmp}
use Rattle.std.proofs.lemmas.Map.Steps.{set_value_same}
use Rattle.std.proofs.lemmas.Result.{on_ok_weaker, on_err_weaker}
use Rattle.record_io.specs.Maps.{AccountEntries, entry_records}
use Rattle.record_io.specs.Records.{no_records, records_of, with_records}
use Rattle.record_io.proofs.RecordLemmas.{name_at, named, put_written, put_inserted, records_absent}
use Rattle.record_io.proofs.record_maps.RecordMaps.put_identity.Goals as goal

pub returns-in-Some-clause-puts : goal.returns-in-Some-clause-puts
returns-in-Some-clause-puts c =
    let entries = c.self.inside.accounts.entries in
    let after = (c.get_mut.follows.holds c.put_identity.new.self).0 in
    rw (← c.self.view_is) (on_ok_weaker c.put_identity.result (λ puts. ap (map entry_records) after ∙ ap (λ (kept : AccountEntries). map entry_records (set_value (name_at c.args.account.now) entries kept)) puts
    ∙ put_written c.args.account.now c.args.number c.args.identity entries c.in-Some.maps.now c.get_mut.ensures.ordered c.in-Some.ensures.value) c.put_identity.ensures.puts)

pub returns-in-Some-clause-unchanged_on_err : goal.returns-in-Some-clause-unchanged_on_err
returns-in-Some-clause-unchanged_on_err c =
    let entries = c.self.inside.accounts.entries in
    let after = (c.get_mut.follows.holds c.put_identity.new.self).0 in
    on_err_weaker c.put_identity.result (λ same. ap (map entry_records) (after ∙ ap (λ (kept : AccountEntries). set_value (name_at c.args.account.now) entries kept) same ∙ set_value_same (name_at c.args.account.now) entries c.in-Some.maps.now (sym c.in-Some.ensures.value)) ∙ c.self.view_is) c.put_identity.ensures.unchanged_on_err

pub returns-clause-puts : goal.returns-clause-puts
returns-clause-puts c =
    let entries = c.self.inside.accounts.entries in
    let missing : lookup (name_at c.args.account.now) entries ≡ None = search rules in
    let none : records_of c.args.account.now c.args.self.now ≡ no_records c.args.account.now = rw (← c.self.view_is) (records_absent c.args.account.now entries missing) in
    let same = ap (λ (accounts : BTreeMap (Vec ℕ) AccountEntries). map entry_records accounts.entries) c.get_mut.follows.holds-at-none ∙ c.self.view_is in
    let kept : c.put_identity-2.new.self ≡ _ = c.in_ok-put_identity.ensures.puts ∙ ap (λ (kept : AccountEntries). record kept { identities = insert_entry nat_cmp kept.identities c.args.number c.args.identity }) c.new-maps.ensures in
    on_ok_weaker c.insert.result (λ inserts. inserts ∙ ap (λ records. with_records (named c.args.account.now c.put_identity-2.new.self) records) same ∙ ap (λ (maps : AccountEntries). with_records (named c.args.account.now maps) c.args.self.now) kept ∙ put_inserted c.args.account.now c.args.number c.args.identity c.args.self.now none) c.insert.ensures.inserts
