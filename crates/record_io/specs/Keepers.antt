-- What the calls of a keeper do to what it tells, and how contracts see one in memory.
use Rattle.std.specs.Prelude.{◌≡◌, ℕ, ◌≤◌, List, [], Option, Some, None, Result, Ok, Err, ⊤}
use Rattle.std.specs.Option.{option_map}
use Rattle.account_pictures.specs.declared.records.Records.{Records}
use Rattle.mail_io.specs.Causes.{Rose}
use Rattle.mail_io.specs.Memory.{next_count}
use Rattle.record_io.specs.declared.keeper.KeepFault.{KeepFault}
use Rattle.record_io.specs.declared.keeper.KeepFault.TheVariants.{Failed, Memory}
use Rattle.record_io.specs.Records.{Change, after_change}

-- a call answers `Failed` only if the count of faults rose, and keeps the count otherwise
abbrev pub HasKeepCause : {T : Type 0} → ℕ → ℕ → Result T KeepFault → Type 0
HasKeepCause before now (Ok value) = now ≡ before
HasKeepCause before now (Err Failed) = (before ≤ now) × Rose before now
HasKeepCause before now (Err Memory) = now ≡ before

-- the records after a change for the adopted account
abbrev pub changed_for : Option (List ℕ) → (List ℕ → Change) → List Records → List Records
changed_for None change records = records
changed_for (Some account) change records = after_change records (change account)

-- what is told after a change for the adopted account: nothing, if nothing was told before
abbrev pub told_after : Option (List Records) → Option (List ℕ) → (List ℕ → Change) → Option (List Records)
told_after told adopted change = option_map (changed_for adopted change) told

-- a fact about what is told and the adopted account
abbrev pub IfTold : Option (List Records) → Option (List ℕ) → (List Records → List ℕ → Type 0) → Type 0
IfTold None adopted P = ⊤
IfTold (Some records) None P = ⊤
IfTold (Some records) (Some account) P = P records account

-- ---- a keeper in memory

pub record KeeperState : Type 0 where
  pub records : List Records
  pub adopted : Option (List ℕ)
  -- the calls and the faults so far, and the numbers of the calls that fail, from 1
  pub calls : ℕ
  pub faults : ℕ
  pub failing : List ℕ

abbrev pub new_keeper : List ℕ → KeeperState
new_keeper failing = record { records = []; adopted = None; calls = 0; faults = 0; failing = failing }

-- after a call that changes nothing else
abbrev pub counted : KeeperState → KeeperState
counted keeper = record keeper { calls = next_count keeper.calls }

-- after a call that gives nothing
abbrev pub after_fault : KeepFault → KeeperState → KeeperState
after_fault Failed keeper = record keeper { calls = next_count keeper.calls; faults = next_count keeper.faults }
after_fault Memory keeper = counted keeper

abbrev pub after_adopt : List ℕ → KeeperState → KeeperState
after_adopt account keeper = record (counted keeper) { adopted = Some account }

abbrev pub after_put : (List ℕ → Change) → KeeperState → KeeperState
after_put change keeper = record (counted keeper) { records = changed_for keeper.adopted change keeper.records }
