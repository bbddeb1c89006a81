-- When a call on a file counts a fault, and how contracts see a keeper over files.
use Rattle.std.specs.Prelude.{◌≡◌, ℕ, ◌+◌, ◌-◌, ◌^◌, List, Option, Result, Ok, Err}
use Rattle.sqlite.specs.declared.error.Error.{Error}
use Rattle.sqlite.specs.declared.error.Error.TheVariants.{SqliteFailure}
use Rattle.sqlite.specs.declared.error.ErrorCode.TheVariants.{OutOfMemory}
use Rattle.record_io.specs.declared.keeper.KeepFault.{KeepFault}
use Rattle.record_io.specs.declared.keeper.KeepFault.TheVariants as keep
use Rattle.sqlite_keeper.specs.declared.fault.FileFault.{FileFault}
use Rattle.sqlite_keeper.specs.declared.fault.FileFault.TheVariants.{Refused, Memory}

-- want of memory is SQLite's own; every other error is a refusal
abbrev pub fault_of : Error → FileFault
fault_of (SqliteFailure OutOfMemory) = Memory
fault_of error = Refused

pub record FilesState : Type 0 where
  pub folder : List ℕ
  pub adopted : Option (List ℕ)
  pub faults : ℕ

-- what a keeper answers to what became of a call on a file, and its faults then: a refusal that can't be counted any more is answered as want of memory
abbrev pub Answers : {T : Type 0} → ℕ → Result T FileFault → Result T KeepFault → ℕ → Type 0
Answers before (Ok value) result now = (result ≡ Ok value) × (now ≡ before)
Answers before (Err Memory) result now = (result ≡ Err keep.Memory) × (now ≡ before)
Answers before (Err Refused) (Ok value) now = ⊥
Answers before (Err Refused) (Err keep.Failed) now = now ≡ before + 1
Answers before (Err Refused) (Err keep.Memory) now = (now ≡ before) × (before ≡ 2 ^ 64 - 1)
