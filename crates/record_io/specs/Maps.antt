-- How contracts see the records of one account in maps.
use Rattle.std.specs.Prelude.{ℕ, List}
use Rattle.std.specs.Global.{Vec}
use Rattle.account_pictures.specs.declared.records.Identity.{Identity}
use Rattle.account_pictures.specs.declared.records.SendState.{SendState}
use Rattle.account_pictures.specs.declared.records.Records.{Records}

pub record AccountEntries : Type 0 where
  pub identities : List (ℕ × Identity)
  pub sends : List (ℕ × SendState)

-- one name's records
abbrev pub entry_records : Vec ℕ × AccountEntries → Records
entry_records entry = record { account = entry.0.items; identities = entry.1.identities; sends = entry.1.sends }
