-- What contracts see of an outbox.
use Rattle.std.specs.Prelude.{ℕ, List, Option}
use Rattle.account_pictures.specs.declared.records.Records.{Records}
use Rattle.account_pictures.specs.declared.talk.Piece.{Piece}

pub record OutboxState : Type 0 where
  -- the talk with the post server, if the link tells it, and the number of the link's faults
  pub talk : Option (List Piece)
  pub post_faults : ℕ
  -- the records of the keeper, if it tells them, the account that it has adopted, and the number of its faults
  pub records : Option (List Records)
  pub adopted : Option (List ℕ)
  pub keeper_faults : ℕ

abbrev pub outbox : Option (List Piece) → ℕ → Option (List Records) → Option (List ℕ) → ℕ → OutboxState
outbox talk post_faults records adopted keeper_faults = record { talk = talk; post_faults = post_faults; records = records; adopted = adopted; keeper_faults = keeper_faults }
