-- Logins that run out of memory.
use Rattle.std.proofs.Common.{ℕ, List, [], refl, Option, Some, None}
use Rattle.std.specs.Prelude.{Err}
use Rattle.account_pictures.specs.declared.talk.Piece.{Piece}
use Rattle.account_turns.specs.Turns.{with_piece}
use Rattle.turn_algebra.specs.Going.{GrowsBy}
use Rattle.account_mail.specs.Sides.{IsTalk, SideState}
use Rattle.account_mail.specs.Turned as mail
use Rattle.account_core.specs.declared.faults.LoginFault.TheVariants as fault
use Rattle.account_core.specs.Logins.{LoginTurn}

some_talk : (talk : Option (List Piece)) → (pieces : List Piece) × IsTalk talk pieces
some_talk None = ([], tt)
some_talk (Some talk) = (talk, refl)

same_talk : (talk : Option (List Piece)) → GrowsBy with_piece talk talk []
same_talk None = tt
same_talk (Some talk) = refl

-- before the turn
pub untaken : {U : Type 0} (user password : List ℕ) (side : SideState) (adopted : Option (List ℕ)) (faults : ℕ) → LoginTurn {U = U} user password side side adopted faults faults (Err fault.Memory)
untaken user password side adopted faults = let some = some_talk side.talk in record {
  side = side;
  ending = Err fault.Memory;
  turn = record { pieces = some.0; same = some.1; goes = record { parts = []; grown = same_talk side.talk; due = tt; holds = tt } };
  link = tt;
  ends = tt;
  kept = refl;
  adopts = tt;
  cause = refl;
}

-- within it
pub broken : {U E : Type 0} (user password : List ℕ) (old new : SideState) (e : E) (adopted : Option (List ℕ)) (faults : ℕ) → mail.LoggedIn {E = E} (mail.login_errand user password) old new (Err e) → LoginTurn {U = U} user password old new adopted faults faults (Err fault.Memory)
broken user password old new e adopted faults logged = record {
  side = new;
  ending = Err fault.Memory;
  turn = record { pieces = logged.pieces; same = logged.same; goes = logged.goes };
  link = tt;
  ends = tt;
  kept = refl;
  adopts = tt;
  cause = refl;
}
