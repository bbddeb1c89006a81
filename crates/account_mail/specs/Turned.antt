-- What a turn does to an account's side of its mail server.
use Rattle.std.specs.Prelude.{◌≡◌, ℕ, Bool, true, false, not, ◌&&◌, ◌||◌, if◌then◌else◌, List, [], Option, Some, None, Result, IfOk}
use Rattle.std.specs.List.{fold}
use Rattle.std.specs.Str.{bytes_eq}
use Rattle.account_pictures.specs.declared.talk.Piece.{Piece}
use Rattle.site_asks.specs.declared.asks.Ask.TheVariants as ask
use Rattle.mail_talk.specs.Told.{Talk, no_talk, after_piece}
use Rattle.mail_talk.specs.Units.{TalkState}
use Rattle.account_script.specs.declared.steps.Credentials.{Credentials}
use Rattle.account_script.specs.declared.steps.Step.{Step}
use Rattle.account_script.specs.Asks.{script_of}
use Rattle.account_turns.specs.declared.endings.Ending.{Ending}
use Rattle.account_turns.specs.declared.endings.Ending.TheVariants.{Done, Stopped, Failed}
use Rattle.account_turns.specs.declared.endings.Last.TheVariants as lasts
use Rattle.account_turns.specs.Turns.{Continues, Errand, Turn, due}
use Rattle.account_turns.specs.Turns.Due.{Ends, Stops}
use Rattle.account_mail.specs.Sides.{SideState, IsTalk}

-- what some pieces come to
abbrev pub talk_of : List Piece → Talk
talk_of pieces = fold after_piece no_talk pieces

-- a turn as it begins, after some pieces, with these steps
abbrev pub opening_with : List Step → Errand → Bool → Bool → List Piece → Turn
opening_with steps e up fresh pieces = record {
  errand = e;
  talk = talk_of pieces;
  steps = steps;
  progress = record { up = up; mark = 0 };
  fresh = fresh;
  begun = false;
  cut = false;
  last = lasts.Dial;
  left = [];
}

-- the same with the script of the errand's ask
abbrev pub opening : Errand → Bool → Bool → List Piece → Turn
opening e up fresh pieces = opening_with (script_of e.ask up) e up fresh pieces

-- what was due at the end of a turn, and whether the account is logged in then
abbrev pub EndsAs : Ending → Bool → Turn → Type 0
EndsAs Done up u = due u ≡ Ends up
EndsAs (Stopped cause) up u = due u ≡ Stops cause up
EndsAs Failed up u = up ≡ false

-- a turn has ended, and this is kept of it
pub record Ended (ending : Ending) (up fresh : Bool) (ear : TalkState) (u : Turn) : Type 0 where
  pub ends : EndsAs ending up u
  pub fresh_next : u.fresh ≡ fresh
  pub told : fresh ≡ false → u.talk.state ≡ ear

-- A turn of some steps for an errand: its pieces came when they were due, after the talk before it, and it ended as the result says. If the
-- link tells its talk, that grew by exactly these pieces.
pub record TurnedBy {E : Type 0} (steps : List Step) (e : Errand) (up fresh : Bool) (old new : SideState) (result : Result Ending E) : Type 0 where
  pub pieces : List Piece
  pub same : IsTalk old.talk pieces
  pub goes : Continues old.talk new.talk (opening_with steps e up fresh pieces) (λ u. IfOk result (λ ending. Ended ending new.up new.fresh new.ear u))

-- a turn of the script of an errand's ask
abbrev pub Turned : {E : Type 0} → Errand → Bool → Bool → SideState → SideState → Result Ending E → Type 0
Turned e up fresh old new result = TurnedBy (script_of e.ask up) e up fresh old new result

-- ---- logins

abbrev pub is_user : List ℕ → Option Credentials → Bool
is_user user None = false
is_user user (Some who) = bytes_eq who.user user

-- a login of another user forgets what was told
abbrev pub login_fresh : List ℕ → Option Credentials → Bool → Bool
login_fresh user who fresh = fresh || not (is_user user who)

-- who a login is for
abbrev pub login_errand : List ℕ → List ℕ → Errand
login_errand user password = record { who = record { user = user; password = password }; ask = ask.LoginPage; message = [] }

-- Who is kept after a login whose dial was to be fresh or not, and would still be: who logged in, if all was answered; nobody, if the dial
-- forgot what was told; else who was kept.
abbrev pub who_after : Ending → Credentials → Bool → Bool → Option Credentials → Option Credentials
who_after Done who fresh still kept = Some who
who_after _ who true false kept = None
who_after _ who _ still kept = kept

-- who logged in is kept, if all was answered
abbrev pub IsKeptUser : Ending → List ℕ → List ℕ → Option Credentials → Type 0
IsKeptUser Done user password who = who ≡ Some (record { user = user; password = password })
IsKeptUser _ user password who = Unit {0}

-- who is kept if a login of a user was answered, and is taken back
abbrev pub who_without_login : List ℕ → Option Credentials → Bool → Option Credentials
who_without_login user who fresh = if login_fresh user who fresh then None else who

-- A login has ended: the next dial is fresh if it was before and no dial succeeded, and what was told is kept of one that succeeded.
pub record LoginEnded (ending : Ending) (kept : Option Credentials) (e : Errand) (was now up : Bool) (who : Option Credentials) (before ear : TalkState) (u : Turn) : Type 0 where
  pub ends : EndsAs ending up u
  pub fresh_next : now ≡ (was && u.fresh)
  pub told : u.fresh ≡ false → u.talk.state ≡ ear
  pub unheard : u.fresh ≡ true → ear ≡ before
  pub user : who ≡ who_after ending e.who (login_fresh e.who.user kept was) u.fresh kept

-- a login, by a turn of its own after the talk before it
pub record LoggedIn {E : Type 0} (e : Errand) (old new : SideState) (result : Result Ending E) : Type 0 where
  pub pieces : List Piece
  pub same : IsTalk old.talk pieces
  pub goes : Continues old.talk new.talk (opening e false (login_fresh e.who.user old.who old.fresh) pieces) (λ u. IfOk result (λ ending. LoginEnded ending old.who e old.fresh new.fresh new.up new.who old.ear new.ear u))
