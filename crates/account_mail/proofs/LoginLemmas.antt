-- How a login begins and ends.
use Rattle.std.proofs.Common.{◌≡◌, ℕ, List, [], ◌∷◌, ◌++◌, Bool, true, false, refl, sym, ap, ◌∙◌, subst, Option, Some, append-nil, inl, inr}
use Rattle.std.specs.Prelude.{Result, ◌&&◌, ◌||◌, not}
use Rattle.std.specs.List.{fold}
use Rattle.std.proofs.lemmas.Bool.{cases_Bool}
use Rattle.account_pictures.specs.declared.talk.Piece.{Piece}
use Rattle.account_pictures.specs.declared.talk.Piece.TheVariants.{Dialled, Said, Heard}
use Rattle.mail_talk.specs.Told.{Talk, no_talk, after_piece, told_of}
use Rattle.mail_talk.specs.Units.{TalkState}
use Rattle.account_script.specs.declared.steps.Credentials.{Credentials}
use Rattle.account_script.specs.declared.steps.Step.{Step}
use Rattle.account_turns.specs.declared.endings.Ending.{Ending}
use Rattle.account_turns.specs.declared.endings.Ending.TheVariants.{Done, Stopped, Failed}
use Rattle.account_script.specs.Asks.{login_steps}
use Rattle.account_turns.specs.Exchanges.{IsUnheard}
use Rattle.account_turns.specs.Steps.{Matches}
use Rattle.account_turns.specs.Turns.{Continues, Due, Errand, IsAllowed, IsDue, Turn, after, due, ready}
use Rattle.account_turns.specs.Turns.Due.{Dials}
use Rattle.account_mail.specs.Sides.{IsKept, IsTalk, SideState}
use Rattle.account_mail.specs.Turned.{Ended, IsKeptUser, LoggedIn, LoginEnded, is_user, login_errand, login_fresh, opening, who_after}
use Rattle.account_mail.proofs.OpenLemmas.{after_talk, is_talk_after, matches_opening}
use Rattle.turn_algebra.specs.Going.{AreDue}
use Rattle.turn_algebra.proofs.GoingLemmas.{folded_append}

pub login_ended : (ending : Ending) (kept now_who : Option Credentials) (who : Credentials) (user password : List ℕ) (was forgets still now up : Bool) (before ear : TalkState) (u : Turn) → who ≡ record { user = user; password = password } → forgets ≡ login_fresh user kept was → now ≡ (was && still) → now_who ≡ who_after ending who forgets still kept
    → (still ≡ true → IsUnheard forgets before ear) → Ended ending up still ear u → LoginEnded ending kept (login_errand user password) was now up now_who before ear u
login_ended ending kept now_who who user password was forgets still now up before ear u i j n w unheard h = record {
  ends = h.ends;
  fresh_next = n ∙ ap (λ (b : Bool). was && b) (sym h.fresh_next);
  told = λ f. h.told (sym h.fresh_next ∙ f);
  unheard = λ f. (unheard (sym h.fresh_next ∙ f)).1;
  user = w ∙ ap (λ (x : Credentials). who_after ending x forgets still kept) i ∙ ap (λ (x : Bool). who_after ending (record { user = user; password = password }) x still kept) j
      ∙ ap (λ (x : Bool). who_after ending (record { user = user; password = password }) (login_fresh user kept was) x kept) (sym h.fresh_next);
}

-- ---- a dial that failed

fresh_stays : (t : Turn) (parts : List Piece) → t.fresh ≡ false → (fold after t parts).fresh ≡ false
fresh_stays t [] f = f
fresh_stays t (Dialled x ∷ ps) f = fresh_stays (after t (Dialled x)) ps refl
fresh_stays t (Said x ∷ ps) f = fresh_stays (after t (Said x)) ps f
fresh_stays t (Heard x ∷ ps) f = fresh_stays (after t (Heard x)) ps f

no_parts : (t : Turn) (more : List Step) (parts : List Piece) → due t ≡ Dials true more → AreDue after IsDue t parts → (fold after t parts).fresh ≡ true → parts ≡ []
no_parts t more [] d all f = refl
no_parts t more (Dialled x ∷ ps) d all f = absurd (let e : false ≡ true = sym (fresh_stays (after t (Dialled x)) ps refl) ∙ f in cc)
no_parts t more (Said x ∷ ps) d all f = absurd (subst (λ (y : Due). IsAllowed y (Said x) t) d all.0)
no_parts t more (Heard x ∷ ps) d all f = absurd (subst (λ (y : Due). IsAllowed y (Heard x) t) d all.0)

-- a login dials first
login_dials : (user password : List ℕ) (pieces : List Piece) → (more : List Step) × (due (opening (login_errand user password) false true pieces) ≡ Dials true more)
unfolding due ready
login_dials user password pieces = (_, refl)

parts_by : (user password : List ℕ) (fresh : Bool) (pieces parts : List Piece) → AreDue after IsDue (opening (login_errand user password) false fresh pieces) parts → (fold after (opening (login_errand user password) false fresh pieces) parts).fresh ≡ true → parts ≡ []
parts_by user password true pieces parts all f = let d = login_dials user password pieces in no_parts (opening (login_errand user password) false true pieces) d.0 parts d.1 all f
parts_by user password false pieces parts all f = absurd (let e : false ≡ true = sym (fresh_stays (opening (login_errand user password) false false pieces) parts refl) ∙ f in cc)

and_true : (b : Bool) → (b && true) ≡ b
and_true true = refl
and_true false = refl

-- what is kept after a login is what the talk comes to
pub login_kept : (user password : List ℕ) (fresh was now : Bool) (before ear : TalkState) (pieces : List Piece) (a b : Option (List Piece)) → IsTalk a pieces → (was ≡ false → told_of pieces ≡ before)
    → Continues a b (opening (login_errand user password) false fresh pieces) (λ u. (now ≡ (was && u.fresh)) × (u.fresh ≡ false → u.talk.state ≡ ear) × (u.fresh ≡ true → ear ≡ before)) → IsKept b now ear
login_kept user password fresh was now before ear pieces a b is told g =
    let start : Turn = opening (login_errand user password) false fresh pieces in
    let end : Turn = fold after start g.parts in
    let path : told_of (pieces ++ g.parts) ≡ end.talk.state = ap (λ (t : Talk). t.state) (folded_append after_piece no_talk pieces g.parts ∙ sym (after_talk start g.parts)) in
    λ f. elim (cases_Bool end.fresh) [
      | inl still ↦
          let none : g.parts ≡ [] = parts_by user password fresh pieces g.parts g.due still in
          let before_false : was ≡ false = sym (and_true was) ∙ ap (λ (x : Bool). was && x) (sym still) ∙ sym g.holds.0 ∙ f in
          record { pieces = pieces ++ g.parts; same = is_talk_after a b pieces g.parts is g.grown; told = ap (λ (l : List Piece). told_of (pieces ++ l)) none ∙ ap told_of (append-nil pieces) ∙ told before_false ∙ sym (g.holds.2 still) }
      | inr done ↦ record { pieces = pieces ++ g.parts; same = is_talk_after a b pieces g.parts is g.grown; told = path ∙ g.holds.1 done }
    ]

or_false : (a b : Bool) → (a || b) ≡ false → a ≡ false
or_false true b w = cc
or_false false b w = refl

-- how a login begins, after some pieces
pub matches_login : (user password : List ℕ) (kept : Option Credentials) (fresh : Bool) (ear : TalkState) (pieces : List Piece) → (fresh ≡ false → told_of pieces ≡ ear)
    → Matches (login_errand user password) login_steps (login_fresh user kept fresh) (record { up = false; mark = 0 }) ear (opening (login_errand user password) false (login_fresh user kept fresh) pieces)
matches_login user password kept fresh ear pieces told =
    matches_opening (login_errand user password) false (login_fresh user kept fresh) ear pieces (λ w. absurd (let e : false ≡ true = w in cc)) (λ f. told (or_false fresh (not (is_user user kept)) f))

-- a login, by the fields of the side
pub logged_as : {E : Type 0} (s view new : SideState) (result : Result Ending E) (e : Errand) → view ≡ s → LoggedIn e view new result → LoggedIn e s new result
logged_as s view new result e is logged = subst (λ (x : SideState). LoggedIn e x new result) is logged

-- who is kept after a login, by how it ended
pub kept_user : (ending : Ending) (now kept : Option Credentials) (who : Credentials) (user password : List ℕ) (forgets still : Bool) → who ≡ record { user = user; password = password } → now ≡ who_after ending who forgets still kept → IsKeptUser ending user password now
kept_user Done now kept who user password forgets still is w = w ∙ ap Some is
kept_user (Stopped cause) now kept who user password forgets still is w = tt
kept_user Failed now kept who user password forgets still is w = tt
