-- How a turn begins after a talk, and what the talk is after it.
use Rattle.std.proofs.Common.{◌≡◌, ℕ, List, [], ◌∷◌, ◌++◌, Bool, true, false, refl, sym, ap, ◌∙◌, subst, Option, Some, None, append_assoc, append-nil}
use Rattle.std.specs.Prelude.{Result, IfSome}
use Rattle.std.specs.List.{fold}
use Rattle.account_pictures.specs.declared.talk.Piece.{Piece}
use Rattle.site_asks.specs.declared.asks.Ask.{Ask}
use Rattle.mail_talk.specs.Told.{Talk, no_talk, after_piece, told_of}
use Rattle.mail_talk.specs.Units.{TalkState}
use Rattle.account_script.specs.declared.steps.Credentials.{Credentials}
use Rattle.account_script.specs.declared.steps.Step.{Step}
use Rattle.account_script.specs.Asks.{ask_steps, script_of, script_with}
use Rattle.account_turns.specs.declared.endings.Ending.{Ending}
use Rattle.account_turns.specs.Steps.{IsFirst, Matches}
use Rattle.account_turns.specs.Turns.{Continues, Errand, Turn, after, due, ready, with_piece}
use Rattle.account_mail.specs.Sides.{IsKept, IsSteady, IsTalk, SideState}
use Rattle.account_mail.specs.Turned.{Turned, TurnedBy, opening, opening_with, talk_of}
use Rattle.turn_algebra.specs.Going.{GrowsBy}
use Rattle.turn_algebra.proofs.GoingLemmas.{folded_append}

any_first : (steps : List Step) → IsFirst false steps
any_first [] = tt
any_first (x ∷ xs) = tt

-- a script of an account that is down begins with the dial
pub script_first : (steps : List Step) (up unsteady : Bool) → (up ≡ true → unsteady ≡ false) → IsFirst unsteady (script_with steps up)
script_first steps false false h = tt
script_first steps false true h = tt
script_first steps true true h = absurd (let e : true ≡ false = h refl in cc)
script_first steps true false h = any_first steps

-- what is due at the beginning doesn't hang on what the next dial forgets
same_start : (steps : List Step) (e : Errand) (up fresh : Bool) (s ear : TalkState) → IsSteady up fresh ear → (fresh ≡ false → s ≡ ear) → ready e fresh (record { up = up; mark = 0 }) (script_with steps up) s.told ≡ ready e fresh (record { up = up; mark = 0 }) (script_with steps up) ear.told
unfolding ready
same_start steps e up false s ear steady same = ap (λ (x : TalkState). ready e false (record { up = up; mark = 0 }) (script_with steps up) x.told) (same refl)
same_start steps e false true s ear steady same = refl
same_start steps e true true s ear steady same = absurd (let x : true ≡ false = steady refl in cc)

pub matches_with : (steps : List Step) (e : Errand) (up fresh : Bool) (ear : TalkState) (pieces : List Piece) → IsSteady up fresh ear → (fresh ≡ false → told_of pieces ≡ ear) → Matches e (script_with steps up) fresh (record { up = up; mark = 0 }) ear (opening_with (script_with steps up) e up fresh pieces)
unfolding due
matches_with steps e up fresh ear pieces steady same = record { errand = refl; seen = record { state = same; same = refl }; next = same_start steps e up fresh (talk_of pieces).state ear steady same }

pub matches_opening : (e : Errand) (up fresh : Bool) (ear : TalkState) (pieces : List Piece) → IsSteady up fresh ear → (fresh ≡ false → told_of pieces ≡ ear) → Matches e (script_of e.ask up) fresh (record { up = up; mark = 0 }) ear (opening e up fresh pieces)
matches_opening e up fresh ear pieces steady same = matches_with (ask_steps e.ask) e up fresh ear pieces steady same

-- ---- the pieces of the talk before, told or not

pub record Before (talk : Option (List Piece)) (fresh : Bool) (ear : TalkState) : Type 0 where
  pub pieces : List Piece
  pub same : IsTalk talk pieces
  pub told : fresh ≡ false → told_of pieces ≡ ear

abbrev SomeTalk : Option (List Piece) → Type 0
SomeTalk talk = (pieces : List Piece) × IsTalk talk pieces

some_talk : (talk : Option (List Piece)) → SomeTalk talk
some_talk None = ([], tt)
some_talk (Some talk) = (talk, refl)

before_by : (talk : Option (List Piece)) (b fresh : Bool) (ear : TalkState) → fresh ≡ b → IsKept talk fresh ear → Before talk fresh ear
before_by talk true fresh ear is kept = let some = some_talk talk in record { pieces = some.0; same = some.1; told = λ f. absurd (let x : true ≡ false = sym is ∙ f in cc) }
before_by talk false fresh ear is kept = let k = kept is in record { pieces = k.pieces; same = k.same; told = λ f. k.told }

pub before : (talk : Option (List Piece)) (fresh : Bool) (ear : TalkState) → IsKept talk fresh ear → Before talk fresh ear
before talk fresh ear kept = before_by talk fresh fresh ear refl kept

-- ---- the talk after a turn

pub after_talk : (t : Turn) (parts : List Piece) → (fold after t parts).talk ≡ fold after_piece t.talk parts
after_talk t [] = refl
after_talk t (p ∷ ps) = after_talk (after t p) ps

grown_talk : (talk parts : List Piece) → fold with_piece talk parts ≡ talk ++ parts
grown_talk talk [] = sym (append-nil talk)
grown_talk talk (p ∷ ps) = grown_talk (talk ++ p ∷ []) ps ∙ append_assoc talk (p ∷ []) ps

pub is_talk_after : (a b : Option (List Piece)) (pieces parts : List Piece) → IsTalk a pieces → GrowsBy with_piece a b parts → IsTalk b (pieces ++ parts)
is_talk_after None None pieces parts is g = tt
is_talk_after None (Some y) pieces parts is g = absurd g
is_talk_after (Some x) None pieces parts is g = absurd g
is_talk_after (Some x) (Some y) pieces parts is g = g ∙ grown_talk x parts ∙ ap (λ (l : List Piece). l ++ parts) is

-- what is kept after a turn is what the talk comes to
pub kept_with : (steps : List Step) (e : Errand) (up fresh later : Bool) (ear : TalkState) (pieces : List Piece) (a b : Option (List Piece)) → IsTalk a pieces → Continues a b (opening_with steps e up fresh pieces) (λ u. later ≡ false → u.talk.state ≡ ear) → IsKept b later ear
kept_with steps e up fresh later ear pieces a b is g = λ f. record {
  pieces = pieces ++ g.parts;
  same = is_talk_after a b pieces g.parts is g.grown;
  told = ap (λ (t : Talk). t.state) (folded_append after_piece no_talk pieces g.parts ∙ sym (after_talk (opening_with steps e up fresh pieces) g.parts)) ∙ g.holds f;
}

pub kept_after : (e : Errand) (up fresh later : Bool) (ear : TalkState) (pieces : List Piece) (a b : Option (List Piece)) → IsTalk a pieces → Continues a b (opening e up fresh pieces) (λ u. later ≡ false → u.talk.state ≡ ear) → IsKept b later ear
kept_after e up fresh later ear pieces a b is g = kept_with (script_of e.ask up) e up fresh later ear pieces a b is g

-- a turn of who logged in, by the fields of the side
pub turned_as : {E : Type 0} (s view new : SideState) (result : Result Ending E) (who : Credentials) (ask : Ask) → view ≡ s → view.who ≡ Some who → Turned (record { who = who; ask = ask; message = [] }) view.up view.fresh view new result → IfSome s.who (λ w. Turned (record { who = w; ask = ask; message = [] }) s.up s.fresh s new result)
turned_as s view new result who ask is some turned =
    subst (λ (x : SideState). IfSome x.who (λ w. Turned (record { who = w; ask = ask; message = [] }) x.up x.fresh x new result)) is
    (subst (λ (o : Option Credentials). IfSome o (λ w. Turned (record { who = w; ask = ask; message = [] }) view.up view.fresh view new result)) (sym some) turned)

-- a turn of some steps of who logged in, by the fields of the side
pub turned_with : {E : Type 0} (steps : List Step) (s view new : SideState) (result : Result Ending E) (who : Credentials) (ask : Ask) (message : List ℕ) → view ≡ s → view.who ≡ Some who
    → TurnedBy (script_with steps view.up) (record { who = who; ask = ask; message = message }) view.up view.fresh view new result
    → IfSome s.who (λ w. TurnedBy (script_with steps s.up) (record { who = w; ask = ask; message = message }) s.up s.fresh s new result)
turned_with steps s view new result who ask message is some turned =
    subst (λ (x : SideState). IfSome x.who (λ w. TurnedBy (script_with steps x.up) (record { who = w; ask = ask; message = message }) x.up x.fresh x new result)) is
    (subst (λ (o : Option Credentials). IfSome o (λ w. TurnedBy (script_with steps view.up) (record { who = w; ask = ask; message = message }) view.up view.fresh view new result)) (sym some) turned)
