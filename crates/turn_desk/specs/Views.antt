-- What the views of a desk's table agree on, what its four kinds of step do, and what a turn is.
use Rattle.std.specs.Prelude.{◌≡◌, ℕ, ◌+◌, ◌<◌, ◌≤◌, ltb, cond, true, false, List, [], ◌∷◌, length}
use Rattle.std.specs.List.{All}
use mathlib.Core.Option.{some}
use mathlib.Core.List.{IsPrefix}
use lib.ListN.{get_elem?}
use Rattle.account_pictures.specs.declared.talk.Piece.{Piece}
use Rattle.account_pictures.specs.declared.pictures.Picture.{Picture}
use Rattle.account_pictures.specs.Story.{no_picture, story_of}
use Rattle.turn_desk.specs.declared.views.View.{View}
use Rattle.turn_desk.specs.declared.views.Sight.{Sight}

-- the view of the first seat, the home seat
abbrev pub first_view : View
first_view = record { turn = 0; story = []; opened = no_picture; closed = no_picture; met = []; is_home = true; is_spent = false }

-- the view of a seat that met into another
abbrev pub spent_view : View
spent_view = record { turn = 0; story = []; opened = no_picture; closed = no_picture; met = []; is_home = false; is_spent = true }

-- a view has seen at least this turn and this story
abbrev pub HasSeen : View → Sight → Type 0
HasSeen view sight = (sight.turn ≤ view.turn) × IsPrefix sight.story view.story

-- a view is behind the home seat's, and has seen all that it met
pub record IsBehind (home view : View) : Type 0 where
  pub story : IsPrefix view.story home.story
  pub turn : view.turn ≤ home.turn
  pub met : All (HasSeen view) view.met

-- The rule: exactly one view is the home seat's, it is unspent, and every view is behind it
pub record ViewsAgree (views : List View) : Type 0 where
  pub at : ℕ
  pub home : View
  pub is_there : get_elem? views at ≡ some home
  pub is_home : home.is_home ≡ true
  pub is_unspent : home.is_spent ≡ false
  pub alone : (i : ℕ) (view : View) → get_elem? views i ≡ some view → view.is_home ≡ true → i ≡ at
  pub behind : (i : ℕ) (view : View) → get_elem? views i ≡ some view → IsBehind home view

-- copy: the same, but it has met none and isn't the home seat's
abbrev pub copy_of : View → View
copy_of view = record view { met = []; is_home = false }

abbrev pub sight_of : View → Sight
sight_of view = record { turn = view.turn; story = view.story }

abbrev pub longer_story : List Piece → List Piece → List Piece
longer_story xs ys = cond (ltb (length xs) (length ys)) ys xs

-- what belongs to the later of two turns: the first's if they are equal
abbrev pub of_later_turn : {A : Type 0} → ℕ → ℕ → A → A → A
of_later_turn m n x y = cond (ltb m n) y x

-- meet: the home seat's view keeps its own; another has the later turn with its pictures, and the longer story
abbrev pub merge : View → View → View
merge v w = record v {
  turn = cond v.is_home v.turn (of_later_turn v.turn w.turn v.turn w.turn);
  story = cond v.is_home v.story (longer_story v.story w.story);
  opened = cond v.is_home v.opened (of_later_turn v.turn w.turn v.opened w.opened);
  closed = cond v.is_home v.closed (of_later_turn v.turn w.turn v.closed w.closed);
  met = sight_of v ∷ sight_of w ∷ v.met;
}

-- note: the next turn, with the pictures before and after the work, and the story after it
abbrev pub add_turn : View → Picture → Picture → View
add_turn view opened closed = record view { turn = view.turn + 1; story = story_of closed; opened = opened; closed = closed }

-- a seat's view and its slots, of which a desk's table has none
abbrev pub SeatView : Type 0
SeatView = View × List (ℕ × Unit {0})

-- what the home seat keeps if another meets into it
pub record Stays (old new : SeatView) : Type 0 where
  pub turn : new.0.turn ≡ old.0.turn
  pub story : new.0.story ≡ old.0.story
  pub is_home : new.0.is_home ≡ old.0.is_home
  pub is_spent : new.0.is_spent ≡ old.0.is_spent
  pub slots : new.1 ≡ old.1

-- What contracts see of a pass: the desk's number, the last turn seen, the story at its end, and its two pictures
pub record Seen : Type 0 where
  pub desk : ℕ
  pub turn : ℕ
  pub story : List Piece
  pub opened : Picture
  pub closed : Picture

abbrev pub seen_of : ℕ → View → Seen
seen_of desk view = record { desk = desk; turn = view.turn; story = view.story; opened = view.opened; closed = view.closed }

-- two passes of one desk together: the later turn with its pictures, and the longer story
abbrev pub merge_seen : Seen → Seen → Seen
merge_seen a b = record {
  desk = a.desk;
  turn = of_later_turn a.turn b.turn a.turn b.turn;
  story = longer_story a.story b.story;
  opened = of_later_turn a.turn b.turn a.opened b.opened;
  closed = of_later_turn a.turn b.turn a.closed b.closed;
}

-- A turn of the number n, from what a pass had seen to what it has seen now: n is greater than the turn seen before, the
-- story at the start goes on from the story seen before, the story at the end from that at the start, and the pass has
-- seen the end.
pub record MakesTurn (old new : Seen) (n : ℕ) : Type 0 where
  pub desk : new.desk ≡ old.desk
  pub turn : new.turn ≡ n
  pub rises : old.turn < n
  pub extends : IsPrefix old.story (story_of new.opened)
  pub lengthens : IsPrefix (story_of new.opened) (story_of new.closed)
  pub seen : new.story ≡ story_of new.closed
