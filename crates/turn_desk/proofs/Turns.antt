-- What a pass has seen after a turn.
use Rattle.std.proofs.Common.{◌≡◌, ◌<◌, ltb, cond, refl, sym, subst, Bool, true, false, List, length}
use Rattle.std.proofs.lemmas.Bool.{lt-ltb, ltb-false}
use mathlib.Core.List.{IsPrefix}
use Rattle.account_pictures.specs.declared.talk.Piece.{Piece}
use Rattle.account_pictures.specs.Story.{story_of}
use Rattle.turn_desk.specs.Views.{Seen, MakesTurn, merge_seen, longer_story}
use Rattle.turn_desk.proofs.Prefixes.{prefix_trans, prefix_is_whole}

-- a story that goes on from another is the longer of the two
longer_is : (xs ys : List Piece) → IsPrefix xs ys → longer_story xs ys ≡ ys
longer_is xs ys p = by (ltb (length xs) (length ys)) refl
  where
    by : (b : Bool) → ltb (length xs) (length ys) ≡ b → cond b ys xs ≡ ys
    by true e = refl
    by false e = prefix_is_whole xs ys p (ltb-false (length xs) (length ys) e)

-- a pass that takes in a later turn, whose story goes on from its own, has then seen just that
merge_later : (old new : Seen) → old.turn < new.turn → IsPrefix old.story new.story → merge_seen old new ≡ record new { desk = old.desk }
merge_later old new less p =
    let later = lt-ltb old.turn new.turn less in
    let story = longer_is old.story new.story p in
    λ k. record { desk = old.desk; turn = cond (later k) new.turn old.turn; story = story k; opened = cond (later k) new.opened old.opened; closed = cond (later k) new.closed old.closed }

-- a pass that had seen no more than the home seat, and is shown the home seat's next turn, has made it
pub shown_turn_is_made : (old new : Seen) (home : List Piece) → old.turn < new.turn → IsPrefix old.story home → IsPrefix home (story_of new.opened)
    → IsPrefix (story_of new.opened) (story_of new.closed) → new.story ≡ story_of new.closed → MakesTurn old (merge_seen old new) new.turn
shown_turn_is_made old new home less before start end seen =
    let extends = prefix_trans old.story home (story_of new.opened) before start in
    let whole = prefix_trans old.story (story_of new.opened) (story_of new.closed) extends end in
    subst (λ x. MakesTurn old x new.turn) (sym (merge_later old new less (subst (λ x. IsPrefix old.story x) (sym seen) whole)))
    (record { desk = refl; turn = refl; rises = less; extends = extends; lengthens = end; seen = seen })
