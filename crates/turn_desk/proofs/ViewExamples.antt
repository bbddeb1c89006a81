-- Steps on small views, views that disagree, and turns that are and aren't made.
use Rattle.std.proofs.Common.{◌≡◌, ◌≤◌, ◌∙◌, ℕ, zero, suc, refl, ap, sym, subst, List, [], ◌∷◌, true, false, arith}
use Rattle.std.specs.Prelude.{Some, None}
use mathlib.Core.Option.{some, some-ne-none}
use mathlib.Core.List.{IsPrefix}
use lib.ListN.{get_elem?}
use Rattle.account_pictures.specs.declared.talk.Piece.{Piece}
use Rattle.account_pictures.specs.declared.talk.Piece.TheVariants.{Dialled, Said}
use Rattle.account_pictures.specs.declared.pictures.Picture.{Picture}
use Rattle.account_pictures.specs.declared.pictures.Picture.TheVariants.{Account}
use Rattle.account_pictures.specs.Story.{no_picture}
use Rattle.turn_desk.specs.declared.views.View.{View}
use Rattle.turn_desk.specs.Views.{Seen, MakesTurn, ViewsAgree, first_view, copy_of, sight_of, merge, add_turn, seen_of, merge_seen}
use Rattle.turn_desk.proofs.Agreement.{home_is}

abbrev dialled : Piece
dialled = Dialled true

abbrev said : Piece
said = Said (65 ∷ [])

-- an account with this mail talk
abbrev showing : List Piece → Picture
showing talk = Account (record {
  domain = [];
  mail_talk = Some talk;
  post_talk = None;
  records = None;
  mail_faults = 0;
  post_faults = 0;
  keeper_faults = 0;
  held = [];
  user = None;
  password = None;
  is_down = true;
  dials_fresh = true;
})

-- the second turn dialled
abbrev second : View
second = record { turn = 2; story = dialled ∷ []; opened = showing []; closed = showing (dialled ∷ []); met = []; is_home = false; is_spent = false }

-- a fifth turn of a value that tells nothing
abbrev fifth : View
fifth = record { turn = 5; story = []; opened = no_picture; closed = no_picture; met = []; is_home = false; is_spent = false }

-- the home seat's view of the second turn, which met the fifth
abbrev home : View
home = record second { is_home = true; met = sight_of fifth ∷ [] }

copy_is_another : copy_of home ≡ second
copy_is_another = refl

-- the turn and the pictures of the later, the story of the longer, and both are met
merge_takes_the_greater : merge second fifth ≡ record second { turn = 5; opened = no_picture; closed = no_picture; met = sight_of second ∷ sight_of fifth ∷ [] }
merge_takes_the_greater = refl

merge_turns_round : merge fifth second ≡ record fifth { story = dialled ∷ []; met = sight_of fifth ∷ sight_of second ∷ [] }
merge_turns_round = refl

-- of equal turns the own pictures stay
merge_of_equal_turns : merge second (record second { opened = no_picture; closed = no_picture }) ≡ record second { met = sight_of second ∷ sight_of second ∷ [] }
merge_of_equal_turns = refl

home_keeps_its_own : merge home fifth ≡ record home { met = sight_of home ∷ sight_of fifth ∷ sight_of fifth ∷ [] }
home_keeps_its_own = refl

note_adds_a_turn : add_turn home (showing (dialled ∷ [])) (showing (dialled ∷ said ∷ []))
    ≡ record home { turn = 3; story = dialled ∷ said ∷ []; opened = showing (dialled ∷ []); closed = showing (dialled ∷ said ∷ []) }
note_adds_a_turn = refl

passes_merge_alike : merge_seen (seen_of 7 second) (seen_of 7 fifth) ≡ record { desk = 7; turn = 5; story = dialled ∷ []; opened = no_picture; closed = no_picture }
passes_merge_alike = refl

-- views disagree if there is no home view, if there are two, or if one is ahead of the home view
nobody_home : ¬ (ViewsAgree [])
nobody_home agree = some-ne-none agree.home (sym agree.is_there)

two_homes : ¬ (ViewsAgree (first_view ∷ first_view ∷ []))
two_homes agree =
    let one = agree.alone 0 first_view refl refl in
    let other = agree.alone 1 first_view refl refl in
    omega arith

ahead_of_home : ¬ (ViewsAgree (first_view ∷ second ∷ []))
ahead_of_home agree =
    let here = home_is 0 first_view (first_view ∷ second ∷ []) agree refl refl in
    let less = subst (λ (v : View). 2 ≤ v.turn) here (agree.behind 1 second refl).turn in
    omega arith

story_ahead_of_home : ¬ (ViewsAgree (first_view ∷ record second { turn = 0 } ∷ []))
story_ahead_of_home agree =
    let here = home_is 0 first_view (first_view ∷ record second { turn = 0 } ∷ []) agree refl refl in
    let story = subst (λ (v : View). IsPrefix (dialled ∷ []) v.story) here (agree.behind 1 (record second { turn = 0 }) refl).story in
    let same = story.1 in
    cc (same)

unseen_meeting : ¬ (ViewsAgree (first_view ∷ record fifth { turn = 0; met = sight_of second ∷ [] } ∷ []))
unseen_meeting agree =
    let seen = (agree.behind 1 (record fifth { turn = 0; met = sight_of second ∷ [] }) refl).met 0 (sight_of second) (omega arith) in
    let less = seen.0 in
    omega arith

-- the only view of a list of one
only_view : (v : View) (i : ℕ) (w : View) → get_elem? (v ∷ []) i ≡ some w → w ≡ v
only_view v zero w e = cc (e)
only_view v (suc i) w e = cc (e)

alone_beside : ¬ (ViewsAgree (second ∷ []))
alone_beside agree =
    let no : false ≡ true = ap (λ (v : View). v.is_home) (sym (only_view second agree.at agree.home agree.is_there)) ∙ agree.is_home in
    cc

spent_home : ¬ (ViewsAgree (record first_view { is_spent = true } ∷ []))
spent_home agree =
    let no : true ≡ false = ap (λ (v : View). v.is_spent) (sym (only_view (record first_view { is_spent = true }) agree.at agree.home agree.is_there)) ∙ agree.is_unspent in
    cc

-- a pass of the second turn, and what it has seen after the third
abbrev before : Seen
before = seen_of 7 second

abbrev after : Seen
after = record { desk = 7; turn = 3; story = dialled ∷ said ∷ []; opened = showing (dialled ∷ []); closed = showing (dialled ∷ said ∷ []) }

third_turn : MakesTurn before after 3
third_turn = record { desk = refl; turn = refl; rises = omega arith; extends = ([], refl); lengthens = (said ∷ [], refl); seen = refl }

turn_of_another_desk : ¬ (MakesTurn before (record after { desk = 8 }) 3)
turn_of_another_desk made = let same = made.desk in omega arith

turn_of_another_number : ¬ (MakesTurn before after 4)
turn_of_another_number made = let same = made.turn in omega arith

turn_seen_before : ¬ (MakesTurn before before 2)
turn_seen_before made = let rises = made.rises in omega arith

-- the story at the start has to go on from what the pass had seen
forgotten_story : ¬ (MakesTurn before (record after { opened = showing [] }) 3)
forgotten_story made = let same = made.extends.1 in cc (same)

-- the work may not take back what was said
shorter_story : ¬ (MakesTurn before (record after { story = []; closed = showing [] }) 3)
shorter_story made = let same = made.lengthens.1 in cc (same)

-- the pass has to see the end
unseen_end : ¬ (MakesTurn before (record after { story = dialled ∷ [] }) 3)
unseen_end made = let same = made.seen in cc (same)
