-- Stories of small pictures.
use Rattle.std.proofs.Common.{◌≡◌, refl, [], ◌∷◌, true}
use Rattle.std.specs.Prelude.{Some, None, pos}
use Rattle.account_pictures.specs.declared.pictures.AccountPicture.{AccountPicture}
use Rattle.account_pictures.specs.declared.pictures.Picture.TheVariants.{Account, Roster}
use Rattle.account_pictures.specs.declared.talk.Piece.TheVariants.{Dialled, Said, Heard}
use Rattle.account_pictures.specs.Story.{story_of, no_picture}

-- an account of no domain whose mail link was dialled and then said `A`, and whose post link said `B`
abbrev told : AccountPicture
told = record {
  domain = [];
  mail_talk = Some (Dialled true ∷ Said (65 ∷ []) ∷ []);
  post_talk = Some (Said (66 ∷ []) ∷ []);
  records = None;
  mail_faults = 1;
  post_faults = 0;
  keeper_faults = 0;
  held = [];
  user = None;
  password = None;
  is_down = true;
  dials_fresh = true;
}

mail_is_the_story : story_of (Account told) ≡ Dialled true ∷ Said (65 ∷ []) ∷ []
mail_is_the_story = refl

untold_is_empty : story_of (Account (record told { mail_talk = None })) ≡ []
untold_is_empty = refl

roster_has_none : story_of no_picture ≡ []
roster_has_none = refl

-- a session's story isn't the roster's
session_story_is_not_the_rosters : story_of (Roster (record { places = Some (record { account = 0; user = []; token = []; key = []; last = pos 0; turn = 1; story = Heard [] ∷ [] }) ∷ []; slots = [] })) ≡ []
session_story_is_not_the_rosters = refl
