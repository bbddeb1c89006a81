-- How one unit is taken.
use Rattle.std.proofs.Common.{◌≡◌, ℕ, ◌+◌, Bool, true, false, Option, Some, None, is_some, List, [], ◌++◌, length, length-append, refl, sym, ap, subst, ◌∙◌, Result, Ok}
use Rattle.imap_framing.specs.Cuts.{Cut, without_given, GivesUnit, AdvancesCut}
use Rattle.imap_framing.specs.declared.reader.TooLong as fault
use Rattle.imap_framing.specs.Units.{IsUnit, IsIncomplete, HasTooLongLiteral}
use Rattle.imap_framing.proofs.StreamLemmas.{unit_some}
use Rattle.imap_grammar.specs.Response.{ResponseData, response_of}
use Rattle.mail_talk.specs.declared.phase.Phase.TheVariants as phase
use Rattle.mail_talk.specs.declared.unit.Taken.TheVariants.{Response, Incomplete, Damage}
use Rattle.mail_talk.specs.States.{ToldState, with_phase, is_listening}
use Rattle.mail_talk.specs.Taking.{unit_told, state_at, TakesUnit}
use Rattle.mail_talk.specs.Units.{drained, after_unit_read}
use Rattle.mail_talk.proofs.UnitLemmas.{drained_unit, drained_incomplete, drained_long, drained_closed}

some_unit : (o : Option ResponseData) (n at from : ℕ) (t : ToldState) (rest : List ℕ) → is_some o ≡ true → after_unit_read o n (state_at t rest at from) ≡ state_at (unit_told o at t) rest (at + n) from
some_unit None n at from t rest is = absurd cc
some_unit (Some r) n at from t rest is = refl

none_drained : (o : Option ResponseData) (n at from : ℕ) (t : ToldState) (rest : List ℕ) → is_some o ≡ false → drained (after_unit_read o n (state_at t rest at from)) ≡ state_at (unit_told o at t) [] at from
none_drained None n at from t rest is = drained_closed (state_at (with_phase phase.Damaged t) [] at from) refl
none_drained (Some r) n at from t rest is = absurd cc

pub takes_response : (old new : ToldState) (rest given after : List ℕ) (at : ℕ) → is_listening old.phase ≡ true → IsUnit given → rest ≡ given ++ after → is_some (response_of given) ≡ true → new ≡ unit_told (response_of given) at old → TakesUnit {E = Bool} old rest at (Ok (Response (length given))) new after
takes_response old new rest given after at listening unit whole is tells = (
  λ from. drained_unit given after (state_at old rest at from) listening whole unit ∙ ap drained (some_unit (response_of given) (length given) at from old after is) ∙ ap (λ (t : ToldState). drained (state_at t after (at + length given) from)) (sym tells),
  ap length whole ∙ length-append given after,
  unit_some given unit,
)

pub takes_damage : (old new : ToldState) (rest given after left : List ℕ) (at : ℕ) → is_listening old.phase ≡ true → IsUnit given → rest ≡ given ++ after → is_some (response_of given) ≡ false → new ≡ unit_told (response_of given) at old → TakesUnit {E = Bool} old rest at (Ok Damage) new left
takes_damage old new rest given after left at listening unit whole is tells =
    λ from. drained_unit given after (state_at old rest at from) listening whole unit ∙ none_drained (response_of given) (length given) at from old after is ∙ ap (λ (t : ToldState). state_at t [] at from) (sym tells)

pub takes_incomplete : (old : ToldState) (rest after : List ℕ) (at : ℕ) → is_listening old.phase ≡ true → IsIncomplete rest → after ≡ rest → TakesUnit {E = Bool} old rest at (Ok Incomplete) old after
takes_incomplete old rest after at listening goes same =
    (λ from. drained_incomplete (state_at old rest at from) listening goes ∙ ap (λ (left : List ℕ). state_at old left at from) (sym same), same)

pub takes_long : (old new : ToldState) (rest left : List ℕ) (at : ℕ) → is_listening old.phase ≡ true → HasTooLongLiteral rest → new ≡ with_phase phase.Damaged old → TakesUnit {E = Bool} old rest at (Ok Damage) new left
takes_long old new rest left at listening long tells = λ from. drained_long (state_at old rest at from) listening long ∙ ap (λ (t : ToldState). state_at t [] at from) (sym tells)

-- ---- by what a reader of units returned

pub reads_response : (old new : ToldState) (before after : Cut) (one same : List ℕ) (at : ℕ) (is : Bool) → is_listening old.phase ≡ true → GivesUnit before after → one ≡ after.given → same ≡ after.given
    → is ≡ is_some (response_of same) → is ≡ true → new ≡ unit_told (response_of same) at old → TakesUnit {E = Bool} old before.rest at (Ok (Response (length one))) new after.rest
reads_response old new before after one same at is listening gives e1 e2 tested test tells =
    rw e1 (takes_response old new before.rest after.given after.rest at listening gives.unit gives.whole (ap (λ (u : List ℕ). is_some (response_of u)) (sym e2) ∙ sym tested ∙ test) (tells ∙ ap (λ (u : List ℕ). unit_told (response_of u) at old) e2))

pub reads_damage : (old new : ToldState) (before after : Cut) (same : List ℕ) (at : ℕ) (is : Bool) → is_listening old.phase ≡ true → GivesUnit before after → same ≡ after.given
    → is ≡ is_some (response_of same) → is ≡ false → new ≡ unit_told (response_of same) at old → TakesUnit {E = Bool} old before.rest at (Ok Damage) new after.rest
reads_damage old new before after same at is listening gives e2 tested test tells =
    takes_damage old new before.rest after.given after.rest after.rest at listening gives.unit gives.whole (ap (λ (u : List ℕ). is_some (response_of u)) (sym e2) ∙ sym tested ∙ test) (tells ∙ ap (λ (u : List ℕ). unit_told (response_of u) at old) e2)

abbrev is_ok : Bool → Result Bool fault.TooLong
is_ok more = Ok more

pub waits_of : (old new : Cut) (answer : Result Bool fault.TooLong) (more : Bool) → answer ≡ Ok more → more ≡ false → AdvancesCut old answer new → IsIncomplete old.rest × (new ≡ without_given old)
waits_of old new answer more is test a = subst (λ (r : Result Bool fault.TooLong). AdvancesCut old r new) (is ∙ ap (λ (b : Bool). is_ok b) test) a
