-- What an ask does to an account.
use Rattle.std.specs.Prelude.{◌≡◌, ℕ, true, List, codes, Result, Ok, Err, IfOk}
use Rattle.site_asks.specs.declared.asks.Ask.{Ask}
use Rattle.mail_talk.specs.States.{ToldState}
use Rattle.account_turns.specs.declared.endings.Ending.{Ending}
use Rattle.account_turns.specs.declared.endings.Ending.TheVariants.{Done, Stopped, Failed}
use Rattle.account_turns.specs.Exchanges.{IsCausedBy}
use Rattle.account_turns.specs.Turns.{Errand}
use Rattle.page_frames.specs.Pages.{IsFramePage}
use Rattle.form_pages.specs.Others.{fault_page}
use Rattle.account_answers.specs.declared.answer.Answer.{Answer}
use Rattle.account_answers.specs.Answers.{IsSafeStop, answer_of_cause, fault_answer}
use Rattle.account_answers.specs.Done.{IsSafeDone, answer_of_done}
use Rattle.account_mail.specs.Sides.{SideState}
use Rattle.account_mail.specs.Turned as mail

-- the answer if the link to the mail server failed
abbrev pub unreachable : Answer
unreachable = fault_answer 503 (codes "The server cannot be reached.")

-- the answer to an ask, by how its script ended and what was told then
abbrev pub answer_of : Ask → List ℕ → Ending → ToldState → Answer
answer_of ask key Done told = answer_of_done ask key told
answer_of ask key (Stopped cause) told = answer_of_cause cause
answer_of ask key Failed told = unreachable

-- an answer is that of an ending; without an ending there is none
abbrev pub IsAnswered : {E F : Type 0} → Ask → List ℕ → ToldState → Result Ending E → Result Answer F → Type 0
IsAnswered ask key told (Ok ending) (Ok answer) = answer ≡ answer_of ask key ending told
IsAnswered ask key told (Err e) (Ok answer) = ⊥
IsAnswered ask key told ending (Err e) = Unit {0}

abbrev pub IsSafeUnreachable : Type 0
IsSafeUnreachable = IsFramePage (fault_page 503 (codes "The server cannot be reached.") true)

-- what a browser makes of the answer
abbrev pub IsSafeEnd : Ask → List ℕ → Ending → ToldState → Type 0
IsSafeEnd ask key Done told = IsSafeDone ask key told
IsSafeEnd ask key (Stopped cause) told = IsSafeStop cause
IsSafeEnd ask key Failed told = IsSafeUnreachable

abbrev pub IsSafeAnswer : {E F : Type 0} → Ask → List ℕ → ToldState → Result Ending E → Result Answer F → Type 0
IsSafeAnswer ask key told (Ok ending) (Ok answer) = IsSafeEnd ask key ending told
IsSafeAnswer ask key told ending result = Unit {0}

-- The turn of an ask: the script of the ask was followed, and the answer is that of its end, over what was told then.
pub record AskTurn {E : Type 0} (e : Errand) (key : List ℕ) (old new : SideState) (result : Result Answer E) : Type 0 where
  pub ending : Result Ending E
  pub turn : mail.Turned e old.up old.fresh old new ending
  pub answer : IsAnswered e.ask key new.ear.told ending result
  -- it is safe
  pub safe : IsSafeAnswer e.ask key new.ear.told ending result
  -- the link failed exactly if its count of faults rose
  pub link : IfOk ending (λ one. IsCausedBy one old.faults new.faults)
