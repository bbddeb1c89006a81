-- Every line of a submission has bytes.
use Rattle.std.proofs.Common.{◌≡◌, ℕ, ◌<◌, List, [], ◌∷◌, ◌++◌, length, map, sym, subst, All, arith, true, inl, inr}
use Rattle.std.specs.Prelude.{Ok, Err, Option, ◌==◌}
use Rattle.std.proofs.lemmas.List.Elements.{All-nil, All-cons, All-append}
use Rattle.account_pictures.specs.declared.talk.Piece.{Piece}
use Rattle.submission.specs.declared.fault.Stop.{Stop}
use Rattle.submission.specs.declared.fault.Stop.TheVariants.{Refused, Damaged, Link, Doubt}
use Rattle.submission.specs.declared.fault.SubmitFault.{SubmitFault}
use Rattle.submission.specs.declared.steps.Opening.TheVariants.{Dial}
use Rattle.submission.specs.declared.steps.Step.{Step}
use Rattle.submission.specs.declared.steps.Wanted.TheVariants.{Greeting, Done, SignedIn, Data}
use Rattle.submission.specs.Replies.{Hearing}
use Rattle.submission.specs.Script.{script, say, recipient_step, sender_line, auth_line, hello_line, data_line, dotted}
use Rattle.submission.specs.Stops.{IsSayable}
use Rattle.submission.specs.Submits.{GrowsBy, Submits, SubmitsOrNothing, fault_seen}
use Rattle.std.proofs.lemmas.Bool.{cases_Bool}
use Rattle.submission.proofs.Growing.{grows_weaker}
use Rattle.submission.proofs.Stuffing.{written, all_dotted}

-- a message with bytes stays one
pub dotted_some : (message : List ℕ) → 0 < length message → 0 < length (dotted message)
dotted_some [] h = absurd (omega arith)
dotted_some (b ∷ bs) h = subst (λ (l : List ℕ). 0 < length l) (all_dotted (b ∷ bs)) (some b bs)
  where
    some : (b : ℕ) (bs : List ℕ) → 0 < length (written true (b ∷ bs))
    some b bs = elim (cases_Bool (b == 46)) [ inl dot ↦ rw dot (omega arith) | inr other ↦ rw other (omega arith) ]

abbrev Sayable : Step → Type 0
Sayable step = IsSayable step.opening

recipients_sayable : (to : List (List ℕ)) → All Sayable (map recipient_step to)
recipients_sayable [] = All-nil Sayable
recipients_sayable (address ∷ to) = All-cons Sayable (recipient_step address) (map recipient_step to) (omega arith) (recipients_sayable to)

pub script_sayable : (user password from : List ℕ) (to : List (List ℕ)) → All (λ (step : Step). IsSayable step.opening) (script user password from to)
script_sayable user password from to =
    let ending : List Step = map recipient_step to ++ say data_line Data ∷ [] in
    let sender : List Step = say (sender_line from) Done ∷ ending in
    let signed : List Step = say (auth_line user password) SignedIn ∷ sender in
    All-cons Sayable (record { opening = Dial; wanted = Greeting }) (say hello_line Done ∷ signed) tt
    (All-cons Sayable (say hello_line Done) signed (omega arith)
    (All-cons Sayable (say (auth_line user password) SignedIn) sender (omega arith)
    (All-cons Sayable (say (sender_line from) Done) ending (omega arith)
    (All-append Sayable (map recipient_step to) (say data_line Data ∷ []) (recipients_sayable to) (All-cons Sayable (say data_line Data) [] (omega arith) (All-nil Sayable))))))

-- ---- what the whole returns

pub done_submits : (a b : Option (List Piece)) (steps said : List Step) (body text : List ℕ) → steps ≡ said → body ≡ text
    → GrowsBy a b (λ pieces. Submits steps body pieces (Ok tt)) → GrowsBy a b (λ pieces. SubmitsOrNothing said text pieces (Ok tt))
done_submits a b steps said body text same same_text grows = rw (← same, ← same_text) grows

-- memory isn't why the steps stop
stop_submits : (steps : List Step) (body : List ℕ) (pieces : List Piece) (stop : Stop) (h : Hearing) → Submits steps body pieces (Err (fault_seen stop h)) → SubmitsOrNothing steps body pieces (Err (fault_seen stop h))
stop_submits steps body pieces (Refused code) h submits = submits
stop_submits steps body pieces Damaged h submits = submits
stop_submits steps body pieces Link h submits = submits
stop_submits steps body pieces Doubt h submits = submits

pub err_stops : (a b : Option (List Piece)) (steps said : List Step) (body text : List ℕ) (stop : Stop) (h : Hearing) (fault : SubmitFault) → fault ≡ fault_seen stop h → steps ≡ said → body ≡ text
    → GrowsBy a b (λ pieces. Submits steps body pieces (Err (fault_seen stop h))) → GrowsBy a b (λ pieces. SubmitsOrNothing said text pieces (Err fault))
err_stops a b steps said body text stop h fault is same same_text grows =
    subst (λ (f : SubmitFault). GrowsBy a b (λ pieces. SubmitsOrNothing said text pieces (Err f))) (sym is)
    (rw (← same, ← same_text) (grows_weaker a b (λ pieces. Submits steps body pieces (Err (fault_seen stop h))) (λ pieces. SubmitsOrNothing steps body pieces (Err (fault_seen stop h))) grows (λ pieces. stop_submits steps body pieces stop h)))
