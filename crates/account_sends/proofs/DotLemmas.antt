-- The dot is said in no step before the message.
use Rattle.std.proofs.Common.{◌≡◌, ℕ, zero, suc, not, List, [], ◌∷◌, ◌++◌, map, take, refl, sym, ap, ◌∙◌, subst, inl, inr, Bool, true, false}
use Rattle.std.specs.Prelude.{Result, Ok, Err, ◌==◌, ◌||◌, ⊤}
use Rattle.std.specs.Str.{bytes_eq}
use Rattle.std.proofs.lemmas.Bool.{cases_Bool, eqb-true}
use Rattle.account_pictures.specs.declared.talk.Piece.{Piece}
use Rattle.account_pictures.specs.declared.talk.Piece.TheVariants.{Dialled, Said, Heard}
use Rattle.submission.specs.declared.fault.SubmitFault.{SubmitFault}
use Rattle.submission.specs.declared.fault.SubmitFault.TheVariants as posts
use Rattle.submission.specs.declared.replies.Verdict.{Verdict}
use Rattle.submission.specs.declared.replies.Verdict.TheVariants.{Awaited, Whole, Wrong}
use Rattle.submission.specs.declared.steps.Opening.{Opening}
use Rattle.submission.specs.declared.steps.Opening.TheVariants.{Dial, Say}
use Rattle.submission.specs.declared.steps.Step.{Step}
use Rattle.submission.specs.declared.steps.Wanted.TheVariants as wanted
use Rattle.submission.specs.Replies.{Hearing, dialled, hear}
use Rattle.submission.specs.Script.{auth_line, data_line, dot_line, dotted, hello_line, is_wanted, recipient_line, recipient_step, say, script, sender_line}
use Rattle.submission.specs.Submits.{Delivers, Ending, Follows, Hears, HearsOut, IsCutShort, IsExchange, Quits, Submits, dot_outcome, doubted, hearing_after, judged, lost, onward, opens, outcome_of, replied, wanted_or_refused}
use Rattle.submission.proofs.Stuffing.{all_dotted, written}
use Rattle.account_sends.specs.Dots.{DotsEndSubmissions, EndsAfterDot, says_dot}

-- ---- pieces without the dot

append_says : (first rest : List Piece) → says_dot (first ++ rest) ≡ (says_dot first || says_dot rest)
append_says [] rest = refl
append_says (Said bytes ∷ first) rest = by (bytes_eq bytes dot_line) (append_says first rest)
  where
    by : (b : Bool) → says_dot (first ++ rest) ≡ (says_dot first || says_dot rest) → (b || says_dot (first ++ rest)) ≡ ((b || says_dot first) || says_dot rest)
    by true is = refl
    by false is = is
append_says (Heard bytes ∷ first) rest = append_says first rest
append_says (Dialled fresh ∷ first) rest = append_says first rest

heard_no_dot : (h after : Hearing) (pieces : List Piece) → HearsOut h pieces after → says_dot pieces ≡ false
heard_no_dot h after [] out = refl
heard_no_dot h after (Heard bytes ∷ pieces) out = heard_no_dot (hear h bytes) after pieces out.1
heard_no_dot h after (Said bytes ∷ pieces) out = absurd out
heard_no_dot h after (Dialled fresh ∷ pieces) out = absurd out

hears_no_dot : (h : Hearing) (pieces : List Piece) (ending : Ending) → Hears h pieces ending → says_dot pieces ≡ false
hears_no_dot h pieces (replied after) hears = heard_no_dot h after pieces hears.0
hears_no_dot h pieces lost hears = heard_no_dot h hears.0 pieces hears.1

-- ---- lines of which no front is the dot

abbrev NoDot : List ℕ → Type 0
NoDot line = (n : ℕ) → bytes_eq (take n line) dot_line ≡ false

-- a line that begins with another byte
other_first : (b : ℕ) (line : List ℕ) → (b == 46) ≡ false → NoDot (b ∷ line)
other_first b line other zero = refl
other_first b line other (suc n) = rw other refl

abbrev IsPlain : Opening → Type 0
IsPlain Dial = ⊤
IsPlain (Say line) = (bytes_eq line dot_line ≡ false) × NoDot line

begins_other : List ℕ → Bool
begins_other [] = false
begins_other (b ∷ line) = not (b == 46)

plain_by : (line : List ℕ) → begins_other line ≡ true → IsPlain (Say line)
unfolding begins_other
plain_by [] is = absurd (cc)
plain_by (b ∷ line) is = elim (cases_Bool (b == 46)) [
  | inl dot ↦ absurd (let e : not true ≡ true = subst (λ (x : Bool). not x ≡ true) dot is in cc)
  | inr other ↦ (rw other refl, other_first b line other)
]

-- ---- one step

cut_no_dot : (line : List ℕ) (pieces : List Piece) → NoDot line → IsCutShort line pieces → says_dot pieces ≡ false
cut_no_dot line [] free cut = refl
cut_no_dot line (Said front ∷ []) free (n, short, is) = let e : bytes_eq front dot_line ≡ false = ap (λ (f : List ℕ). bytes_eq f dot_line) is ∙ free n in rw e refl
cut_no_dot line (Said front ∷ piece ∷ pieces) free cut = absurd cut
cut_no_dot line (Heard bytes ∷ pieces) free cut = absurd cut
cut_no_dot line (Dialled fresh ∷ pieces) free cut = absurd cut

opened_no_dot : (opening : Opening) (heard : List Piece) → IsPlain opening → says_dot heard ≡ false → says_dot (opens opening ∷ heard) ≡ false
opened_no_dot Dial heard plain none = none
opened_no_dot (Say line) heard plain none = rw plain.0 none

exchange_no_dot : (opening : Opening) (h : Hearing) (pieces : List Piece) (ending : Ending) → IsPlain opening → IsExchange opening h pieces ending → says_dot pieces ≡ false
exchange_no_dot opening h pieces (replied after) plain one = ap says_dot one.begins ∙ opened_no_dot opening one.heard plain (hears_no_dot (hearing_after opening h) one.heard (replied after) one.hears)
exchange_no_dot Dial h pieces lost plain (inl none) = ap says_dot none
exchange_no_dot (Say line) h pieces lost plain (inl cut) = cut_no_dot line pieces plain.1 cut
exchange_no_dot opening h pieces lost plain (inr one) = ap says_dot one.begins ∙ opened_no_dot opening one.heard plain (hears_no_dot (hearing_after opening h) one.heard lost one.hears)

-- ---- all steps

abbrev AllPlain : List Step → Type 0
AllPlain [] = ⊤
AllPlain (step ∷ steps) = IsPlain step.opening × AllPlain steps

onward_no_dot : (outcome : Result Hearing SubmitFault) (steps : List Step) (rest : List Piece) (result : Result Hearing SubmitFault) → ((h : Hearing) → Follows steps h rest result → says_dot rest ≡ false)
    → onward outcome (λ after rest result. Follows steps after rest result) rest result → says_dot rest ≡ false
onward_no_dot (Ok h) steps rest result k next = k h next
onward_no_dot (Err fault) steps rest result k next = ap says_dot next.0

either_false : (a b : Bool) → a ≡ false → b ≡ false → (a || b) ≡ false
either_false a b none free = rw (none, free) refl

follows_no_dot : (steps : List Step) (h : Hearing) (pieces : List Piece) (result : Result Hearing SubmitFault) → AllPlain steps → Follows steps h pieces result → says_dot pieces ≡ false
follows_no_dot [] h pieces result plain follows = ap says_dot follows.0
follows_no_dot (step ∷ steps) h pieces result plain (first, rest, ending, joins, exchange, next) =
    ap says_dot joins ∙ append_says first rest
    ∙ either_false (says_dot first) (says_dot rest) (exchange_no_dot step.opening h first ending plain.0 exchange)
    (onward_no_dot (outcome_of step.wanted ending) steps rest result (λ u follows. follows_no_dot steps u rest result plain.1 follows) next)

plain_to : (to : List (List ℕ)) → AllPlain (map recipient_step to ++ say data_line wanted.Data ∷ [])
unfolding begins_other
plain_to [] = (plain_by data_line refl, tt)
plain_to (address ∷ to) = (plain_by (recipient_line address) refl, plain_to to)

plain_script : (user password from : List ℕ) (to : List (List ℕ)) → AllPlain (script user password from to)
unfolding begins_other
plain_script user password from to = (tt, (plain_by hello_line refl, (plain_by (auth_line user password) refl, (plain_by (sender_line from) refl, plain_to to))))

-- ---- the message

written_no_dot : (message : List ℕ) → NoDot (written true message)
written_no_dot [] zero = refl
written_no_dot [] (suc n) = refl
written_no_dot (b ∷ bytes) n = elim (cases_Bool (b == 46)) [
  | inl dot ↦ (let is : b ≡ 46 = eqb-true b 46 dot in rw is (doubled (written (46 == 10) bytes) n))
  | inr other ↦ rw other (other_first b (written (b == 10) bytes) other n)
]
  where
    doubled : (rest : List ℕ) (n : ℕ) → bytes_eq (take n (46 ∷ 46 ∷ rest)) dot_line ≡ false
    doubled rest zero = refl
    doubled rest (suc zero) = refl
    doubled rest (suc (suc n)) = refl

body_no_dot : (message : List ℕ) → NoDot (dotted message)
body_no_dot message = subst (λ (l : List ℕ). NoDot l) (all_dotted message) (written_no_dot message)

-- ---- after the dot

ends_as : (fault : SubmitFault) (result : Result (Unit {0}) SubmitFault) → EndsAfterDot (Err fault) → result ≡ Err fault → EndsAfterDot result
ends_as fault result ends is = subst (λ (r : Result (Unit {0}) SubmitFault). EndsAfterDot r) (sym is) ends

by_code : (is_taken : Bool) (code : ℕ) (h : Hearing) (rest : List Piece) (result : Result (Unit {0}) SubmitFault) → onward (doubted (wanted_or_refused is_taken code h)) Quits rest result → EndsAfterDot result
by_code true code h rest result next = subst (λ (r : Result (Unit {0}) SubmitFault). EndsAfterDot r) (sym next.1) tt
by_code false code h rest result next = ends_as _ result tt next.1

by_verdict : (verdict : Verdict) (h : Hearing) (rest : List Piece) (result : Result (Unit {0}) SubmitFault) → onward (doubted (judged verdict wanted.Done h)) Quits rest result → EndsAfterDot result
by_verdict Awaited h rest result next = ends_as posts.Doubt result tt next.1
by_verdict (Whole code) h rest result next = by_code (is_wanted wanted.Done code) code h rest result next
by_verdict Wrong h rest result next = ends_as posts.Doubt result tt next.1

after_dot : (ending : Ending) (rest : List Piece) (result : Result (Unit {0}) SubmitFault) → onward (dot_outcome ending) Quits rest result → EndsAfterDot result
after_dot (replied h) rest result next = by_verdict h.reading.verdict h rest result next
after_dot lost rest result next = ends_as posts.Doubt result tt next.1

clash : {A : Type 0} (b : Bool) → b ≡ true → b ≡ false → A
clash b said free = absurd (let e : true ≡ false = sym said ∙ free in cc)

delivers : (body : List ℕ) (h : Hearing) (pieces : List Piece) (result : Result (Unit {0}) SubmitFault) → NoDot body → Delivers body h pieces result → says_dot pieces ≡ true → EndsAfterDot result
delivers body h pieces result free (inl cut) says = clash (says_dot pieces) says (cut_no_dot body pieces free cut.0)
delivers body h pieces result free (inr (rest, is, (first, more, ending, joins, exchange, next))) says = after_dot ending more result next

by_followed : (followed : Result Hearing SubmitFault) (body : List ℕ) (first rest : List Piece) (result : Result (Unit {0}) SubmitFault) → NoDot body → says_dot first ≡ false → onward followed (Delivers body) rest result → says_dot (first ++ rest) ≡ true → EndsAfterDot result
by_followed (Ok h) body first rest result free none next says = delivers body h rest result free next (rest_says (says_dot first) (says_dot rest) none (sym (append_says first rest) ∙ says))
  where
    rest_says : (a b : Bool) → a ≡ false → (a || b) ≡ true → b ≡ true
    rest_says true b free either = absurd (cc)
    rest_says false b free either = either
by_followed (Err fault) body first rest result free none next says = clash (says_dot (first ++ rest)) says (append_says first rest ∙ either_false (says_dot first) (says_dot rest) none (ap says_dot next.0))

submits : (user password from : List ℕ) (to : List (List ℕ)) (message : List ℕ) (pieces : List Piece) (result : Result (Unit {0}) SubmitFault) → Submits (script user password from to) (dotted message) pieces result → says_dot pieces ≡ true → EndsAfterDot result
submits user password from to message pieces result (first, rest, followed, joins, follows, next) says =
    by_followed followed (dotted message) first rest result (body_no_dot message) (follows_no_dot (script user password from to) dialled first followed (plain_script user password from to) follows) next (ap says_dot (sym joins) ∙ says)

pub dots_end : DotsEndSubmissions
dots_end user password from to message pieces (Err posts.Memory) none says = clash (says_dot pieces) says (ap says_dot none)
dots_end user password from to message pieces (Ok done) sent says = submits user password from to message pieces (Ok done) sent says
dots_end user password from to message pieces (Err (posts.Refused code text)) sent says = submits user password from to message pieces (Err (posts.Refused code text)) sent says
dots_end user password from to message pieces (Err (posts.Damaged at)) sent says = submits user password from to message pieces (Err (posts.Damaged at)) sent says
dots_end user password from to message pieces (Err posts.Link) sent says = submits user password from to message pieces (Err posts.Link) sent says
dots_end user password from to message pieces (Err posts.Doubt) sent says = submits user password from to message pieces (Err posts.Doubt) sent says
