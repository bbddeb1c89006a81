-- What is answered to all that was heard.
use Rattle.std.proofs.Common.{◌≡◌, ℕ, ◌+◌, ◌-◌, ◌<◌, ◌≤◌, List, [], ◌++◌, length, take, drop, refl, sym, ap, ◌∙◌, arith, append_assoc, subst, inl, inr, Option, Result, Ok, Err}
use Rattle.std.specs.Prelude.{IsErrAnd}
use Rattle.std.proofs.Math.Seq.{take-append-add}
use Rattle.std.proofs.lemmas.List.{take_all}
use Rattle.httparse.specs.Grammar.{HasNoRequest, ReadsRequest, RequestHead, print_request}
use Rattle.httparse.specs.declared.spans.HeaderSpan.{HeaderSpan}
use Rattle.http_heads.specs.Framing.{body_len}
use Rattle.http_heads.specs.Heads.{IsHeadOf, IsNotHttp, fields_seen}
use Rattle.http_heads.specs.declared.framing.HeadFault.{HeadFault}
use Rattle.http_heads.specs.declared.heads.Head.{Head}
use Rattle.http_front.specs.Answering.{AnswersBody, AnswersParts, AnswersRest, LacksRest, parts_answer}
use Rattle.http_front.specs.Receiving.{HeadHeard, Hears}
use Rattle.http_front.specs.Requests.{Answers, AnswersHead, AnswersHeard, Asked, HasAnswer, IsUnfinished, body_at, front, whole_answer}
use Rattle.http_front.specs.declared.faults.AskFault.{AskFault}
use Rattle.http_front.specs.declared.faults.AskFault.TheVariants as fault
use Rattle.http_front.proofs.Hearing.{heard_all, then_hears}

front_is : (bytes : List ℕ) → length bytes ≤ 16384 → bytes ≡ front bytes
front_is bytes short = sym (take_all 16384 bytes short)

-- what is answered if no head was whole
pub head_refused : (before after : Option (List ℕ)) (bytes : List ℕ) (spans : List HeaderSpan) (form : ℕ) (e : AskFault)
    → Hears before after [] bytes → HeadHeard bytes spans (Err e) → AnswersHeard before after form (Err e)
head_refused before after bytes spans form fault.Cut hears heard = record { bytes = bytes; heard = heard_all before after bytes hears; answers = inl heard }
head_refused before after bytes spans form fault.NotHttp hears heard =
    record { bytes = bytes; heard = heard_all before after bytes hears; answers = subst IsNotHttp (front_is bytes heard.0) heard.1 }
head_refused before after bytes spans form fault.Head hears heard =
    let size : length bytes ≡ 16384 = heard.long in
    let is : bytes ≡ front bytes = front_is bytes (omega arith) in
    record { bytes = bytes; heard = heard_all before after bytes hears; answers = inl (record { long = omega arith; unfinished = subst HasNoRequest is heard.unfinished; is_http = subst (λ (b : List ℕ). ¬ (IsNotHttp b)) is heard.is_http }) }
head_refused before after bytes spans form fault.Coding hears heard = absurd heard
head_refused before after bytes spans form (fault.Field name) hears heard = absurd heard
head_refused before after bytes spans form (fault.Body len) hears heard = absurd heard
head_refused before after bytes spans form fault.NoRoute hears heard = absurd heard
head_refused before after bytes spans form fault.Memory hears heard = record { bytes = bytes; heard = heard_all before after bytes hears; answers = tt }

-- ---- a head that was whole

front_append : (bytes more : List ℕ) → length bytes ≤ 16384 → front (bytes ++ more) ≡ bytes ++ take (16384 - length bytes) more
front_append bytes more short =
    let size : 16384 ≡ length bytes + (16384 - length bytes) = omega arith in
    ap (λ (n : ℕ). take n (bytes ++ more)) size ∙ take-append-add bytes more (16384 - length bytes)

front_reads : (bytes more : List ℕ) (h : RequestHead) (rest : List ℕ) → length bytes ≤ 16384 → ReadsRequest bytes h rest
    → ReadsRequest (front (bytes ++ more)) h (rest ++ take (16384 - length bytes) more)
front_reads bytes more h rest short reads =
    (reads.0, front_append bytes more short ∙ ap (λ (l : List ℕ). l ++ take (16384 - length bytes) more) reads.1 ∙ append_assoc (print_request h) rest (take (16384 - length bytes) more))

same_answer : (bytes all : List ℕ) (h : RequestHead) (parts : Head) (form len : ℕ) → IsHeadOf bytes h parts → parts_answer parts (take len (drop parts.len all)) form ≡ whole_answer h (body_at h len all) form
same_answer bytes all h parts form len is = rw (is.fields, is.method, is.target, is.len) refl

head_answer : (r : Result ℕ HeadFault) (bytes all : List ℕ) (h : RequestHead) (parts : Head) (form : ℕ) (result : Result Asked AskFault)
    → IsHeadOf bytes h parts → AnswersParts r parts all form result → AnswersHead r h all form result
head_answer (Err refused) bytes all h parts form result is answers = answers
head_answer (Ok len) bytes all h parts form result is answers =
    (subst (λ (n : ℕ). n + len ≤ length all) is.len answers.0, answers.1 ∙ same_answer bytes all h parts form len is)

has_answer : (bytes more : List ℕ) (h : RequestHead) (parts : Head) (form : ℕ) (result : Result Asked AskFault)
    → length bytes ≤ 16384 → IsHeadOf bytes h parts → AnswersParts (body_len (fields_seen parts.fields.items)) parts (bytes ++ more) form result → HasAnswer (bytes ++ more) form result
has_answer bytes more h parts form result short is answers = record {
  head = h;
  rest = drop parts.len bytes ++ take (16384 - length bytes) more;
  reads = front_reads bytes more h (drop parts.len bytes) short is.reads;
  answers = subst (λ (fields : List (List ℕ × List ℕ)). AnswersHead (body_len fields) h (bytes ++ more) form result) is.fields
      (head_answer (body_len (fields_seen parts.fields.items)) bytes (bytes ++ more) h parts form result is answers);
}

lacks_body : (bytes more : List ℕ) (h : RequestHead) (parts : Head) → length bytes ≤ 16384 → IsHeadOf bytes h parts → LacksRest parts (bytes ++ more) → IsUnfinished (bytes ++ more)
lacks_body bytes more h parts short is lacks = inr (record {
  head = h;
  rest = drop parts.len bytes ++ take (16384 - length bytes) more;
  len = lacks.len;
  reads = front_reads bytes more h (drop parts.len bytes) short is.reads;
  len_is = ap body_len (sym is.fields) ∙ lacks.len_is;
  short = subst (λ (n : ℕ). length (bytes ++ more) < n + lacks.len) is.len lacks.short;
})

answers_all : (bytes more : List ℕ) (h : RequestHead) (parts : Head) (form : ℕ) (result : Result Asked AskFault)
    → length bytes ≤ 16384 → IsHeadOf bytes h parts → AnswersBody parts (bytes ++ more) form result → Answers (bytes ++ more) form result
answers_all bytes more h parts form (Ok asked) short is answers = has_answer bytes more h parts form (Ok asked) short is answers
answers_all bytes more h parts form (Err fault.Cut) short is answers = lacks_body bytes more h parts short is answers
answers_all bytes more h parts form (Err fault.NotHttp) short is answers = absurd answers
answers_all bytes more h parts form (Err fault.Head) short is answers = inr (has_answer bytes more h parts form (Err fault.Head) short is answers)
answers_all bytes more h parts form (Err fault.Coding) short is answers = has_answer bytes more h parts form (Err fault.Coding) short is answers
answers_all bytes more h parts form (Err (fault.Field name)) short is answers = has_answer bytes more h parts form (Err (fault.Field name)) short is answers
answers_all bytes more h parts form (Err (fault.Body len)) short is answers = has_answer bytes more h parts form (Err (fault.Body len)) short is answers
answers_all bytes more h parts form (Err fault.NoRoute) short is answers = has_answer bytes more h parts form (Err fault.NoRoute) short is answers
answers_all bytes more h parts form (Err fault.Memory) short is answers = tt

-- what is answered if a head was whole
pub answered : (a b c : Option (List ℕ)) (bytes : List ℕ) (h : RequestHead) (parts : Head) (form : ℕ) (result : Result Asked AskFault)
    → Hears a b [] bytes → length bytes ≤ 16384 → IsHeadOf bytes h parts → AnswersRest b c bytes parts form result → AnswersHeard a c form result
answered a b c bytes h parts form result hears short is rest = record {
  bytes = bytes ++ rest.more;
  heard = then_hears a b c bytes rest.more hears rest.heard;
  answers = answers_all bytes rest.more h parts form result short is rest.answers;
}

-- what is answered with a fault that is handed on
pub of_err : (before after : Option (List ℕ)) (form : ℕ) (result : Result Asked AskFault) (e : AskFault) → IsErrAnd result (λ x. x ≡ e) → AnswersHeard before after form (Err e) → AnswersHeard before after form result
of_err before after form (Ok asked) e is answers = absurd is
of_err before after form (Err x) e is answers = subst (λ (f : AskFault). AnswersHeard before after form (Err f)) (sym is) answers
