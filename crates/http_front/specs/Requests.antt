-- What a caller's bytes ask for.
use Rattle.std.specs.Prelude.{◌≡◌, ℕ, ◌+◌, ◌<◌, ◌≤◌, ◌⊎◌, List, length, take, drop, codes, Option, Result, Ok, Err, ⊤}
use Rattle.std.specs.Io.KnownBytes.{Appends}
use Rattle.httparse.specs.Grammar.{HasNoRequest, ReadsRequest, RequestHead, print_request}
use Rattle.http_heads.specs.Framing.{body_len, values_of}
use Rattle.http_heads.specs.Heads.{IsNotHttp, fields_of, head_limit}
use Rattle.http_heads.specs.declared.framing.HeadFault.{HeadFault}
use Rattle.http_routes.specs.Asks.{ask_of}
use Rattle.http_routes.specs.Cookies.{cookie_of}
use Rattle.http_routes.specs.declared.RouteFault.{RouteFault}
use Rattle.http_front.specs.Faults.{head_fault, route_fault}
use Rattle.site_asks.specs.declared.asks.Ask.{Ask}
use Rattle.http_front.specs.declared.faults.AskFault.{AskFault}
use Rattle.http_front.specs.declared.faults.AskFault.TheVariants as fault

-- an ask, and the cookie that came with it
abbrev pub Asked : Type 0
Asked = Ask × Option (List ℕ)

-- a function's result is the definition's, unless memory ran out
abbrev pub AsksAs : Result Asked AskFault → Result Asked AskFault → Type 0
AsksAs (Ok asked) answer = answer ≡ Ok asked
AsksAs (Err fault.Cut) answer = ⊥
AsksAs (Err fault.NotHttp) answer = ⊥
AsksAs (Err fault.Head) answer = ⊥
AsksAs (Err fault.Coding) answer = ⊥
AsksAs (Err (fault.Field name)) answer = answer ≡ Err (fault.Field name)
AsksAs (Err (fault.Body len)) answer = ⊥
AsksAs (Err fault.NoRoute) answer = answer ≡ Err fault.NoRoute
AsksAs (Err fault.Memory) answer = ⊤

-- the bytes that a head may have
abbrev pub front : List ℕ → List ℕ
front bytes = take head_limit bytes

abbrev pub with_cookie : Option (List ℕ) → Result Ask RouteFault → Result Asked AskFault
with_cookie cookie (Ok ask) = Ok (ask, cookie)
with_cookie cookie (Err fault) = Err (route_fault fault)

abbrev pub cookie_in : RequestHead → Option (List ℕ)
cookie_in head = cookie_of (values_of (codes "Cookie") (fields_of head))

-- the answer to a whole request
abbrev pub whole_answer : RequestHead → List ℕ → ℕ → Result Asked AskFault
whole_answer head body form = with_cookie (cookie_in head) (ask_of head.method head.target body form)

-- the `len` bytes after a head
abbrev pub body_at : RequestHead → ℕ → List ℕ → List ℕ
body_at head len bytes = take len (drop (length (print_request head)) bytes)

-- a result answers a head: its fault, or the request with its body
abbrev pub AnswersHead : Result ℕ HeadFault → RequestHead → List ℕ → ℕ → Result Asked AskFault → Type 0
AnswersHead (Err refused) head bytes form result = result ≡ Err (head_fault refused)
AnswersHead (Ok len) head bytes form result = (length (print_request head) + len ≤ length bytes) × (result ≡ whole_answer head (body_at head len bytes) form)

pub record HasAnswer (bytes : List ℕ) (form : ℕ) (result : Result Asked AskFault) : Type 0 where
  pub head : RequestHead
  pub rest : List ℕ
  pub reads : ReadsRequest (front bytes) head rest
  pub answers : AnswersHead (body_len (fields_of head)) head bytes form result

-- no head has ended within the bytes that it may have, and the bytes are HTTP
pub record IsTooLong (bytes : List ℕ) : Type 0 where
  pub long : head_limit ≤ length bytes
  pub unfinished : HasNoRequest (front bytes)
  pub is_http : ¬ (IsNotHttp (front bytes))

-- a head whose body is longer than what follows
pub record LacksBody (bytes : List ℕ) : Type 0 where
  pub head : RequestHead
  pub rest : List ℕ
  pub len : ℕ
  pub reads : ReadsRequest (front bytes) head rest
  pub len_is : body_len (fields_of head) ≡ Ok len
  pub short : length bytes < length (print_request head) + len

-- the bytes are no whole request, and more of it may come
abbrev pub IsUnfinished : List ℕ → Type 0
IsUnfinished bytes = ((length bytes < head_limit) × HasNoRequest bytes) ⊎ LacksBody bytes

-- a result answers the bytes of a caller
abbrev pub Answers : List ℕ → ℕ → Result Asked AskFault → Type 0
Answers bytes form (Ok asked) = HasAnswer bytes form (Ok asked)
Answers bytes form (Err fault.Cut) = IsUnfinished bytes
Answers bytes form (Err fault.NotHttp) = IsNotHttp (front bytes)
Answers bytes form (Err fault.Head) = IsTooLong bytes ⊎ HasAnswer bytes form (Err fault.Head)
Answers bytes form (Err fault.Coding) = HasAnswer bytes form (Err fault.Coding)
Answers bytes form (Err (fault.Field name)) = HasAnswer bytes form (Err (fault.Field name))
Answers bytes form (Err (fault.Body len)) = HasAnswer bytes form (Err (fault.Body len))
Answers bytes form (Err fault.NoRoute) = HasAnswer bytes form (Err fault.NoRoute)
Answers bytes form (Err fault.Memory) = ⊤

-- a result answers the bytes that were heard in a call, if the caller tells them
pub record AnswersHeard (before after : Option (List ℕ)) (form : ℕ) (result : Result Asked AskFault) : Type 0 where
  pub bytes : List ℕ
  pub heard : Appends before after bytes
  pub answers : Answers bytes form result
