-- What is answered to the parts of a head.
use Rattle.std.specs.Prelude.{◌≡◌, ℕ, ◌+◌, ◌<◌, ◌≤◌, List, [], ◌∷◌, ◌++◌, length, take, drop, codes, Option, None, Result, Ok, Err, ⊤, if◌then◌else◌}
use Rattle.std.specs.Io.KnownBytes.{Appends}
use Rattle.std.specs.Str.{str_eq_ignore_ascii_case}
use Rattle.http_heads.specs.Framing.{body_len, values_of}
use Rattle.http_heads.specs.Heads.{fields_seen}
use Rattle.http_heads.specs.declared.framing.HeadFault.{HeadFault}
use Rattle.http_heads.specs.declared.heads.Head.{Head}
use Rattle.http_routes.specs.Asks.{ask_of}
use Rattle.http_routes.specs.Cookies.{cookie_of, first_cookie, or_else, pieces_of}
use Rattle.http_front.specs.Faults.{head_fault}
use Rattle.http_front.specs.Requests.{Asked, with_cookie}
use Rattle.http_front.specs.declared.faults.AskFault.{AskFault}
use Rattle.http_front.specs.declared.faults.AskFault.TheVariants as fault

-- the cookie of a field
abbrev pub field_cookie : List ℕ × List ℕ → Option (List ℕ)
field_cookie field = if str_eq_ignore_ascii_case field.0 (codes "Cookie") then first_cookie (pieces_of field.1) else None

-- the first cookie of some fields
abbrev pub first_cookies : List (List ℕ × List ℕ) → Option (List ℕ)
first_cookies [] = None
first_cookies (field ∷ fields) = or_else (field_cookie field) (first_cookies fields)

-- the answer to the parts of a head and a body
abbrev pub parts_answer : Head → List ℕ → ℕ → Result Asked AskFault
parts_answer head body form = with_cookie (cookie_of (values_of (codes "Cookie") (fields_seen head.fields.items))) (ask_of head.method.now head.target.now body form)

-- a result answers a head whose body has the length
abbrev pub AnswersParts : Result ℕ HeadFault → Head → List ℕ → ℕ → Result Asked AskFault → Type 0
AnswersParts (Err refused) head bytes form result = result ≡ Err (head_fault refused)
AnswersParts (Ok len) head bytes form result = (head.len + len ≤ length bytes) × (result ≡ parts_answer head (take len (drop head.len bytes)) form)

-- the body is longer than what was heard
pub record LacksRest (head : Head) (bytes : List ℕ) : Type 0 where
  pub len : ℕ
  pub len_is : body_len (fields_seen head.fields.items) ≡ Ok len
  pub short : length bytes < head.len + len

abbrev pub AnswersBody : Head → List ℕ → ℕ → Result Asked AskFault → Type 0
AnswersBody head bytes form (Ok asked) = AnswersParts (body_len (fields_seen head.fields.items)) head bytes form (Ok asked)
AnswersBody head bytes form (Err fault.Cut) = LacksRest head bytes
AnswersBody head bytes form (Err fault.NotHttp) = ⊥
AnswersBody head bytes form (Err fault.Head) = AnswersParts (body_len (fields_seen head.fields.items)) head bytes form (Err fault.Head)
AnswersBody head bytes form (Err fault.Coding) = AnswersParts (body_len (fields_seen head.fields.items)) head bytes form (Err fault.Coding)
AnswersBody head bytes form (Err (fault.Field name)) = AnswersParts (body_len (fields_seen head.fields.items)) head bytes form (Err (fault.Field name))
AnswersBody head bytes form (Err (fault.Body len)) = AnswersParts (body_len (fields_seen head.fields.items)) head bytes form (Err (fault.Body len))
AnswersBody head bytes form (Err fault.NoRoute) = AnswersParts (body_len (fields_seen head.fields.items)) head bytes form (Err fault.NoRoute)
AnswersBody head bytes form (Err fault.Memory) = ⊤

-- a result answers the parts of a head and what was heard after it
pub record AnswersRest (before after : Option (List ℕ)) (bytes : List ℕ) (head : Head) (form : ℕ) (result : Result Asked AskFault) : Type 0 where
  pub more : List ℕ
  pub heard : Appends before after more
  pub answers : AnswersBody head (bytes ++ more) form result
