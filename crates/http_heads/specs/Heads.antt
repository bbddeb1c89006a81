-- What the bytes of a request's head are so far (RFC 9112 §2 and §3, by the grammar of `httparse`).
use Rattle.std.specs.Prelude.{◌≡◌, ◌==◌, ℕ, ◌≤◌, List, length, drop, map}
use Rattle.std.specs.List.{count_by}
use Rattle.httparse.specs.Grammar.{EndsInTarget, HasNoRequest, NeverHasRequest, ReadsRequest, RequestHead, print_request}
use Rattle.httparse.specs.Spans.{IsRequestOf, IsRequestWithin, name_and_value}
use Rattle.httparse.specs.declared.spans.HeaderSpan.{HeaderSpan}
use Rattle.http_heads.specs.declared.heads.Head.{Head}
use Rattle.http_heads.specs.declared.heads.HeadField.{HeadField}
use Rattle.http_heads.specs.declared.heads.Heard.{Heard}
use Rattle.http_heads.specs.declared.heads.Heard.TheVariants.{Finished, More, NotHttp}

-- the most bytes of a head
abbrev pub head_limit : ℕ
head_limit = 16384

abbrev pub line_feeds : List ℕ → ℕ
line_feeds bytes = count_by (λ b. b == 10) bytes

-- no continuation of the bytes begins with a head, and they don't end within its target
abbrev pub IsNotHttp : List ℕ → Type 0
IsNotHttp bytes = NeverHasRequest bytes × ¬ (EndsInTarget bytes)

-- what a reader of a head returns
abbrev pub HearsAs : List ℕ → List HeaderSpan → Heard → Type 0
HearsAs bytes spans (Finished head) = IsRequestOf bytes spans head × IsRequestWithin bytes spans head
HearsAs bytes spans More = HasNoRequest bytes × ¬ (IsNotHttp bytes)
HearsAs bytes spans NotHttp = IsNotHttp bytes

-- what a scan of a head returns: it doesn't test whether the bytes so far may become a head
abbrev pub ScansAs : List ℕ → List HeaderSpan → Heard → Type 0
ScansAs bytes spans (Finished head) = IsRequestOf bytes spans head × IsRequestWithin bytes spans head
ScansAs bytes spans More = HasNoRequest bytes
ScansAs bytes spans NotHttp = IsNotHttp bytes

-- the name and the value of a field
abbrev pub field_seen : HeadField → List ℕ × List ℕ
field_seen field = (field.name.now, field.value.now)

abbrev pub fields_seen : List HeadField → List (List ℕ × List ℕ)
fields_seen fields = map field_seen fields

-- the fields of a head: their names, and their values without the white space around them
abbrev pub fields_of : RequestHead → List (List ℕ × List ℕ)
fields_of head = map name_and_value head.fields

-- the parts of a head at the front of some bytes
pub record IsHeadOf (bytes : List ℕ) (head : RequestHead) (parts : Head) : Type 0 where
  pub reads : ReadsRequest bytes head (drop parts.len bytes)
  pub len : parts.len ≡ length (print_request head)
  pub within : parts.len ≤ length bytes
  pub method : parts.method.now ≡ head.method
  pub target : parts.target.now ≡ head.target
  pub fields : fields_seen parts.fields.items ≡ fields_of head
