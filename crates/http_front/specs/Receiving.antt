-- What calls receive.
use Rattle.std.specs.Prelude.{◌≡◌, ℕ, ◌<◌, ◌≤◌, List, ◌++◌, length, Option, Result, Ok, Err, ⊤}
use Rattle.std.specs.Io.KnownBytes.{Appends}
use Rattle.httparse.specs.Grammar.{HasNoRequest}
use Rattle.httparse.specs.Spans.{IsRequestOf, IsRequestWithin}
use Rattle.httparse.specs.declared.spans.HeaderSpan.{HeaderSpan}
use Rattle.httparse.specs.declared.spans.RequestSpans.{RequestSpans}
use Rattle.mail_io.specs.Causes.{Rose}
use Rattle.http_heads.specs.Heads.{IsNotHttp, head_limit}
use Rattle.http_front.specs.declared.faults.AskFault.{AskFault}
use Rattle.http_front.specs.declared.faults.AskFault.TheVariants as fault

-- what was heard was appended
pub record Hears (before after : Option (List ℕ)) (old new : List ℕ) : Type 0 where
  pub more : List ℕ
  pub heard : Appends before after more
  pub appended : new ≡ old ++ more

-- a call is cut only if the count of faults rose, and else keeps the count
abbrev pub IsCaused : {T : Type 0} → ℕ → ℕ → Result T AskFault → Type 0
IsCaused before after (Ok x) = after ≡ before
IsCaused before after (Err fault.Cut) = Rose before after
IsCaused before after (Err fault.NotHttp) = after ≡ before
IsCaused before after (Err fault.Head) = after ≡ before
IsCaused before after (Err fault.Coding) = after ≡ before
IsCaused before after (Err (fault.Field name)) = after ≡ before
IsCaused before after (Err (fault.Body bytes)) = after ≡ before
IsCaused before after (Err fault.NoRoute) = after ≡ before
IsCaused before after (Err fault.Memory) = after ≡ before

-- no head has ended within the bytes that it may have, and the bytes are HTTP
pub record IsUnfinishedHead (bytes : List ℕ) : Type 0 where
  pub long : length bytes ≡ head_limit
  pub unfinished : HasNoRequest bytes
  pub is_http : ¬ (IsNotHttp bytes)

-- what the bytes of a head are that were heard
abbrev pub HeadHeard : List ℕ → List HeaderSpan → Result RequestSpans AskFault → Type 0
HeadHeard bytes spans (Ok head) = (length bytes ≤ head_limit) × IsRequestOf bytes spans head × IsRequestWithin bytes spans head
HeadHeard bytes spans (Err fault.Cut) = (length bytes < head_limit) × HasNoRequest bytes
HeadHeard bytes spans (Err fault.NotHttp) = (length bytes ≤ head_limit) × IsNotHttp bytes
HeadHeard bytes spans (Err fault.Head) = IsUnfinishedHead bytes
HeadHeard bytes spans (Err fault.Coding) = ⊥
HeadHeard bytes spans (Err (fault.Field name)) = ⊥
HeadHeard bytes spans (Err (fault.Body len)) = ⊥
HeadHeard bytes spans (Err fault.NoRoute) = ⊥
HeadHeard bytes spans (Err fault.Memory) = ⊤

-- what the bytes of a body are that were heard
abbrev pub BodyHeard : List ℕ → ℕ → Result (Unit {0}) AskFault → Type 0
BodyHeard bytes len (Ok done) = len ≤ length bytes
BodyHeard bytes len (Err fault.Cut) = length bytes < len
BodyHeard bytes len (Err fault.NotHttp) = ⊥
BodyHeard bytes len (Err fault.Head) = ⊥
BodyHeard bytes len (Err fault.Coding) = ⊥
BodyHeard bytes len (Err (fault.Field name)) = ⊥
BodyHeard bytes len (Err (fault.Body more)) = ⊥
BodyHeard bytes len (Err fault.NoRoute) = ⊥
BodyHeard bytes len (Err fault.Memory) = ⊤

-- a call of `receive` was cut, or memory ran out
abbrev pub IsCutOrMemory : AskFault → Type 0
IsCutOrMemory fault.Cut = ⊤
IsCutOrMemory fault.NotHttp = ⊥
IsCutOrMemory fault.Head = ⊥
IsCutOrMemory fault.Coding = ⊥
IsCutOrMemory (fault.Field name) = ⊥
IsCutOrMemory (fault.Body more) = ⊥
IsCutOrMemory fault.NoRoute = ⊥
IsCutOrMemory fault.Memory = ⊤
