-- What a server says leaves the number of the last command.
use Rattle.std.proofs.Common.{◌≡◌, ℕ, Bool, true, false, cond, Option, Some, None, List, [], ◌∷◌, ◌++◌, length, refl, ap, ◌∙◌}
use Rattle.imap_framing.specs.Units.{FrameState, step}
use Rattle.imap_framing.specs.Units.FrameState.{Line, Octets, Whole, TooLong, Past}
use Rattle.imap_grammar.specs.declared.response.Word.{Word}
use Rattle.imap_grammar.specs.declared.response.Word.TheVariants as word
use Rattle.imap_grammar.specs.declared.response.Code.{Code}
use Rattle.imap_grammar.specs.declared.response.Code.TheVariants as coding
use Rattle.imap_grammar.specs.Response.{ResponseData, response_of}
use Rattle.imap_grammar.specs.Response.ResponseData.{Continue, Tagged, State, Capability, Enabled, Mailbox, Exists, Expunge, Fetch, Vanished, Esearch, Other}
use Rattle.mailbox_rows.specs.declared.row.Folder.{Folder}
use Rattle.mailbox_rows.specs.declared.row.Fields.{Fields}
use Rattle.mailbox_view.specs.declared.awaited.Awaited.{Awaited}
use Rattle.mailbox_view.specs.declared.awaited.Awaited.TheVariants as awaits
use Rattle.mailbox_view.specs.Fetched.{fields_of}
use Rattle.mailbox_view.specs.View.{ViewState, after_plus, after_closed, after_code, after_ok, after_no, after_answer, after_tagged, after_capability, after_enabled, after_list, after_excess, after_fetch, told as view_told, is_awaiting, is_tag, after_response}
use Rattle.mail_talk.specs.declared.phase.Phase.{Phase}
use Rattle.mail_talk.specs.declared.phase.Phase.TheVariants as phase
use Rattle.mail_talk.specs.States.{ToldState, after_greeting, after_request, after_answer as answer_in, heard_in, is_listening, is_silent}
use Rattle.mail_talk.specs.Units.{TalkState, with_rest, after_unit_read, take_units, drained, after_heard}
use Rattle.mail_talk.proofs.UnitLemmas.{take_byte, take_one, take_none, drained_open, drained_closed}

-- ---- a view

plus_number : (a : Awaited) (v : ViewState) → (after_plus a v).number ≡ v.number
plus_number awaits.Nothing v = refl
plus_number awaits.Capability v = refl
plus_number awaits.Enable v = refl
plus_number awaits.List v = refl
plus_number awaits.SelectSoon v = refl
plus_number awaits.Select v = refl
plus_number awaits.Changes v = refl
plus_number awaits.Other v = refl

closed_number : (leaving : Bool) (v : ViewState) → (after_closed leaving v).number ≡ v.number
closed_number true v = refl
closed_number false v = refl

code_number : (code : Option Code) (v : ViewState) → (after_code code v).number ≡ v.number
code_number None v = refl
code_number (Some (coding.Uidvalidity validity)) v = refl
code_number (Some (coding.Highestmodseq modseq)) v = refl
code_number (Some coding.Nomodseq) v = refl
code_number (Some coding.Closed) v = closed_number v.selection.is_leaving v
code_number (Some coding.Unread) v = refl

ok_number : (a : Awaited) (v : ViewState) → (after_ok a v).number ≡ v.number
ok_number awaits.Nothing v = refl
ok_number awaits.Capability v = refl
ok_number awaits.Enable v = refl
ok_number awaits.List v = refl
ok_number awaits.SelectSoon v = refl
ok_number awaits.Select v = refl
ok_number awaits.Changes v = refl
ok_number awaits.Other v = refl

no_number : (a : Awaited) (v : ViewState) → (after_no a v).number ≡ v.number
no_number awaits.Nothing v = refl
no_number awaits.Capability v = refl
no_number awaits.Enable v = refl
no_number awaits.List v = refl
no_number awaits.SelectSoon v = refl
no_number awaits.Select v = refl
no_number awaits.Changes v = refl
no_number awaits.Other v = refl

answer_number : (w : Word) (v : ViewState) → (after_answer w v).number ≡ v.number
answer_number word.Ok v = ok_number v.awaited v
answer_number word.No v = no_number v.awaited v
answer_number word.Bad v = no_number v.awaited v
answer_number word.Bye v = no_number v.awaited v
answer_number word.Preauth v = no_number v.awaited v

tagged_number : (own : Bool) (w : Word) (code : Option Code) (v : ViewState) → (after_tagged own w code v).number ≡ v.number
tagged_number true w code v = answer_number w (after_code code v) ∙ code_number code v
tagged_number false w code v = refl

capability_number : (a : Awaited) (names : List (List ℕ)) (v : ViewState) → (after_capability a names v).number ≡ v.number
capability_number awaits.Nothing names v = refl
capability_number awaits.Capability names v = refl
capability_number awaits.Enable names v = refl
capability_number awaits.List names v = refl
capability_number awaits.SelectSoon names v = refl
capability_number awaits.Select names v = refl
capability_number awaits.Changes names v = refl
capability_number awaits.Other names v = refl

enabled_number : (a : Awaited) (names : List (List ℕ)) (v : ViewState) → (after_enabled a names v).number ≡ v.number
enabled_number awaits.Nothing names v = refl
enabled_number awaits.Capability names v = refl
enabled_number awaits.Enable names v = refl
enabled_number awaits.List names v = refl
enabled_number awaits.SelectSoon names v = refl
enabled_number awaits.Select names v = refl
enabled_number awaits.Changes names v = refl
enabled_number awaits.Other names v = refl

list_number : (a : Awaited) (folder : Folder) (v : ViewState) → (after_list a folder v).number ≡ v.number
list_number awaits.Nothing folder v = refl
list_number awaits.Capability folder v = refl
list_number awaits.Enable folder v = refl
list_number awaits.List folder v = refl
list_number awaits.SelectSoon folder v = refl
list_number awaits.Select folder v = refl
list_number awaits.Changes folder v = refl
list_number awaits.Other folder v = refl

excess_number : (numbers : Option (ℕ × ℕ)) (v : ViewState) → (after_excess numbers v).number ≡ v.number
excess_number None v = refl
excess_number (Some numbers) v = refl

fetch_number : (uid : Option ℕ) (fields : Fields) (v : ViewState) → (after_fetch uid fields v).number ≡ v.number
fetch_number None fields v = refl
fetch_number (Some uid) fields v = excess_number _ _

told_number : (r : ResponseData) (v : ViewState) → (view_told r v).number ≡ v.number
told_number (Continue text) v = plus_number v.awaited v
told_number (Tagged tag w code text) v = tagged_number (is_tag tag v.number) w code v
told_number (State w code text) v = code_number code v
told_number (Capability names) v = capability_number v.awaited names v
told_number (Enabled names) v = enabled_number v.awaited names v
told_number (Mailbox attributes name) v = list_number v.awaited _ v
told_number (Exists n) v = refl
told_number (Expunge n) v = refl
told_number (Fetch n items) v = fetch_number (fields_of items).uid (fields_of items) v
told_number (Vanished earlier uids) v = refl
told_number (Esearch tag uids) v = refl
told_number Other v = refl

response_by : (awaiting : Bool) (r : ResponseData) (v : ViewState) → (cond awaiting (view_told r v) v).number ≡ v.number
response_by true r v = told_number r v
response_by false r v = refl

response_number : (r : ResponseData) (v : ViewState) → (after_response r v).number ≡ v.number
response_number r v = response_by (is_awaiting v.awaited) r v

-- ---- a talk

greeting_number : (r : ResponseData) (t : ToldState) → (after_greeting r t).view.number ≡ t.view.number
greeting_number (Continue text) t = refl
greeting_number (Tagged tag w code text) t = refl
greeting_number (State w code text) t = refl
greeting_number (Capability names) t = refl
greeting_number (Enabled names) t = refl
greeting_number (Mailbox attributes name) t = refl
greeting_number (Exists n) t = refl
greeting_number (Expunge n) t = refl
greeting_number (Fetch n items) t = refl
greeting_number (Vanished earlier uids) t = refl
greeting_number (Esearch tag uids) t = refl
greeting_number Other t = refl

request_number : (r : ResponseData) (at : ℕ) (t : ToldState) → (after_request r at t).view.number ≡ t.view.number
request_number (Continue text) at t = refl
request_number (Tagged tag w code text) at t = response_number (Tagged tag w code text) t.view
request_number (State w code text) at t = response_number (State w code text) t.view
request_number (Capability names) at t = response_number (Capability names) t.view
request_number (Enabled names) at t = response_number (Enabled names) t.view
request_number (Mailbox attributes name) at t = response_number (Mailbox attributes name) t.view
request_number (Exists n) at t = response_number (Exists n) t.view
request_number (Expunge n) at t = response_number (Expunge n) t.view
request_number (Fetch n items) at t = response_number (Fetch n items) t.view
request_number (Vanished earlier uids) at t = response_number (Vanished earlier uids) t.view
request_number (Esearch tag uids) at t = response_number (Esearch tag uids) t.view
request_number Other at t = response_number Other t.view

answer_in_number : (r : ResponseData) (at : ℕ) (t : ToldState) → (answer_in r at t).view.number ≡ t.view.number
answer_in_number (Continue text) at t = refl
answer_in_number (Tagged tag w code text) at t = response_number (Tagged tag w code text) t.view
answer_in_number (State w code text) at t = response_number (State w code text) t.view
answer_in_number (Capability names) at t = response_number (Capability names) t.view
answer_in_number (Enabled names) at t = response_number (Enabled names) t.view
answer_in_number (Mailbox attributes name) at t = response_number (Mailbox attributes name) t.view
answer_in_number (Exists n) at t = response_number (Exists n) t.view
answer_in_number (Expunge n) at t = response_number (Expunge n) t.view
answer_in_number (Fetch n items) at t = response_number (Fetch n items) t.view
answer_in_number (Vanished earlier uids) at t = response_number (Vanished earlier uids) t.view
answer_in_number (Esearch tag uids) at t = response_number (Esearch tag uids) t.view
answer_in_number Other at t = response_number Other t.view

heard_in_number : (p : Phase) (r : ResponseData) (at : ℕ) (t : ToldState) → (heard_in p r at t).view.number ≡ t.view.number
heard_in_number phase.NotDialled r at t = refl
heard_in_number phase.Greeting r at t = greeting_number r t
heard_in_number phase.Idle r at t = refl
heard_in_number phase.Request r at t = request_number r at t
heard_in_number phase.Piece r at t = refl
heard_in_number phase.Answer r at t = answer_in_number r at t
heard_in_number phase.Damaged r at t = refl

abbrev SameNumber : TalkState → TalkState → Type 0
SameNumber s t = t.told.view.number ≡ s.told.view.number

read_number : (read : Option ResponseData) (n : ℕ) (s : TalkState) → SameNumber s (after_unit_read read n s)
read_number None n s = refl
read_number (Some r) n s = heard_in_number s.told.phase r s.at s.told

whole_by : (listening : Bool) (bytes : List ℕ) (s u : TalkState) → SameNumber s u → SameNumber u (take_units [] (Line true []) bytes u) → SameNumber s (cond listening (take_units [] (Line true []) bytes u) u)
whole_by true bytes s u is more = more ∙ is
whole_by false bytes s u is more = is

byte_number : (next : FrameState) (begun : List ℕ) (c : ℕ) (bytes : List ℕ) (s : TalkState) → ((u : TalkState) → SameNumber u (take_units [] (Line true []) bytes u))
    → SameNumber s (take_units (begun ++ c ∷ []) next bytes s) → SameNumber s (take_byte next begun c bytes s)
byte_number (Line first line) begun c bytes s later goes = goes
byte_number (Octets left) begun c bytes s later goes = goes
byte_number Whole begun c bytes s later goes =
    let unit : List ℕ = begun ++ c ∷ [] in
    let u : TalkState = after_unit_read (response_of unit) (length unit) (with_rest bytes s) in
    whole_by (is_listening u.told.phase) bytes s u (read_number (response_of unit) (length unit) (with_rest bytes s)) (later u)
byte_number TooLong begun c bytes s later goes = refl
byte_number Past begun c bytes s later goes = refl

take_number : (begun : List ℕ) (frame : FrameState) (bytes : List ℕ) (s : TalkState) → SameNumber s (take_units begun frame bytes s)
take_number begun frame [] s = ap (λ (t : TalkState). t.told.view.number) (take_none begun frame s)
take_number begun frame (c ∷ bytes) s =
    ap (λ (t : TalkState). t.told.view.number) (take_one begun frame c bytes s)
    ∙ byte_number (step frame c) begun c bytes s (λ u. take_number [] (Line true []) bytes u) (take_number (begun ++ c ∷ []) (step frame c) bytes s)

drained_by : (listening : Bool) (s : TalkState) → is_listening s.told.phase ≡ listening → SameNumber s (drained s)
drained_by true s is = ap (λ (t : TalkState). t.told.view.number) (drained_open s is) ∙ take_number [] (Line true []) s.rest s
drained_by false s is = ap (λ (t : TalkState). t.told.view.number) (drained_closed s is)

pub drained_number : (s : TalkState) → (drained s).told.view.number ≡ s.told.view.number
drained_number s = drained_by (is_listening s.told.phase) s refl

heard_by : (silent : Bool) (bytes : List ℕ) (s : TalkState) → SameNumber s (cond silent s (drained (with_rest (s.rest ++ bytes) s)))
heard_by true bytes s = refl
heard_by false bytes s = drained_number (with_rest (s.rest ++ bytes) s)

pub heard_number : (bytes : List ℕ) (s : TalkState) → (after_heard bytes s).told.view.number ≡ s.told.view.number
unfolding after_heard
heard_number bytes s = heard_by (is_silent s.told.phase) bytes s
