-- What an account answers if a cause stops the script of an ask.
use Rattle.std.specs.Prelude.{ℕ, true, false, List, [], ◌++◌, codes, decimal, encode_utf8_all}
use Rattle.std.specs.Str.Lossy.{utf8_lossy}
use Rattle.account_script.specs.declared.cause.Cause.{Cause}
use Rattle.account_script.specs.declared.cause.Cause.TheVariants as cause
use Rattle.site_asks.specs.declared.replies.Kind.TheVariants as kind
use Rattle.page_writer.specs.Page.{spell}
use Rattle.page_frames.specs.Pages.{IsFramePage}
use Rattle.form_pages.specs.Others.{fault_page}
use Rattle.account_answers.specs.declared.answer.Answer.{Answer}
use Rattle.account_answers.specs.declared.answer.Body.TheVariants as body

-- ---- causes

-- the status code of a cause (RFC 9110 §15)
abbrev pub status_of : Cause → ℕ
status_of cause.NoFolder = 404
status_of cause.NoMessage = 404
status_of (cause.Renewed asked told) = 409
status_of (cause.LongMessage size) = 422
status_of (cause.TooMany rows bytes) = 422
status_of (cause.NoLogin text) = 303
status_of (cause.Server number text) = 422
status_of (cause.Damaged at) = 502
status_of (cause.Lacking name) = 502

-- what the page of a cause says; a refused login has no page
abbrev pub text_of : Cause → List ℕ
text_of cause.NoFolder = codes "No such folder."
text_of cause.NoMessage = codes "No such message."
text_of (cause.Renewed asked told) = codes "The folder was renewed: asked " ++ decimal asked ++ codes ", now " ++ decimal told ++ codes "."
text_of (cause.LongMessage size) = codes "The message is too long: " ++ decimal size ++ codes " bytes."
text_of (cause.TooMany rows bytes) = codes "The folder is too large: " ++ decimal rows ++ codes " rows, " ++ decimal bytes ++ codes " header bytes."
text_of (cause.NoLogin text) = []
text_of (cause.Server number text) = codes "The server answered A" ++ decimal number ++ codes ": " ++ utf8_lossy text
text_of (cause.Damaged at) = codes "The server's answer is damaged at byte " ++ decimal at ++ codes "."
text_of (cause.Lacking name) = codes "The server lacks " ++ name ++ codes "."

-- ---- answers

-- a page of a session that says what is wrong
abbrev pub fault_answer : ℕ → List ℕ → Answer
fault_answer status text = record { status = status; kind = kind.Page false; body = body.Page (encode_utf8_all (spell (fault_page status text true))) }

-- the browser is sent to the login
abbrev pub login_answer : Answer
login_answer = record { status = 303; kind = kind.To (codes "/login"); body = body.Plain [] }

abbrev pub answer_of_cause : Cause → Answer
answer_of_cause (cause.NoLogin text) = login_answer
answer_of_cause other = fault_answer (status_of other) (text_of other)

-- A browser reads the page of a cause as its tokens, none of which comes from a message, and loads the style sheet alone. A refused
-- login has no page.
abbrev pub IsSafeStop : Cause → Type 0
IsSafeStop (cause.NoLogin text) = Unit {0}
IsSafeStop other = IsFramePage (fault_page (status_of other) (text_of other) true)
