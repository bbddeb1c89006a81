-- What an account answers to a form that is to be sent.
use Rattle.std.specs.Prelude.{ℕ, true, List, [], ◌++◌, codes, decimal}
use Rattle.std.specs.Str.Lossy.{utf8_lossy}
use Rattle.compose_drafts.specs.Message.{hex_digits}
use Rattle.site_asks.specs.declared.replies.Kind.TheVariants as kind
use Rattle.page_frames.specs.Pages.{IsFramePage}
use Rattle.form_pages.specs.Others.{fault_page}
use Rattle.account_sends.specs.declared.faults.SendFault.{SendFault}
use Rattle.account_sends.specs.declared.faults.SendFault.TheVariants as fault
use Rattle.account_answers.specs.declared.answer.Answer.{Answer}
use Rattle.account_answers.specs.declared.answer.Body.TheVariants as body
use Rattle.account_answers.specs.Answers.{fault_answer}

-- the status code of a fault (RFC 9110 §15); want of memory is never answered with a page
abbrev pub send_status : SendFault → ℕ
send_status fault.NoRecipient = 422
send_status (fault.NotAddress field at) = 422
send_status (fault.Long bytes) = 422
send_status (fault.Refused code text) = 422
send_status (fault.Damaged at) = 502
send_status fault.Unreachable = 503
send_status fault.InDoubt = 409
send_status fault.Unkept = 500
send_status fault.Memory = 507

-- what the page of a form's fault says
abbrev pub send_text : ℕ → SendFault → List ℕ
send_text form fault.NoRecipient = codes "Recipients are missing."
send_text form (fault.NotAddress field at) = codes "Not an address: " ++ field ++ codes " at " ++ decimal at ++ codes "."
send_text form (fault.Long bytes) = codes "The text is too long: " ++ decimal bytes ++ codes " bytes."
send_text form (fault.Refused code text) = codes "The post server answered " ++ decimal code ++ codes ": " ++ utf8_lossy text
send_text form (fault.Damaged at) = codes "The server's answer is damaged at byte " ++ decimal at ++ codes "."
send_text form fault.Unreachable = codes "The server cannot be reached."
send_text form fault.InDoubt = codes "It is not known whether form " ++ hex_digits 16 form ++ codes " was sent."
send_text form fault.Unkept = codes "The records could not be read or written."
send_text form fault.Memory = []

abbrev pub unsent_answer : ℕ → SendFault → Answer
unsent_answer form one = fault_answer (send_status one) (send_text form one)

-- after a form was sent, now or before, the browser is sent to the folders
abbrev pub sent_answer : Answer
sent_answer = record { status = 303; kind = kind.To (codes "/"); body = body.Plain [] }

-- a browser reads the page of a fault as its tokens, and loads the style sheet alone
abbrev pub IsSafeUnsent : ℕ → SendFault → Type 0
IsSafeUnsent form one = IsFramePage (fault_page (send_status one) (send_text form one) true)
