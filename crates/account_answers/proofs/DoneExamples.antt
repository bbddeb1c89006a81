-- What asks are answered whose scripts came to their ends.
use Rattle.std.proofs.Common.{◌≡◌, ℕ, false, List, [], ◌∷◌, codes, Option, Some, None, refl}
use Rattle.std.specs.Prelude.{encode_utf8_all}
use Rattle.account_pictures.specs.declared.records.Address.{Address}
use Rattle.site_asks.specs.declared.asks.Ask.TheVariants as ask
use Rattle.site_asks.specs.declared.replies.Kind.TheVariants as kind
use Rattle.transfer_codings.specs.declared.coding.Coding.TheVariants as coding
use Rattle.mime_tree.specs.Tree.{PartValue}
use Rattle.mailbox_rows.specs.Mailboxes.{MailboxState}
use Rattle.mail_talk.specs.declared.results.FetchedBody.{FetchedBody}
use Rattle.mail_talk.specs.States.{nothing_told}
use Rattle.page_writer.specs.Page.{spell}
use Rattle.folder_pages.specs.Folders.{folder_page}
use Rattle.folder_pages.specs.Tables.{list_page}
use Rattle.account_answers.specs.declared.answer.Body.TheVariants as body
use Rattle.account_answers.specs.Answers.{fault_answer}
use Rattle.account_answers.specs.Done.{answer_of_done, page_answer, list_answer, body_at, bytes_answer, part_kind}

inbox : List ℕ
inbox = codes "INBOX"

key : List ℕ
key = codes "k"

at_three : Address
at_three = record { folder = inbox; validity = 7; uid = 3 }

-- the body of a message of INBOX
fetched : Option ℕ → ℕ → FetchedBody
fetched validity uid = record { folder = inbox; validity = validity; uid = uid; body = Some (codes "hi") }

part_with : List ℕ → PartValue
part_with mime = record { section = 1 ∷ []; mime = mime; charset = codes "utf-8"; coding = coding.Plain; name = []; id = None; location = None; format = None; attached = false; enclosed = false; start = 0; bytes = codes "GIF" }

empty_box : MailboxState
empty_box = record { name = inbox; validity = Some 7; rows = []; mark = 0 }

folders : answer_of_done ask.Folders key nothing_told ≡ page_answer false (encode_utf8_all (spell (folder_page [])))
folders = refl

list : list_answer inbox 1 (Some empty_box) ≡ page_answer false (encode_utf8_all (spell (list_page inbox 7 [] 1)))
unfolding empty_box
list = refl

no_folder : answer_of_done (ask.List inbox 1) key nothing_told ≡ fault_answer 404 (codes "No such folder.")
no_folder = refl

no_message : answer_of_done (ask.Show at_three None false) key nothing_told ≡ fault_answer 404 (codes "No such message.")
no_message = refl

its_body : body_at at_three (Some (fetched (Some 7) 3)) ≡ Some (codes "hi")
unfolding inbox at_three fetched
its_body = refl

-- the body of another message, or of one in a folder that was renewed
other_body : body_at at_three (Some (fetched (Some 7) 4)) ≡ None
unfolding inbox at_three fetched
other_body = refl

older_body : body_at at_three (Some (fetched (Some 8) 3)) ≡ None
unfolding inbox at_three fetched
older_body = refl

picture : bytes_answer (Some (part_with (codes "image/gif"))) ≡ record { status = 200; kind = kind.Picture (codes "image/gif"); body = body.Plain (codes "GIF") }
unfolding part_with
picture = refl

no_part : bytes_answer None ≡ fault_answer 404 (codes "No such part.")
no_part = refl

-- a picture that could have scripts is for the browser to save
saved : part_kind (codes "image/svg+xml") ≡ kind.Raw
saved = refl
