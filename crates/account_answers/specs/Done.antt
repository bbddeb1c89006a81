-- What an account answers if the script of an ask came to its end.
use Rattle.std.specs.Prelude.{ℕ, Bool, true, false, ◌&&◌, ◌||◌, ◌==◌, if◌then◌else◌, List, codes, encode_utf8_all, Option, Some, None, is_some}
use Rattle.std.specs.Str.{bytes_eq}
use Rattle.account_pictures.specs.declared.records.Address.{Address}
use Rattle.site_asks.specs.declared.asks.Ask.{Ask}
use Rattle.site_asks.specs.declared.asks.Ask.TheVariants as ask
use Rattle.site_asks.specs.declared.replies.Kind.{Kind}
use Rattle.site_asks.specs.declared.replies.Kind.TheVariants as kind
use Rattle.transfer_codings.specs.Codings.{decoded}
use Rattle.mime_tree.specs.Best.{part_at}
use Rattle.mime_tree.specs.Opening.{tree_of}
use Rattle.mime_tree.specs.Tree.{PartValue}
use Rattle.mailbox_rows.specs.Rows.{Rows}
use Rattle.mailbox_rows.specs.Mailboxes.{MailboxState}
use Rattle.mailbox_view.specs.Selections.{box_named}
use Rattle.mail_talk.specs.declared.results.FetchedBody.{FetchedBody}
use Rattle.mail_talk.specs.States.{ToldState}
use Rattle.page_writer.specs.Page.{spell}
use Rattle.page_frames.specs.Pages.{IsFramePage}
use Rattle.form_pages.specs.Others.{fault_page}
use Rattle.folder_pages.specs.Folders.{folder_page}
use Rattle.folder_pages.specs.Tables.{list_page}
use Rattle.mail_pages.specs.declared.frame.Frame.{Frame}
use Rattle.mail_pages.specs.declared.frame.Frame.TheVariants as frame
use Rattle.mail_pages.specs.ShowPage.{page_bytes, shown_at, IsSafe}
use Rattle.account_answers.specs.declared.answer.Answer.{Answer}
use Rattle.account_answers.specs.declared.answer.Body.TheVariants as body
use Rattle.account_answers.specs.Answers.{fault_answer}

-- a page that was asked for
abbrev pub page_answer : Bool → List ℕ → Answer
page_answer images bytes = record { status = 200; kind = kind.Page images; body = body.Page bytes }

-- ---- Folders

abbrev pub folders_answer : ToldState → Answer
folders_answer t = page_answer false (encode_utf8_all (spell (folder_page t.view.folders)))

-- ---- List

abbrev pub no_folder : List ℕ
no_folder = codes "No such folder."

-- the rows of a folder with this UIDVALIDITY, if one is known
abbrev pub rows_answer : List ℕ → ℕ → Option ℕ → Rows → Answer
rows_answer folder page None rows = fault_answer 404 no_folder
rows_answer folder page (Some validity) rows = page_answer false (encode_utf8_all (spell (list_page folder validity rows page)))

abbrev pub list_answer : List ℕ → ℕ → Option MailboxState → Answer
list_answer folder page None = fault_answer 404 no_folder
list_answer folder page (Some box) = rows_answer folder page box.validity box.rows

-- ---- Show

abbrev pub no_message : List ℕ
no_message = codes "No such message."

abbrev pub no_part : List ℕ
no_part = codes "No such part."

abbrev pub is_validity : Option ℕ → ℕ → Bool
is_validity None validity = false
is_validity (Some one) validity = one == validity

-- whether a body was fetched as that of the message at an address
abbrev pub is_at : Address → FetchedBody → Bool
is_at at m = bytes_eq m.folder at.folder && is_validity m.validity at.validity && (m.uid == at.uid)

-- the body of the message at an address, if it was fetched last
abbrev pub body_at : Address → Option FetchedBody → Option (List ℕ)
body_at at None = None
body_at at (Some m) = if is_at at m then m.body else None

-- a message, if it has the text that is to be shown
abbrev pub message_answer : Frame → List ℕ → Option (List ℕ) → Bool → Answer
message_answer place message part images =
    if is_some (shown_at message part) then page_answer images (page_bytes place message part images) else fault_answer 404 no_part

abbrev pub show_answer : Frame → Option (List ℕ) → Option (List ℕ) → Bool → Answer
show_answer place None part images = fault_answer 404 no_message
show_answer place (Some message) part images = message_answer place message part images

-- ---- Part

-- the media types that a browser may show
abbrev pub is_picture : List ℕ → Bool
is_picture mime = bytes_eq mime (codes "image/png") || bytes_eq mime (codes "image/jpeg") || bytes_eq mime (codes "image/gif") || bytes_eq mime (codes "image/webp")

abbrev pub part_kind : List ℕ → Kind
part_kind mime = if is_picture mime then kind.Picture mime else kind.Raw

-- the decoded bytes of a part
abbrev pub bytes_answer : Option PartValue → Answer
bytes_answer None = fault_answer 404 no_part
bytes_answer (Some p) = record { status = 200; kind = part_kind p.mime; body = body.Plain (decoded p.coding p.bytes) }

abbrev pub part_answer : List ℕ → Option (List ℕ) → Answer
part_answer section None = fault_answer 404 no_message
part_answer section (Some message) = bytes_answer (part_at section (tree_of message).parts)

-- ---- all asks

-- The answer of an ask that has a script (`has_script` of account_script). The key is that of the session's forms. What is said of other
-- asks is never answered.
abbrev pub answer_of_done : Ask → List ℕ → ToldState → Answer
answer_of_done ask.Folders key t = folders_answer t
answer_of_done (ask.List folder page) key t = list_answer folder page (box_named folder t.view.boxes)
answer_of_done (ask.Show at part images) key t = show_answer (frame.Session at key) (body_at at t.results.message) part images
answer_of_done (ask.Part at section) key t = part_answer section (body_at at t.results.message)
answer_of_done other key t = fault_answer 404 no_message

-- ---- what a browser makes of it

abbrev pub IsSafeRows : List ℕ → ℕ → Option ℕ → Rows → Type 0
IsSafeRows folder page None rows = IsFramePage (fault_page 404 no_folder true)
IsSafeRows folder page (Some validity) rows = IsFramePage (list_page folder validity rows page)

abbrev pub IsSafeList : List ℕ → ℕ → Option MailboxState → Type 0
IsSafeList folder page None = IsFramePage (fault_page 404 no_folder true)
IsSafeList folder page (Some box) = IsSafeRows folder page box.validity box.rows

abbrev pub IsSafeMessage : Bool → Frame → List ℕ → Option (List ℕ) → Bool → Type 0
IsSafeMessage true place message part images = IsSafe place message part images
IsSafeMessage false place message part images = IsFramePage (fault_page 404 no_part true)

abbrev pub IsSafeShow : Frame → Option (List ℕ) → Option (List ℕ) → Bool → Type 0
IsSafeShow place None part images = IsFramePage (fault_page 404 no_message true)
IsSafeShow place (Some message) part images = IsSafeMessage (is_some (shown_at message part)) place message part images

abbrev pub IsSafeBytes : Option PartValue → Type 0
IsSafeBytes None = IsFramePage (fault_page 404 no_part true)
IsSafeBytes (Some p) = Unit {0}

abbrev pub IsSafePart : List ℕ → Option (List ℕ) → Type 0
IsSafePart section None = IsFramePage (fault_page 404 no_message true)
IsSafePart section (Some message) = IsSafeBytes (part_at section (tree_of message).parts)

-- A browser reads a page as its tokens, and loads of itself the style sheet alone, but for the page of a message (`IsSafe` of
-- mail_pages). The bytes of a part are no page.
abbrev pub IsSafeDone : Ask → List ℕ → ToldState → Type 0
IsSafeDone ask.Folders key t = IsFramePage (folder_page t.view.folders)
IsSafeDone (ask.List folder page) key t = IsSafeList folder page (box_named folder t.view.boxes)
IsSafeDone (ask.Show at part images) key t = IsSafeShow (frame.Session at key) (body_at at t.results.message) part images
IsSafeDone (ask.Part at section) key t = IsSafePart section (body_at at t.results.message)
IsSafeDone other key t = Unit {0}
