-- What each step of a script comes to, after what was told (RFC 9051 §6, RFC 7162 §3.2.5).
use Rattle.std.specs.Prelude.{ℕ, ◌+◌, ◌-◌, ◌^◌, min, ◌==◌, nat_lt, Bool, true, false, if◌then◌else◌, List, [], length, slice_get, codes, find, Option, Some, None}
use Rattle.std.specs.List.{list_any}
use Rattle.std.specs.Map.{keys_of, lookup}
use Rattle.std.specs.Option.{unwrap_or, option_map}
use Rattle.std.specs.Str.{bytes_eq, is_utf8, str_eq_ignore_ascii_case}
use Rattle.account_pictures.specs.declared.records.Address.{Address}
use Rattle.site_asks.specs.declared.asks.Ask.{Ask}
use Rattle.imap_commands.specs.declared.command.Known.{Known}
use Rattle.imap_commands.specs.declared.command.Command.TheVariants as command
use Rattle.imap_commands.specs.declared.command.Label.TheVariants as label
use Rattle.imap_commands.specs.ReadBack.{FitsFieldTypes}
use Rattle.mailbox_rows.specs.declared.row.Folder.{Folder}
use Rattle.mailbox_rows.specs.declared.row.Row.{Row}
use Rattle.mailbox_rows.specs.Rows.{Rows, has_uid}
use Rattle.mailbox_rows.specs.Mailboxes.{MailboxState}
use Rattle.mailbox_view.specs.Selections.{box_named}
use Rattle.mailbox_view.specs.View.{ViewState, selected_box}
use Rattle.mail_talk.specs.declared.results.FetchedBody.{FetchedBody}
use Rattle.mail_talk.specs.States.{ToldState}
use Rattle.account_script.specs.declared.cause.Cause.TheVariants as cause
use Rattle.account_script.specs.declared.steps.Act.{Act}
use Rattle.account_script.specs.declared.steps.Act.TheVariants as act
use Rattle.account_script.specs.declared.steps.Credentials.{Credentials}
use Rattle.account_script.specs.declared.steps.Progress.{Progress}
use Rattle.account_script.specs.declared.steps.Step.{Step}
use Rattle.account_script.specs.declared.steps.Step.TheVariants as step
use Rattle.account_script.specs.Asks.{folder_of, address_of}

-- ---- folders

abbrev pub has_folder : List ℕ → List Folder → Bool
has_folder name folders = list_any (λ folder. bytes_eq folder.name name) folders

abbrev pub find_act : List ℕ → ToldState → Act
find_act name t = if has_folder name t.view.folders then act.Skip else act.Say command.List

abbrev pub need_act : List ℕ → ToldState → Act
need_act name t = if has_folder name t.view.folders then act.Skip else act.Stop cause.NoFolder

-- ---- selection

abbrev pub is_box_named : List ℕ → Option MailboxState → Bool
is_box_named name None = false
is_box_named name (Some box) = bytes_eq box.name name

abbrev pub is_selected : List ℕ → ViewState → Bool
is_selected name v = is_box_named name (selected_box v)

abbrev pub known_with : ℕ → ℕ → Known
known_with mark validity = record { validity = validity; mark = mark }

-- what is known of a folder that was selected before
abbrev pub known_of : Option MailboxState → Option Known
known_of None = None
known_of (Some box) = option_map (known_with box.mark) box.validity

abbrev pub enter_act : List ℕ → ToldState → Act
enter_act name t = if is_selected name t.view then act.Say command.Noop else act.Say (command.Select name (known_of (box_named name t.view.boxes)))

-- ---- rows

abbrev pub rows_of : Option MailboxState → Rows
rows_of None = []
rows_of (Some box) = box.rows

-- the last of some numbers, 0 if there is none
abbrev pub last_of : List ℕ → ℕ
last_of numbers = unwrap_or (slice_get numbers (length numbers - 1)) 0

-- the first UID after those of the rows, which ascend, or the greatest that there is
abbrev pub next_uid : Rows → ℕ
next_uid rows = min (last_of (keys_of rows) + 1) (2 ^ 32 - 1)

abbrev pub fetch_new_act : List ℕ → ToldState → Act
fetch_new_act name t = act.Say (command.FetchNew (next_uid (rows_of (box_named name t.view.boxes))))

-- without a mark no changes can be asked for
abbrev pub fetch_changed_act : ℕ → Act
fetch_changed_act mark = if mark == 0 then act.Skip else act.Say (command.FetchChanged mark)

-- ---- a message

-- the greatest message that is read
abbrev pub message_limit : ℕ
message_limit = 26214400

abbrev pub validity_of : Option MailboxState → ℕ
validity_of None = 0
validity_of (Some box) = unwrap_or box.validity 0

abbrev pub row_of : ℕ → Option MailboxState → Option Row
row_of uid box = lookup (has_uid uid) (rows_of box)

abbrev pub row_act : Option Row → Act
row_act None = act.Stop cause.NoMessage
row_act (Some row) = act.Skip

abbrev pub size_act : Option Row → Act
size_act None = act.Skip
size_act (Some row) = if nat_lt message_limit row.size then act.Stop (cause.LongMessage row.size) else act.Skip

abbrev pub checked : Address → Option MailboxState → Act
checked at box = if at.validity == validity_of box then row_act (row_of at.uid box) else act.Stop (cause.Renewed at.validity (validity_of box))

abbrev pub check_act : Option Address → ToldState → Act
check_act None t = act.Skip
check_act (Some at) t = checked at (box_named at.folder t.view.boxes)

abbrev pub check_size_act : Option Address → ToldState → Act
check_size_act None t = act.Skip
check_size_act (Some at) t = size_act (row_of at.uid (box_named at.folder t.view.boxes))

abbrev pub fetch_body_act : Option Address → Act
fetch_body_act None = act.Skip
fetch_body_act (Some at) = act.Say (command.FetchBody at.uid)

abbrev pub body_of : Option FetchedBody → Option (List ℕ)
body_of None = None
body_of (Some message) = message.body

abbrev pub body_act : Option (List ℕ) → Act
body_act None = act.Stop cause.NoMessage
body_act (Some body) = act.Skip

-- ---- special folders (RFC 6154 §2)

abbrev pub has_use : List ℕ → Folder → Bool
has_use attribute folder = list_any (λ one. str_eq_ignore_ascii_case one attribute) folder.attributes

abbrev pub text_or_none : List ℕ → Option (List ℕ)
text_or_none name = if is_utf8 name then Some name else None

abbrev pub name_or : List ℕ → Bool → Option Folder → Option (List ℕ)
name_or name told (Some folder) = text_or_none folder.name
name_or name told None = if told then Some name else None

-- the first folder with an attribute, or else the folder of a name; a name that is no text can't be said
abbrev pub special_folder : List ℕ → List ℕ → List Folder → Option (List ℕ)
special_folder attribute name folders = name_or name (has_folder name folders) (find (has_use attribute) folders)

-- the folder of sent messages
abbrev pub sent_of : List Folder → Option (List ℕ)
sent_of folders = special_folder (codes "\\Sent") (codes "Sent") folders

-- ---- a sent message

-- without a folder of sent messages there is no copy
abbrev pub copy_act : Option (List ℕ) → List ℕ → Act
copy_act None message = act.Skip
copy_act (Some folder) message = act.Say (command.Append folder (Some label.Seen) message)

-- ---- all steps

abbrev pub act_of : Step → Credentials → Ask → ToldState → Progress → Act
act_of step.Dial who ask t p = act.Dial
act_of step.LogIn who ask t p = act.Say (command.Login who.user who.password)
act_of step.AskCapabilities who ask t p = act.Say command.Capability
act_of step.Enable who ask t p = act.Say command.Enable
act_of step.List who ask t p = act.Say command.List
act_of step.Admit who ask t p = act.Skip
act_of step.Find who ask t p = find_act (folder_of ask) t
act_of step.Need who ask t p = need_act (folder_of ask) t
act_of step.Enter who ask t p = enter_act (folder_of ask) t
act_of step.FetchNew who ask t p = fetch_new_act (folder_of ask) t
act_of step.FetchChanged who ask t p = fetch_changed_act p.mark
act_of step.Check who ask t p = check_act (address_of ask) t
act_of step.CheckSize who ask t p = check_size_act (address_of ask) t
act_of step.FetchBody who ask t p = fetch_body_act (address_of ask)
act_of step.NeedBody who ask t p = body_act (body_of t.results.message)
act_of step.Noop who ask t p = act.Say command.Noop
act_of step.Copy who ask t p = act.Skip

-- the same of a script that copies a message
abbrev pub act_with : List ℕ → Step → Credentials → Ask → ToldState → Progress → Act
act_with message step.Copy who ask t p = copy_act (sent_of t.view.folders) message
act_with message other who ask t p = act_of other who ask t p

abbrev pub mark_of : Option MailboxState → ℕ
mark_of None = 0
mark_of (Some box) = box.mark

-- what is remembered from a step on: changes are asked for since the mark that was known before the new rows raise it
abbrev pub progress_of : Step → Ask → ToldState → Progress → Progress
progress_of step.Admit ask t p = record { up = true; mark = p.mark }
progress_of step.FetchNew ask t p = record { up = p.up; mark = mark_of (box_named (folder_of ask) t.view.boxes) }
progress_of other ask t p = p

-- the numbers of a command fit the types of its fields
abbrev pub IsFit : Act → Type 0
IsFit (act.Say one) = FitsFieldTypes one
IsFit other = Unit {0}
