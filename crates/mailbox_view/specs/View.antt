-- What dials, commands and responses tell, in order (RFC 9051, RFC 7162).
use Rattle.std.specs.Prelude.{ℕ, ◌+◌, ◌-◌, ◌*◌, ◌==◌, max, Bool, true, false, not, ◌||◌, ◌&&◌, if◌then◌else◌, List, [], ◌∷◌, ◌++◌, codes, Option, Some, None}
use Rattle.mail_values.specs.Ascii.{digit_zero, is_digit}
use Rattle.std.specs.List.{fold, list_any, list_all}
use Rattle.std.specs.Option.{unwrap_or}
use Rattle.imap_values.specs.Words.{eq_ignore_case}
use Rattle.imap_commands.specs.Pieces.{is_quotable}
use Rattle.imap_commands.specs.declared.command.Command.{Command}
use Rattle.imap_commands.specs.declared.command.Command.TheVariants as command
use Rattle.imap_grammar.specs.declared.response.Word.{Word}
use Rattle.imap_grammar.specs.declared.response.Word.TheVariants as words
use Rattle.imap_grammar.specs.declared.response.Code.{Code}
use Rattle.imap_grammar.specs.declared.response.Code.TheVariants as coding
use Rattle.imap_grammar.specs.Response.{ResponseData}
use Rattle.imap_grammar.specs.Response.ResponseData.{Continue, Tagged, State, Capability, Enabled, Mailbox, Exists, Expunge, Fetch, Vanished, Esearch, Other}
use Rattle.mailbox_rows.specs.declared.row.Folder.{Folder}
use Rattle.mailbox_rows.specs.declared.row.Fields.{Fields}
use Rattle.mailbox_rows.specs.Rows.{without}
use Rattle.mailbox_rows.specs.Mailboxes.{MailboxState, with_rows, emptied, renewed, raised}
use Rattle.mailbox_view.specs.declared.abilities.Abilities.{Abilities}
use Rattle.mailbox_view.specs.declared.awaited.Awaited.{Awaited}
use Rattle.mailbox_view.specs.declared.awaited.Awaited.TheVariants as awaits
use Rattle.mailbox_view.specs.Fetched.{fields_of, with_fetch}
use Rattle.mailbox_view.specs.Fetches.{excess_in}
use Rattle.mailbox_view.specs.declared.selection.Selection.{Selection}
use Rattle.mailbox_view.specs.Selections.{nothing_selected, muted, entered, opened, with_highest, with_validity, with_no_modseq, moved, selecting, with_concerned, concerned_box, nth_box, is_first}

pub record ViewState : Type 0 where
  -- the number of the last command of this dial
  pub number : ℕ
  pub awaited : Awaited
  -- the folder of a SELECT that begins at the server's `+`
  pub soon : List ℕ
  -- the greatest MODSEQ told with a UID since the last command was said
  pub modseq : ℕ
  -- the LIST responses of the last List that was answered OK, and those of the List that is awaited
  pub folders : List Folder
  pub listed : List Folder
  -- at most four folders that were selected, the last one first
  pub boxes : List MailboxState
  pub selection : Selection
  pub abilities : Abilities

abbrev pub no_abilities : Abilities
no_abilities = record { names_rev2 = false; names_qresync = false; enables_qresync = false }

abbrev pub empty_view : ViewState
empty_view = record { number = 0; awaited = awaits.Nothing; soon = []; modseq = 0; folders = []; listed = []; boxes = []; selection = nothing_selected; abilities = no_abilities }

abbrev pub without_names : Abilities → Abilities
without_names a = record { names_rev2 = false; names_qresync = false; enables_qresync = a.enables_qresync }

abbrev pub without_enabled : Abilities → Abilities
without_enabled a = record { names_rev2 = a.names_rev2; names_qresync = a.names_qresync; enables_qresync = false }

-- ---- parts that change

abbrev pub with_boxes : ViewState → List MailboxState → ViewState
with_boxes v boxes = record { number = v.number; awaited = v.awaited; soon = v.soon; modseq = v.modseq; folders = v.folders; listed = v.listed; boxes = boxes; selection = v.selection; abilities = v.abilities }

abbrev pub with_selection : ViewState → Selection → ViewState
with_selection v selection = record { number = v.number; awaited = v.awaited; soon = v.soon; modseq = v.modseq; folders = v.folders; listed = v.listed; boxes = v.boxes; selection = selection; abilities = v.abilities }

abbrev pub with_awaited : ViewState → Awaited → ViewState
with_awaited v awaited = record { number = v.number; awaited = awaited; soon = v.soon; modseq = v.modseq; folders = v.folders; listed = v.listed; boxes = v.boxes; selection = v.selection; abilities = v.abilities }

abbrev pub with_abilities : ViewState → Abilities → ViewState
with_abilities v abilities = record { number = v.number; awaited = v.awaited; soon = v.soon; modseq = v.modseq; folders = v.folders; listed = v.listed; boxes = v.boxes; selection = v.selection; abilities = abilities }

-- the folder that responses concern is changed
abbrev pub in_box : (MailboxState → MailboxState) → ViewState → ViewState
in_box change v = with_boxes v (with_concerned v.selection.concerned change v.boxes)

-- ---- dials

-- a fresh dial empties all; another leaves the folders and the rows, and selects nothing
abbrev pub after_dial : Bool → ViewState → ViewState
after_dial true v = empty_view
after_dial false v = record { number = 0; awaited = awaits.Nothing; soon = []; modseq = 0; folders = v.folders; listed = []; boxes = v.boxes; selection = nothing_selected; abilities = v.abilities }

-- ---- commands

-- a command is said, with the next number
abbrev pub begun : ViewState → ViewState
begun v = record { number = v.number + 1; awaited = awaits.Other; soon = []; modseq = 0; folders = v.folders; listed = []; boxes = v.boxes; selection = v.selection; abilities = v.abilities }

-- the selection of a folder begins: whatever the answer will be, the folder is among the four
abbrev pub with_select : List ℕ → ViewState → ViewState
with_select name v =
    record { number = v.number; awaited = awaits.Select; soon = []; modseq = v.modseq; folders = v.folders; listed = v.listed; boxes = moved name v.boxes; selection = selecting (is_first name v.boxes) v.selection; abilities = v.abilities }

-- a folder that is a literal is named after the server's `+`
abbrev pub with_select_soon : List ℕ → ViewState → ViewState
with_select_soon name v =
    record { number = v.number; awaited = awaits.SelectSoon; soon = name; modseq = v.modseq; folders = v.folders; listed = v.listed; boxes = v.boxes; selection = v.selection; abilities = v.abilities }

abbrev pub with_quotable : Bool → List ℕ → ViewState → ViewState
with_quotable quotable name v = if quotable then with_select name v else with_select_soon name v

-- only a FETCH of all rows raises the mark
abbrev pub awaited_of_new : ℕ → Awaited
awaited_of_new from = if from == 1 then awaits.Changes else awaits.Other

abbrev pub with_command : Command → ViewState → ViewState
with_command command.Capability v = with_abilities (with_awaited v awaits.Capability) (without_names v.abilities)
with_command command.Enable v = with_abilities (with_awaited v awaits.Enable) (without_enabled v.abilities)
with_command command.List v = with_awaited v awaits.List
with_command (command.Select folder known) v = with_quotable (is_quotable folder) folder v
with_command (command.FetchNew from) v = with_awaited v (awaited_of_new from)
with_command (command.FetchChanged mark) v = with_awaited v awaits.Changes
with_command other v = v

abbrev pub after_said : Command → ViewState → ViewState
after_said one v = with_command one (begun v)

-- ---- responses

-- a `+` that a SELECT waits for begins its selection
abbrev pub after_plus : Awaited → ViewState → ViewState
after_plus awaits.SelectSoon v = with_select v.soon v
after_plus awaited v = v

-- codes, of tagged and untagged status responses alike
abbrev pub after_closed : Bool → ViewState → ViewState
after_closed leaving v = if leaving then with_selection v (entered v.selection) else v

abbrev pub after_code : Option Code → ViewState → ViewState
after_code None v = v
after_code (Some (coding.Uidvalidity validity)) v = in_box (renewed validity) (with_selection v (with_validity v.selection))
after_code (Some (coding.Highestmodseq modseq)) v = with_selection v (with_highest modseq v.selection)
after_code (Some coding.Nomodseq) v = with_selection v (with_no_modseq v.selection)
after_code (Some coding.Closed) v = after_closed v.selection.is_leaving v
after_code (Some coding.Unread) v = v

-- an OK: the folders are those listed; the selection stays; all changes up to the mark are known
abbrev pub after_ok : Awaited → ViewState → ViewState
after_ok awaits.List v = record { number = v.number; awaited = v.awaited; soon = v.soon; modseq = v.modseq; folders = v.listed; listed = []; boxes = v.boxes; selection = v.selection; abilities = v.abilities }
after_ok awaits.Select v = with_selection v (opened v.selection)
after_ok awaits.SelectSoon v = with_selection v nothing_selected
after_ok awaits.Changes v = in_box (raised (max v.modseq v.selection.highest)) v
after_ok awaited v = v

-- a SELECT that fails selects nothing
abbrev pub after_no : Awaited → ViewState → ViewState
after_no awaits.Select v = with_selection v nothing_selected
after_no awaits.SelectSoon v = with_selection v nothing_selected
after_no awaited v = v

abbrev pub after_answer : Word → ViewState → ViewState
after_answer words.Ok v = with_awaited (after_ok v.awaited v) awaits.Nothing
after_answer word v = with_awaited (after_no v.awaited v) awaits.Nothing

-- the tag of a command is `A` and its number, without leading zeros; an answer with another tag tells nothing
abbrev pub with_digit : ℕ → ℕ → ℕ
with_digit number digit = 10 * number + (digit - digit_zero)

abbrev pub numeral_value : List ℕ → ℕ
numeral_value digits = fold with_digit 0 digits

abbrev pub is_numeral : List ℕ → Bool
is_numeral [] = false
is_numeral (c ∷ digits) = not (c == digit_zero) && list_all is_digit (c ∷ digits)

abbrev pub is_tag : List ℕ → ℕ → Bool
is_tag [] number = false
is_tag (letter ∷ digits) number = letter == 65 && (is_numeral digits && numeral_value digits == number)

abbrev pub after_tagged : Bool → Word → Option Code → ViewState → ViewState
after_tagged own word code v = if own then after_answer word (after_code code v) else v

abbrev pub has_word : List ℕ → List (List ℕ) → Bool
has_word word names = list_any (eq_ignore_case word) names

abbrev pub with_names : List (List ℕ) → Abilities → Abilities
with_names names a = record { names_rev2 = has_word (codes "imap4rev2") names || a.names_rev2; names_qresync = has_word (codes "qresync") names || a.names_qresync; enables_qresync = a.enables_qresync }

abbrev pub with_enabled : List (List ℕ) → Abilities → Abilities
with_enabled names a = record { names_rev2 = a.names_rev2; names_qresync = a.names_qresync; enables_qresync = has_word (codes "qresync") names || a.enables_qresync }

abbrev pub after_capability : Awaited → List (List ℕ) → ViewState → ViewState
after_capability awaits.Capability names v = with_abilities v (with_names names v.abilities)
after_capability awaited names v = v

abbrev pub after_enabled : Awaited → List (List ℕ) → ViewState → ViewState
after_enabled awaits.Enable names v = with_abilities v (with_enabled names v.abilities)
after_enabled awaited names v = v

abbrev pub after_list : Awaited → Folder → ViewState → ViewState
after_list awaits.List folder v =
    record { number = v.number; awaited = v.awaited; soon = v.soon; modseq = v.modseq; folders = v.folders; listed = v.listed ++ folder ∷ []; boxes = v.boxes; selection = v.selection; abilities = v.abilities }
after_list awaited folder v = v

-- ---- FETCH

abbrev pub with_modseq : ℕ → ViewState → ViewState
with_modseq modseq v = record { number = v.number; awaited = v.awaited; soon = v.soon; modseq = max v.modseq modseq; folders = v.folders; listed = v.listed; boxes = v.boxes; selection = v.selection; abilities = v.abilities }

-- a folder that would have too many rows has none, and tells nothing until its next SELECT
abbrev pub after_excess : Option (ℕ × ℕ) → ViewState → ViewState
after_excess None v = v
after_excess (Some numbers) v = with_selection v (muted v.selection)

abbrev pub after_fetched : ℕ → Fields → ViewState → ViewState
after_fetched uid fields v = after_excess (excess_in uid fields (concerned_box v.selection.concerned v.boxes)) (in_box (with_fetch uid fields) v)

abbrev pub after_fetch : Option ℕ → Fields → ViewState → ViewState
after_fetch None fields v = v
after_fetch (Some uid) fields v = after_fetched uid fields (with_modseq (unwrap_or fields.modseq 0) v)

-- ---- all responses

abbrev pub told : ResponseData → ViewState → ViewState
told (Continue text) v = after_plus v.awaited v
told (Tagged tag word code text) v = after_tagged (is_tag tag v.number) word code v
told (State word code text) v = after_code code v
told (Capability names) v = after_capability v.awaited names v
told (Enabled names) v = after_enabled v.awaited names v
told (Mailbox attributes name) v = after_list v.awaited (record { name = name; attributes = attributes }) v
told (Exists n) v = v
told (Expunge n) v = in_box emptied v
told (Fetch n items) v = after_fetch (fields_of items).uid (fields_of items) v
told (Vanished earlier uids) v = in_box (λ box. with_rows box (without uids box.rows)) v
told (Esearch tag uids) v = v
told Other v = v

-- a response tells something only while a command awaits its answer
abbrev pub is_awaiting : Awaited → Bool
is_awaiting awaits.Nothing = false
is_awaiting awaited = true

abbrev pub after_response : ResponseData → ViewState → ViewState
after_response response v = if is_awaiting v.awaited then told response v else v

-- the numbers of rows and of header bytes that a response would give its folder, if they are too many
abbrev pub excess_fetched : Option ℕ → Fields → ViewState → Option (ℕ × ℕ)
excess_fetched None fields v = None
excess_fetched (Some uid) fields v = excess_in uid fields (concerned_box v.selection.concerned v.boxes)

abbrev pub excess_told : ResponseData → ViewState → Option (ℕ × ℕ)
excess_told (Fetch n items) v = excess_fetched (fields_of items).uid (fields_of items) v
excess_told response v = None

abbrev pub excess : ResponseData → ViewState → Option (ℕ × ℕ)
excess response v = if is_awaiting v.awaited then excess_told response v else None

-- ---- what is shown

abbrev pub selected_box : ViewState → Option MailboxState
selected_box v = if v.selection.is_selected then nth_box 0 v.boxes else None

-- ---- what a server lacks, by its answers

abbrev pub lacking_capability : ViewState → Option (List ℕ)
lacking_capability v = if not v.abilities.names_rev2 then Some (codes "IMAP4rev2") else (if not v.abilities.names_qresync then Some (codes "QRESYNC") else None)

abbrev pub lacking_enabled : ViewState → Option (List ℕ)
lacking_enabled v = if v.abilities.enables_qresync then None else Some (codes "QRESYNC")

abbrev pub lacking_selected : ViewState → Option (List ℕ)
lacking_selected v = if v.selection.has_no_modseq then Some (codes "MODSEQ") else (if v.selection.has_validity then None else Some (codes "UIDVALIDITY"))
