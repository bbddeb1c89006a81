-- What short talks tell.
use Rattle.std.proofs.Common.{◌≡◌, ℕ, ◌==◌, Bool, true, false, List, [], ◌∷◌, ◌++◌, refl, Option, Some, None}
use Rattle.std.specs.Prelude.{codes, pos, map}
use Rattle.std.specs.Option.{option_map}
use Rattle.imap_commands.specs.declared.command.Command.TheVariants as command
use Rattle.imap_grammar.specs.declared.response.Word.TheVariants as words
use Rattle.imap_grammar.specs.declared.response.Code.TheVariants as coding
use Rattle.imap_grammar.specs.ItemData.{Uid, Flags, Modseq, Internal, Size, Header, Body}
use Rattle.imap_grammar.specs.Response.ResponseData.{Continue, Tagged, State, Capability, Enabled, Mailbox, Expunge, Fetch, Vanished, Esearch}
use Rattle.mailbox_rows.specs.Mailboxes.{MailboxState}
use Rattle.mailbox_view.specs.Selections.{nth_box}
use Rattle.mailbox_view.specs.View.{lacking_capability, lacking_enabled, lacking_selected}
use Rattle.mailbox_view.specs.Events.{Event, Dialled, Said, Heard, view_of}

-- ---- what is asked of a view

abbrev uids : Option MailboxState → List ℕ
uids None = []
uids (Some box) = map (λ entry. entry.0) box.rows

abbrev mark : Option MailboxState → ℕ
mark None = 0
mark (Some box) = box.mark

-- the UIDs and the mark of the folder that was selected last; of the one before it
abbrev first : List Event → List ℕ × ℕ
first events = (uids (nth_box 0 (view_of events).boxes), mark (nth_box 0 (view_of events).boxes))

abbrev second : List Event → List ℕ × ℕ
second events = (uids (nth_box 1 (view_of events).boxes), mark (nth_box 1 (view_of events).boxes))

abbrev names : List Event → List (List ℕ)
names events = map (λ (box : MailboxState). box.name) (view_of events).boxes

abbrev is_selected : List Event → Bool
is_selected events = (view_of events).selection.is_selected

abbrev named : List Event → List (List ℕ) × Bool
named events = (names events, is_selected events)

-- ---- what is heard

abbrev ok : List ℕ → Event
ok tag = Heard (Tagged tag words.Ok None [])

abbrev no : List ℕ → Event
no tag = Heard (Tagged tag words.No None [])

abbrev validity : ℕ → Event
validity number = Heard (State words.Ok (Some (coding.Uidvalidity number)) [])

abbrev highest : ℕ → Event
highest modseq = Heard (State words.Ok (Some (coding.Highestmodseq modseq)) [])

abbrev closed : Event
closed = Heard (State words.Ok (Some coding.Closed) [])

abbrev row : ℕ → ℕ → Event
row uid modseq = Heard (Fetch 1 (Uid uid ∷ Flags [] ∷ Modseq modseq ∷ Internal (pos 0) ∷ Size 9 ∷ Header (Some []) ∷ []))

abbrev vanished : Bool → ℕ → Event
vanished earlier uid = Heard (Vanished earlier (λ one. one == uid))

abbrev inbox : List ℕ
inbox = codes "INBOX"

abbrev archive : List ℕ
archive = codes "Archive"

abbrev select : List ℕ → Event
select name = Said (command.Select name None)

-- ---- a folder with two rows: validity 8, UIDs 5 and 7, mark 20

abbrev opening : List Event
opening = Dialled true ∷ select inbox ∷ validity 8 ∷ highest 20 ∷ ok (codes "A1") ∷ Said (command.FetchNew 1) ∷ row 7 4 ∷ row 5 3 ∷ ok (codes "A2") ∷ []

rows_are_in_order : first opening ≡ (5 ∷ 7 ∷ [], 20)
rows_are_in_order = refl

mark_waits_for_the_answer : first (Dialled true ∷ select inbox ∷ highest 20 ∷ ok (codes "A1") ∷ Said (command.FetchNew 1) ∷ row 7 4 ∷ []) ≡ (7 ∷ [], 0)
mark_waits_for_the_answer = refl

mark_is_the_greatest_told : first (opening ++ Said (command.FetchChanged 20) ∷ Heard (Fetch 1 (Uid 5 ∷ Flags [] ∷ Modseq 31 ∷ [])) ∷ ok (codes "A3") ∷ []) ≡ (5 ∷ 7 ∷ [], 31)
mark_is_the_greatest_told = refl

fetch_from_a_later_uid_raises_no_mark : first (opening ++ Said (command.FetchNew 8) ∷ row 8 40 ∷ ok (codes "A3") ∷ []) ≡ (5 ∷ 7 ∷ 8 ∷ [], 20)
fetch_from_a_later_uid_raises_no_mark = refl

-- ---- messages that go

moved_away : first (opening ++ Said (command.Move 7 archive) ∷ vanished false 7 ∷ ok (codes "A3") ∷ []) ≡ (5 ∷ [], 20)
moved_away = refl

vanished_earlier : first (opening ++ Said (command.FetchChanged 20) ∷ vanished true 5 ∷ ok (codes "A3") ∷ []) ≡ (7 ∷ [], 20)
vanished_earlier = refl

expunge_forgets_all : first (opening ++ Said command.Noop ∷ Heard (Expunge 1) ∷ ok (codes "A3") ∷ []) ≡ ([], 0)
expunge_forgets_all = refl

-- ---- FETCH

abbrev flags_of : List Event → Option (List (List (List ℕ)))
flags_of events = option_map (λ (box : MailboxState). map (λ entry. entry.1.flags) box.rows) (nth_box 0 (view_of events).boxes)

kept_uid_is_changed : flags_of (opening ++ Said command.Noop ∷ Heard (Fetch 2 (Uid 7 ∷ Flags (codes "\\Seen" ∷ []) ∷ [])) ∷ []) ≡ Some ([] ∷ (codes "\\Seen" ∷ []) ∷ [])
kept_uid_is_changed = refl

unknown_uid_tells_nothing : first (opening ++ Said command.Noop ∷ Heard (Fetch 2 (Uid 6 ∷ Flags [] ∷ [])) ∷ []) ≡ (5 ∷ 7 ∷ [], 20)
unknown_uid_tells_nothing = refl

fetch_without_uid_tells_nothing : flags_of (opening ++ Said command.Noop ∷ Heard (Fetch 2 (Flags (codes "\\Seen" ∷ []) ∷ Modseq 50 ∷ [])) ∷ []) ≡ Some ([] ∷ [] ∷ [])
fetch_without_uid_tells_nothing = refl

header_of_nil_is_empty : first (opening ++ Said (command.FetchNew 8) ∷ Heard (Fetch 3 (Uid 9 ∷ Flags [] ∷ Modseq 1 ∷ Internal (pos 0) ∷ Size 0 ∷ Header None ∷ [])) ∷ []) ≡ (5 ∷ 7 ∷ 9 ∷ [], 20)
header_of_nil_is_empty = refl

body_makes_no_row : first (opening ++ Said (command.FetchBody 9) ∷ Heard (Fetch 3 (Uid 9 ∷ Body (Some (codes "x")) ∷ [])) ∷ ok (codes "A3") ∷ []) ≡ (5 ∷ 7 ∷ [], 20)
body_makes_no_row = refl

-- ---- SELECT

another_validity : first (opening ++ Dialled false ∷ select inbox ∷ validity 9 ∷ []) ≡ ([], 0)
another_validity = refl

same_validity : first (opening ++ Dialled false ∷ select inbox ∷ validity 8 ∷ []) ≡ (5 ∷ 7 ∷ [], 20)
same_validity = refl

left_folder_up_to_closed : second (opening ++ select archive ∷ vanished false 7 ∷ highest 90 ∷ closed ∷ validity 3 ∷ vanished false 5 ∷ ok (codes "A3") ∷ []) ≡ (5 ∷ [], 20)
left_folder_up_to_closed = refl

new_folder_after_closed : first (opening ++ select archive ∷ row 1 2 ∷ highest 90 ∷ closed ∷ highest 6 ∷ ok (codes "A3") ∷ Said (command.FetchNew 1) ∷ row 2 3 ∷ ok (codes "A4") ∷ []) ≡ (2 ∷ [], 6)
new_folder_after_closed = refl

no_folder_is_left_after_a_dial : first (opening ++ Dialled false ∷ select archive ∷ row 1 2 ∷ []) ≡ (1 ∷ [], 0)
no_folder_is_left_after_a_dial = refl

failed_select_selects_nothing : is_selected (opening ++ select archive ∷ closed ∷ no (codes "A3") ∷ []) ≡ false
failed_select_selects_nothing = refl

failed_select_keeps_its_folder : names (opening ++ select archive ∷ no (codes "A3") ∷ []) ≡ archive ∷ inbox ∷ []
failed_select_keeps_its_folder = refl

dial_selects_nothing : is_selected (opening ++ Dialled false ∷ []) ≡ false
dial_selects_nothing = refl

fresh_dial_empties : view_of (opening ++ Dialled true ∷ []) ≡ view_of []
fresh_dial_empties = refl

fifth_folder : names (opening ++ select (codes "b") ∷ select (codes "c") ∷ select inbox ∷ select (codes "d") ∷ select (codes "e") ∷ []) ≡ codes "e" ∷ codes "d" ∷ inbox ∷ codes "c" ∷ []
fifth_folder = refl

-- ---- a folder whose name is a literal

abbrev accented : List ℕ
accented = 195 ∷ 169 ∷ []

literal_waits : named (opening ++ select accented ∷ []) ≡ (inbox ∷ [], true)
literal_waits = refl

literal_begins_at_its_plus : names (opening ++ select accented ∷ Heard (Continue []) ∷ []) ≡ accented ∷ inbox ∷ []
literal_begins_at_its_plus = refl

literal_refused : named (opening ++ select accented ∷ no (codes "A3") ∷ []) ≡ (inbox ∷ [], false)
literal_refused = refl

-- ---- tags

other_tag_ends_nothing : first (Dialled true ∷ select inbox ∷ highest 20 ∷ ok (codes "A1") ∷ Said (command.FetchNew 1) ∷ row 7 4 ∷ ok (codes "B2") ∷ ok (codes "A1") ∷ ok (codes "A02") ∷ []) ≡ (7 ∷ [], 0)
other_tag_ends_nothing = refl

nothing_is_told_after_the_answer : first (opening ++ vanished false 5 ∷ []) ≡ (5 ∷ 7 ∷ [], 20)
nothing_is_told_after_the_answer = refl

searches_tell_no_row : first (opening ++ Said (command.Search (codes "x")) ∷ Heard (Esearch (codes "A3") None) ∷ Heard (Esearch (codes "A3") (Some (λ one. one == 5))) ∷ ok (codes "A3") ∷ []) ≡ (5 ∷ 7 ∷ [], 20)
searches_tell_no_row = refl

-- ---- folders

abbrev listed : List ℕ → Event
listed name = Heard (Mailbox [] name)

abbrev folders_of : List Event → List (List ℕ)
folders_of events = map (λ folder. folder.name) (view_of events).folders

folders_at_ok : folders_of (Dialled true ∷ Said command.List ∷ listed inbox ∷ listed archive ∷ ok (codes "A1") ∷ []) ≡ inbox ∷ archive ∷ []
folders_at_ok = refl

refused_list_tells_nothing : folders_of (Dialled true ∷ Said command.List ∷ listed inbox ∷ ok (codes "A1") ∷ Said command.List ∷ listed archive ∷ no (codes "A2") ∷ []) ≡ inbox ∷ []
refused_list_tells_nothing = refl

list_outside_of_a_list : folders_of (Dialled true ∷ Said command.List ∷ listed inbox ∷ ok (codes "A1") ∷ Said command.Noop ∷ listed archive ∷ ok (codes "A2") ∷ []) ≡ inbox ∷ []
list_outside_of_a_list = refl

-- ---- what a server lacks

lacks_qresync : lacking_capability (view_of (Dialled true ∷ Said command.Capability ∷ Heard (Capability (codes "imap4REV2" ∷ codes "IDLE" ∷ [])) ∷ ok (codes "A1") ∷ [])) ≡ Some (codes "QRESYNC")
lacks_qresync = refl

enables_qresync : lacking_enabled (view_of (Dialled true ∷ Said command.Enable ∷ Heard (Enabled (codes "QRESYNC" ∷ [])) ∷ ok (codes "A1") ∷ [])) ≡ None
enables_qresync = refl

lacks_validity : lacking_selected (view_of (opening ++ select archive ∷ validity 3 ∷ closed ∷ ok (codes "A3") ∷ [])) ≡ Some (codes "UIDVALIDITY")
lacks_validity = refl

lacks_modseq : lacking_selected (view_of (Dialled true ∷ select inbox ∷ validity 3 ∷ Heard (State words.Ok (Some coding.Nomodseq) []) ∷ ok (codes "A1") ∷ [])) ≡ Some (codes "MODSEQ")
lacks_modseq = refl
