-- Which folder responses concern (RFC 9051 §6.3.2, RFC 7162 §3.2.11).
use Rattle.std.specs.Prelude.{ℕ, zero, suc, max, Bool, true, false, not, if◌then◌else◌, List, [], ◌∷◌, take, Option, Some, None}
use Rattle.std.specs.Str.{bytes_eq}
use Rattle.mailbox_rows.specs.Mailboxes.{MailboxState, new_mailbox}
use Rattle.mailbox_view.specs.declared.selection.Selection.{Selection}

abbrev pub nothing_selected : Selection
nothing_selected = record { is_selected = false; concerned = None; is_leaving = false; was_ok = false; highest = 0; has_validity = false; has_no_modseq = false }

-- responses concern no folder until the next SELECT
abbrev pub muted : Selection → Selection
muted s = record { is_selected = false; concerned = None; is_leaving = s.is_leaving; was_ok = s.was_ok; highest = s.highest; has_validity = s.has_validity; has_no_modseq = s.has_no_modseq }

abbrev pub first_if : Bool → Option ℕ
first_if selected = if selected then Some 0 else None

-- the folder that is left is closed: responses concern the new one
abbrev pub entered : Selection → Selection
entered s = record { is_selected = s.is_selected; concerned = first_if s.is_selected; is_leaving = false; was_ok = s.was_ok; highest = s.highest; has_validity = s.has_validity; has_no_modseq = s.has_no_modseq }

-- a SELECT is answered OK
abbrev pub opened : Selection → Selection
opened s = record { is_selected = s.is_selected; concerned = first_if s.is_selected; is_leaving = false; was_ok = true; highest = s.highest; has_validity = s.has_validity; has_no_modseq = s.has_no_modseq }

-- what is told before CLOSED is of the old folder
abbrev pub with_highest : ℕ → Selection → Selection
with_highest modseq s =
    if s.is_leaving then s else record { is_selected = s.is_selected; concerned = s.concerned; is_leaving = false; was_ok = s.was_ok; highest = max s.highest modseq; has_validity = s.has_validity; has_no_modseq = s.has_no_modseq }

abbrev pub with_validity : Selection → Selection
with_validity s =
    if s.is_leaving then s else record { is_selected = s.is_selected; concerned = s.concerned; is_leaving = false; was_ok = s.was_ok; highest = s.highest; has_validity = true; has_no_modseq = s.has_no_modseq }

abbrev pub with_no_modseq : Selection → Selection
with_no_modseq s =
    if s.is_leaving then s else record { is_selected = s.is_selected; concerned = s.concerned; is_leaving = false; was_ok = s.was_ok; highest = s.highest; has_validity = s.has_validity; has_no_modseq = true }

-- ---- the folders of which rows are kept, the one selected last first

abbrev pub folder_limit : ℕ
folder_limit = 4

abbrev pub is_other : List ℕ → MailboxState → Bool
is_other name box = not (bytes_eq box.name name)

-- the folder of a name, which may be new
abbrev pub found : List ℕ → List MailboxState → MailboxState
found name [] = new_mailbox name
found name (box ∷ boxes) = if bytes_eq box.name name then box else found name boxes

-- the others
abbrev pub others : List ℕ → List MailboxState → List MailboxState
others name [] = []
others name (box ∷ boxes) = if bytes_eq box.name name then boxes else box ∷ others name boxes

-- a folder is selected: of five the least recently selected goes
abbrev pub moved : List ℕ → List MailboxState → List MailboxState
moved name boxes = take folder_limit (found name boxes ∷ others name boxes)

abbrev pub is_first : List ℕ → List MailboxState → Bool
is_first name [] = false
is_first name (box ∷ boxes) = bytes_eq box.name name

-- the place of the folder that was selected, after another or the same again was moved to the front
abbrev pub left_at : Bool → Selection → Option ℕ
left_at same s = if s.is_selected then (if same then Some 0 else Some 1) else None

-- a SELECT leaves a folder if the last one of this dial was answered OK. It may select the same again.
abbrev pub selecting : Bool → Selection → Selection
selecting same s =
    record { is_selected = true; concerned = if s.was_ok then left_at same s else Some 0; is_leaving = s.was_ok; was_ok = false; highest = 0; has_validity = false; has_no_modseq = false }

-- one of the folders is changed
abbrev pub with_nth : ℕ → (MailboxState → MailboxState) → List MailboxState → List MailboxState
with_nth n change [] = []
with_nth zero change (box ∷ boxes) = change box ∷ boxes
with_nth (suc n) change (box ∷ boxes) = box ∷ with_nth n change boxes

abbrev pub with_concerned : Option ℕ → (MailboxState → MailboxState) → List MailboxState → List MailboxState
with_concerned None change boxes = boxes
with_concerned (Some n) change boxes = with_nth n change boxes

abbrev pub nth_box : ℕ → List MailboxState → Option MailboxState
nth_box n [] = None
nth_box zero (box ∷ boxes) = Some box
nth_box (suc n) (box ∷ boxes) = nth_box n boxes

abbrev pub concerned_box : Option ℕ → List MailboxState → Option MailboxState
concerned_box None boxes = None
concerned_box (Some n) boxes = nth_box n boxes

abbrev pub box_named : List ℕ → List MailboxState → Option MailboxState
box_named name [] = None
box_named name (box ∷ boxes) = if bytes_eq box.name name then Some box else box_named name boxes
