-- What dials and commands tell of a talk with a mail server (RFC 9051 §2.2.1, §4.3, §6).
use Rattle.std.specs.Prelude.{◌+◌, ◌==◌, Bool, [], None, if◌then◌else◌}
use Rattle.imap_commands.specs.declared.command.Command.{Command}
use Rattle.imap_commands.specs.declared.command.Command.TheVariants as command
use Rattle.command_pieces.specs.declared.verb.Verb.{Verb}
use Rattle.command_pieces.specs.declared.verb.Verb.TheVariants as verbs
use Rattle.command_pieces.specs.Spoken.{Spoken}
use Rattle.command_pieces.specs.Spoken.Spoken.{Complete, Pieces, Partial}
use Rattle.mailbox_view.specs.Selections.{concerned_box}
use Rattle.mailbox_view.specs.View.{ViewState, after_dial, begun, with_select, with_select_soon, with_command}
use Rattle.mail_talk.specs.declared.phase.Phase.{Phase}
use Rattle.mail_talk.specs.declared.phase.Phase.TheVariants as phase
use Rattle.mail_talk.specs.Results.{ResultsState, results_said, results_begun, results_dialled}
use Rattle.mail_talk.specs.States.{ToldState, is_idle, is_piece, with_phase}
use Rattle.mail_talk.specs.Units.{TalkState, drained}

-- ---- dials

-- a fresh dial empties all that was told
abbrev pub dialled : Bool → ToldState → ToldState
dialled fresh t = record { view = after_dial fresh t.view; results = results_dialled fresh t.results; phase = phase.Greeting; answer = None; excess = None }

-- the bytes of a dial are its own
abbrev pub after_dialled : Bool → TalkState → TalkState
after_dialled fresh s = record { told = dialled fresh s.told; rest = []; at = 0; from = 0 }

-- ---- commands

-- a command begins: it has the next number
abbrev pub opened : ToldState → ToldState
opened t = record { view = begun t.view; results = t.results; phase = t.phase; answer = None; excess = None }

abbrev pub with_command_told : ViewState → ResultsState → Phase → ToldState → ToldState
with_command_told view results phase t = record { view = view; results = results; phase = phase; answer = t.answer; excess = t.excess }

-- a SELECT whose folder comes in its next piece selects nothing if it ends before
abbrev pub view_begun : Verb → ViewState → ViewState
view_begun verbs.Select v = with_select_soon [] v
view_begun verb v = v

-- a whole command, whose `+` came if one was awaited: the selection of a folder begins
abbrev pub view_said : Command → ViewState → ViewState
view_said (command.Select folder known) v = with_select folder v
view_said one v = with_command one v

-- the first of several pieces
abbrev pub first_piece : Verb → ToldState → ToldState
first_piece verb t = with_command_told (view_begun verb t.view) (results_begun verb t.results) phase.Request t

-- a command in one piece
abbrev pub only_piece : Command → ToldState → ToldState
only_piece one t = with_command_told (view_said one t.view) (results_said one (concerned_box t.view.selection.concerned t.view.boxes) t.results) phase.Answer t

-- the last of several pieces
abbrev pub last_piece : Command → ToldState → ToldState
last_piece one t = with_command_told (view_said one t.view) t.results phase.Answer t

-- a command was said from here on
abbrev pub from_here : ToldState → TalkState → TalkState
from_here t s = record { told = t; rest = s.rest; at = s.at; from = s.at }

abbrev pub with_told : ToldState → TalkState → TalkState
with_told t s = record { told = t; rest = s.rest; at = s.at; from = s.from }

abbrev pub after_began : Verb → TalkState → TalkState
after_began verb s = drained (from_here (first_piece verb (opened s.told)) s)

abbrev pub after_said : Command → TalkState → TalkState
after_said one s = drained (from_here (only_piece one (opened s.told)) s)

-- another piece, which is not the last
abbrev pub after_went_on : TalkState → TalkState
after_went_on s = drained (with_told (with_phase phase.Request s.told) s)

abbrev pub after_completed : Command → TalkState → TalkState
after_completed one s = drained (with_told (last_piece one s.told) s)

-- a command is said only after the answer to the one before, and a later piece only after its `+`
abbrev pub if_idle : (TalkState → TalkState) → TalkState → TalkState
if_idle change s = if is_idle s.told.phase then change s else s

abbrev pub if_piece : (TalkState → TalkState) → TalkState → TalkState
if_piece change s = if is_piece s.told.phase then change s else s

-- ---- what was said, by its bytes

-- a command has the next number in its tag
abbrev pub after_first : Spoken → Verb → TalkState → TalkState
after_first (Complete tag one) verb s = if tag == s.told.view.number + 1 then after_said one s else s
after_first Pieces verb s = after_began verb s
after_first Partial verb s = s

abbrev pub after_next : Spoken → TalkState → TalkState
after_next (Complete tag one) s = if tag == s.told.view.number then after_completed one s else s
after_next Pieces s = after_went_on s
after_next Partial s = s

-- bytes that are said while the server is to say something, or without a dial, are no command
abbrev pub after_spoken : Phase → Spoken → Verb → TalkState → TalkState
after_spoken phase.Idle spoken verb s = after_first spoken verb s
after_spoken phase.Piece spoken verb s = after_next spoken s
after_spoken other spoken verb s = s
