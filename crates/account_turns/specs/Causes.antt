-- Why a command, or a greeting, is no reason to go on: the first cause that holds at its end.
use Rattle.std.specs.Prelude.{ℕ, ◌+◌, Bool, true, false, not, ◌&&◌, nat_le, if◌then◌else◌, List, length, Option, Some, None}
use Rattle.std.specs.Option.{option_map}
use Rattle.imap_commands.specs.declared.command.Command.{Command}
use Rattle.imap_commands.specs.declared.command.Command.TheVariants as command
use Rattle.account_turns.specs.declared.endings.Last.{Last}
use Rattle.account_turns.specs.declared.endings.Last.TheVariants as lasts
use Rattle.imap_grammar.specs.declared.response.Word.{Word}
use Rattle.imap_grammar.specs.declared.response.Word.TheVariants as word
use Rattle.mailbox_view.specs.View.{ViewState, lacking_capability, lacking_enabled, lacking_selected}
use Rattle.mail_talk.specs.declared.answer.Answer.{Answer}
use Rattle.mail_talk.specs.declared.answer.Excess.{Excess}
use Rattle.mail_talk.specs.declared.phase.Phase.{Phase}
use Rattle.mail_talk.specs.declared.phase.Phase.TheVariants as phase
use Rattle.mail_talk.specs.States.{is_listening}
use Rattle.mail_talk.specs.Units.{TalkState, heard_count, heard_limit}
use Rattle.account_script.specs.declared.cause.Cause.{Cause}
use Rattle.account_script.specs.declared.cause.Cause.TheVariants as cause

-- what a command means for its answer
abbrev pub last_of : Command → Last
last_of (command.Login user password) = lasts.Login
last_of command.Capability = lasts.Capability
last_of command.Enable = lasts.Enable
last_of (command.Select folder known) = lasts.Select
last_of other = lasts.Other

-- the server is to say something, and less was heard for the command than is heard at most
abbrev pub is_open : TalkState → Bool
is_open s = is_listening s.told.phase && not (nat_le heard_limit (heard_count s))

abbrev pub cause_or : Option Cause → Option Cause → Option Cause
cause_or None later = later
cause_or (Some one) later = Some one

-- ---- damage

-- the number of bytes that were heard since the dial
abbrev pub heard_len : TalkState → ℕ
heard_len s = s.at + length s.rest

abbrev pub is_ok : Word → Bool
is_ok word.Ok = true
is_ok other = false

-- an OK while the next piece of its command was not said yet
abbrev pub is_early_ok : Option Answer → Bool
is_early_ok None = false
is_early_ok (Some a) = a.is_early && is_ok a.word

-- bytes that are no response; an early OK; or more bytes than are heard, or a `+` that nothing is left to be said for
abbrev pub damage_in : Phase → TalkState → Option Cause
damage_in phase.Damaged s = Some (cause.Damaged s.at)
damage_in phase.Idle s = if is_early_ok s.told.answer then Some (cause.Damaged (heard_len s)) else None
damage_in other s = Some (cause.Damaged (heard_len s))

-- ---- limits

abbrev pub too_many : Excess → Cause
too_many excess = cause.TooMany excess.rows excess.bytes

-- ---- refusals

-- a refused LOGIN leads to the login page; any other refusal has its number and text
abbrev pub refusal : Last → ℕ → List ℕ → Cause
refusal lasts.Login number text = cause.NoLogin text
refusal _ number text = cause.Server number text

abbrev pub refused_of : Last → ℕ → Option Answer → Option Cause
refused_of last number None = None
refused_of last number (Some a) = if is_ok a.word then None else Some (refusal last number a.text)

-- ---- what a server lacks, by its answers

abbrev pub lacks_of : Last → ViewState → Option (List ℕ)
lacks_of lasts.Capability v = lacking_capability v
lacks_of lasts.Enable v = lacking_enabled v
lacks_of lasts.Select v = lacking_selected v
lacks_of _ v = None

abbrev pub lacking : List ℕ → Cause
lacking name = cause.Lacking name

-- the first cause that holds at the end of a command, or of the greeting
unfoldable pub cause_of : Last → TalkState → Option Cause
cause_of last s =
    cause_or (damage_in s.told.phase s)
    (cause_or (option_map too_many s.told.excess)
    (cause_or (refused_of last s.told.view.number s.told.answer)
    (option_map lacking (lacks_of last s.told.view))))

-- after these causes the account is down
abbrev pub keeps_up : Cause → Bool
keeps_up (cause.Damaged at) = false
keeps_up (cause.Lacking name) = false
keeps_up other = true
