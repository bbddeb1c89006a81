-- The number of the last command after its pieces are said.
use Rattle.std.proofs.Common.{◌≡◌, ◌+◌, Bool, true, false, cond, refl, ap, ◌∙◌}
use Rattle.imap_commands.specs.declared.command.Command.{Command}
use Rattle.imap_commands.specs.declared.command.Command.TheVariants as command
use Rattle.command_pieces.specs.declared.verb.Verb.{Verb}
use Rattle.command_pieces.specs.declared.verb.Verb.TheVariants as verbs
use Rattle.command_pieces.specs.Verbs.{verb_of_command}
use Rattle.mailbox_view.specs.View.{ViewState, begun}
use Rattle.mail_talk.specs.declared.phase.Phase.{Phase}
use Rattle.mail_talk.specs.declared.phase.Phase.TheVariants as phase
use Rattle.mail_talk.specs.States.{is_idle, is_piece}
use Rattle.mail_talk.specs.Talks.{view_begun, view_said, after_began, after_said, after_went_on, after_completed, if_idle, if_piece}
use Rattle.mail_talk.specs.Units.{TalkState}
use Rattle.mail_talk.proofs.NumberLemmas.{drained_number}
use Rattle.account_turns.specs.Exchanges.{with_first, with_later}

said_number : (one : Command) (v : ViewState) → (view_said one v).number ≡ v.number
said_number (command.Login user password) v = refl
said_number command.Capability v = refl
said_number command.Enable v = refl
said_number command.List v = refl
said_number (command.Select folder known) v = refl
said_number command.Noop v = refl
said_number (command.FetchNew from) v = refl
said_number (command.FetchChanged mark) v = refl
said_number (command.FetchBody uid) v = refl
said_number (command.Search text) v = refl
said_number (command.Store uid label on) v = refl
said_number (command.Move uid to) v = refl
said_number (command.Expunge uid) v = refl
said_number (command.Append folder label message) v = refl

begun_number : (verb : Verb) (v : ViewState) → (view_begun verb v).number ≡ v.number
begun_number verbs.Select v = refl
begun_number verbs.Search v = refl
begun_number verbs.Other v = refl

idle_changes : (change : TalkState → TalkState) (s : TalkState) → s.told.phase ≡ phase.Idle → if_idle change s ≡ change s
idle_changes change s idle = ap (λ (p : Phase). cond (is_idle p) (change s) s) idle

piece_changes : (change : TalkState → TalkState) (s : TalkState) → s.told.phase ≡ phase.Piece → if_piece change s ≡ change s
piece_changes change s owing = ap (λ (p : Phase). cond (is_piece p) (change s) s) owing

pub first_as_idle : (last : Bool) (one : Command) (s : TalkState) → s.told.phase ≡ phase.Idle → with_first last one s ≡ cond last (after_said one s) (after_began (verb_of_command one) s)
first_as_idle true one s idle = idle_changes (after_said one) s idle
first_as_idle false one s idle = idle_changes (after_began (verb_of_command one)) s idle

pub later_as_owing : (last : Bool) (one : Command) (s : TalkState) → s.told.phase ≡ phase.Piece → with_later last one s ≡ cond last (after_completed one s) (after_went_on s)
later_as_owing true one s owing = piece_changes (after_completed one) s owing
later_as_owing false one s owing = piece_changes after_went_on s owing

-- the first piece has the next number
pub first_number : (last : Bool) (one : Command) (s : TalkState) → s.told.phase ≡ phase.Idle → (with_first last one s).told.view.number ≡ s.told.view.number + 1
first_number true one s idle = ap (λ (t : TalkState). t.told.view.number) (first_as_idle true one s idle) ∙ drained_number _ ∙ said_number one (begun s.told.view)
first_number false one s idle = ap (λ (t : TalkState). t.told.view.number) (first_as_idle false one s idle) ∙ drained_number _ ∙ begun_number (verb_of_command one) (begun s.told.view)

-- a later one has the same
pub later_number : (last : Bool) (one : Command) (s : TalkState) → s.told.phase ≡ phase.Piece → (with_later last one s).told.view.number ≡ s.told.view.number
later_number true one s owing = ap (λ (t : TalkState). t.told.view.number) (later_as_owing true one s owing) ∙ drained_number _ ∙ said_number one s.told.view
later_number false one s owing = ap (λ (t : TalkState). t.told.view.number) (later_as_owing false one s owing) ∙ drained_number _
