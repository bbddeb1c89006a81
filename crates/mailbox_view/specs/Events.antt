-- What a list of events tells: dials, commands with their tags' numbers in order, and responses.
use Rattle.std.specs.Prelude.{Bool, List}
use Rattle.std.specs.List.{fold}
use Rattle.imap_commands.specs.declared.command.Command.{Command}
use Rattle.imap_grammar.specs.Response.{ResponseData}
use Rattle.mailbox_view.specs.View.{ViewState, empty_view, after_dial, after_said, after_response}

pub data Event : Type 0 where
  Dialled : (fresh : Bool) → Event
  Said : Command → Event
  Heard : ResponseData → Event

abbrev pub after_event : ViewState → Event → ViewState
after_event v (Dialled fresh) = after_dial fresh v
after_event v (Said one) = after_said one v
after_event v (Heard response) = after_response response v

abbrev pub view_of : List Event → ViewState
view_of events = fold after_event empty_view events
