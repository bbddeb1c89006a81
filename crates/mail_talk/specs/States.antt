-- What responses tell of a talk with a mail server (RFC 9051 §7).
use Rattle.std.specs.Prelude.{ℕ, Bool, true, false, Option, Some, None, if◌then◌else◌}
use Rattle.imap_grammar.specs.Response.{ResponseData}
use Rattle.imap_grammar.specs.Response.ResponseData.{Continue, Tagged}
use Rattle.mailbox_view.specs.View.{ViewState, empty_view, after_response, excess, is_tag}
use Rattle.mail_talk.specs.declared.answer.Answer.{Answer}
use Rattle.mail_talk.specs.declared.answer.Excess.{Excess}
use Rattle.mail_talk.specs.declared.phase.Phase.{Phase}
use Rattle.mail_talk.specs.declared.phase.Phase.TheVariants as phase
use Rattle.mail_talk.specs.Results.{ResultsState, nothing_found, results_heard}

pub record ToldState : Type 0 where
  pub view : ViewState
  pub results : ResultsState
  pub phase : Phase
  -- the tagged answer to the last command, if it came
  pub answer : Option Answer
  -- the first numbers of rows and header bytes that were too many since the last command was said
  pub excess : Option Excess

abbrev pub nothing_told : ToldState
nothing_told = record { view = empty_view; results = nothing_found; phase = phase.NotDialled; answer = None; excess = None }

abbrev pub with_phase : Phase → ToldState → ToldState
with_phase phase t = record { view = t.view; results = t.results; phase = phase; answer = t.answer; excess = t.excess }

-- the server is to say something, so units are taken
abbrev pub is_listening : Phase → Bool
is_listening phase.Greeting = true
is_listening phase.Request = true
is_listening phase.Answer = true
is_listening other = false

-- nothing more is told before the next dial
abbrev pub is_silent : Phase → Bool
is_silent phase.NotDialled = true
is_silent phase.Damaged = true
is_silent other = false

-- a command may be said; the next piece of one
abbrev pub is_idle : Phase → Bool
is_idle phase.Idle = true
is_idle other = false

abbrev pub is_piece : Phase → Bool
is_piece phase.Piece = true
is_piece other = false

-- the first untagged response is the greeting
abbrev pub after_greeting : ResponseData → ToldState → ToldState
after_greeting (Continue text) t = t
after_greeting (Tagged tag word code text) t = t
after_greeting untagged t = with_phase phase.Idle t

abbrev pub is_request : Phase → Bool
is_request phase.Request = true
is_request other = false

-- the tagged answer ends the command, also if pieces of it were not said
abbrev pub answer_heard : ResponseData → ℕ → ToldState → Option Answer
answer_heard (Tagged tag word code text) at t =
    if is_tag tag t.view.number then Some (record { word = word; code = code; text = text; at = at; is_early = is_request t.phase }) else t.answer
answer_heard response at t = t.answer

abbrev pub phase_heard : ResponseData → ToldState → Phase
phase_heard (Tagged tag word code text) t = if is_tag tag t.view.number then phase.Idle else t.phase
phase_heard response t = t.phase

abbrev pub first_excess : Option Excess → Option (ℕ × ℕ) → Option Excess
first_excess (Some before) numbers = Some before
first_excess None None = None
first_excess None (Some numbers) = Some (record { rows = numbers.0; bytes = numbers.1 })

-- a response at an offset that belongs to the command
abbrev pub told : ResponseData → ℕ → ToldState → ToldState
told r at t = record {
  view = after_response r t.view;
  results = results_heard r t.view.number t.results;
  phase = phase_heard r t;
  answer = answer_heard r at t;
  excess = first_excess t.excess (excess r t.view);
}

-- a `+` that is awaited asks for the next piece
abbrev pub after_request : ResponseData → ℕ → ToldState → ToldState
after_request (Continue text) at t = with_phase phase.Piece t
after_request r at t = told r at t

-- a `+` that is not awaited tells nothing
abbrev pub after_answer : ResponseData → ℕ → ToldState → ToldState
after_answer (Continue text) at t = t
after_answer r at t = told r at t

-- by what was awaited
abbrev pub heard_in : Phase → ResponseData → ℕ → ToldState → ToldState
heard_in phase.Greeting r at t = after_greeting r t
heard_in phase.Request r at t = after_request r at t
heard_in phase.Answer r at t = after_answer r at t
heard_in other r at t = t

abbrev pub heard : ResponseData → ℕ → ToldState → ToldState
heard r at t = heard_in t.phase r at t
