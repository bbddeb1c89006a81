-- What the last command for a body and the last search found (RFC 9051 §7.5.2, RFC 4731 §3.1), beside what a view keeps.
use Rattle.std.specs.Prelude.{ℕ, zero, suc, ◌^◌, ◌==◌, Bool, false, if◌then◌else◌, List, [], ◌∷◌, ◌++◌, Option, Some, None}
use Rattle.std.specs.List.{fold}
use Rattle.imap_commands.specs.declared.command.Command.{Command}
use Rattle.imap_commands.specs.declared.command.Command.TheVariants as command
use Rattle.imap_grammar.specs.ItemData.{ItemData, Body}
use Rattle.imap_grammar.specs.Response.{ResponseData}
use Rattle.imap_grammar.specs.Response.ResponseData.{Fetch, Esearch}
use Rattle.mailbox_rows.specs.Mailboxes.{MailboxState}
use Rattle.mailbox_view.specs.Fetched.{fields_of}
use Rattle.mailbox_view.specs.View.{is_tag}
use Rattle.command_pieces.specs.declared.verb.Verb.{Verb}
use Rattle.command_pieces.specs.declared.verb.Verb.TheVariants as verbs
use Rattle.mail_talk.specs.declared.results.Asked.{Asked}
use Rattle.mail_talk.specs.declared.results.Asked.TheVariants as asks
use Rattle.mail_talk.specs.declared.results.FetchedBody.{FetchedBody}

pub record ResultsState : Type 0 where
  -- the message that the last command for a body named, with its body if one was told
  pub message : Option FetchedBody
  -- the UIDs that the last search found, in ascending order
  pub found : List ℕ
  -- what the last command asks for
  pub asked : Asked

abbrev pub nothing_found : ResultsState
nothing_found = record { message = None; found = []; asked = asks.Other }

-- the UIDs below n that are in a set
unfoldable pub uids_below : ℕ → (ℕ → Bool) → List ℕ
uids_below zero uids = []
uids_below (suc n) uids = uids_below n uids ++ (if uids n then n ∷ [] else [])

-- the UIDs of a set, which is empty if an ESEARCH has no ALL
abbrev pub uids_of : Option (ℕ → Bool) → List ℕ
uids_of None = []
uids_of (Some uids) = uids_below (2 ^ 32) uids

-- ---- commands

abbrev pub message_in : Option MailboxState → ℕ → FetchedBody
message_in None uid = record { folder = []; validity = None; uid = uid; body = None }
message_in (Some box) uid = record { folder = box.name; validity = box.validity; uid = uid; body = None }

abbrev pub asking_body : Option MailboxState → ℕ → ResultsState → ResultsState
asking_body box uid r = record { message = Some (message_in box uid); found = r.found; asked = asks.Body }

-- a search begins with nothing found
abbrev pub asking_search : ResultsState → ResultsState
asking_search r = record { message = r.message; found = []; asked = asks.Search }

abbrev pub asking_other : ResultsState → ResultsState
asking_other r = record { message = r.message; found = r.found; asked = asks.Other }

-- a whole command, whose messages are in a folder
abbrev pub results_said : Command → Option MailboxState → ResultsState → ResultsState
results_said (command.FetchBody uid) box r = asking_body box uid r
results_said (command.Search words) box r = asking_search r
results_said other box r = asking_other r

-- the first of several pieces
abbrev pub results_begun : Verb → ResultsState → ResultsState
results_begun verbs.Search r = asking_search r
results_begun verb r = asking_other r

-- ---- responses

-- the last body among some items; NIL is none
abbrev pub later_body : Option (List ℕ) → ItemData → Option (List ℕ)
later_body before (Body (Some text)) = Some text
later_body before item = before

abbrev pub last_body : List ItemData → Option (List ℕ)
last_body items = fold later_body None items

abbrev pub is_uid : Option ℕ → ℕ → Bool
is_uid None uid = false
is_uid (Some one) uid = one == uid

abbrev pub with_body : Option (List ℕ) → FetchedBody → FetchedBody
with_body None m = m
with_body (Some text) m = record { folder = m.folder; validity = m.validity; uid = m.uid; body = Some text }

-- a FETCH of another message tells no body
abbrev pub body_heard : List ItemData → Option FetchedBody → Option FetchedBody
body_heard items None = None
body_heard items (Some m) = Some (if is_uid (fields_of items).uid m.uid then with_body (last_body items) m else m)

abbrev pub items_heard : Asked → List ItemData → ResultsState → ResultsState
items_heard asks.Body items r = record { message = body_heard items r.message; found = r.found; asked = r.asked }
items_heard asked items r = r

-- the last ESEARCH with the command's tag counts
abbrev pub set_heard : Asked → Bool → Option (ℕ → Bool) → ResultsState → ResultsState
set_heard asks.Search own uids r = if own then record { message = r.message; found = uids_of uids; asked = r.asked } else r
set_heard asked own uids r = r

-- a response, while the command with that number is awaited
abbrev pub results_heard : ResponseData → ℕ → ResultsState → ResultsState
results_heard (Fetch n items) number r = items_heard r.asked items r
results_heard (Esearch tag uids) number r = set_heard r.asked (is_tag tag number) uids r
results_heard response number r = r

-- ---- dials

-- only a fresh dial forgets what was found
abbrev pub results_dialled : Bool → ResultsState → ResultsState
results_dialled fresh r = if fresh then nothing_found else asking_other r
