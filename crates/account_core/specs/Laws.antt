-- What is said for an ask of an account that is up, command by command, if nothing stops its script.
use Rattle.std.specs.Prelude.{◌≡◌, ℕ, ◌+◌, ◌==◌, nat_lt, Bool, true, false, List, [], ◌∷◌, ◌++◌, Option, Some, None, is_some}
use Rattle.account_pictures.specs.declared.records.Address.{Address}
use Rattle.site_asks.specs.declared.Draft.{Draft}
use Rattle.site_asks.specs.declared.asks.Ask.TheVariants as ask
use Rattle.imap_commands.specs.declared.command.Command.{Command}
use Rattle.imap_commands.specs.declared.command.Command.TheVariants as command
use Rattle.imap_commands.specs.declared.command.Label.TheVariants as label
use Rattle.imap_commands.specs.Commands.{command_pieces}
use Rattle.mailbox_rows.specs.declared.row.Row.{Row}
use Rattle.mailbox_rows.specs.Mailboxes.{MailboxState}
use Rattle.mailbox_view.specs.Selections.{box_named}
use Rattle.mail_talk.specs.States.{ToldState}
use Rattle.mime_tree.specs.Best.{part_at}
use Rattle.mime_tree.specs.Opening.{tree_of}
use Rattle.mime_tree.specs.Tree.{PartValue}
use Rattle.mail_pages.specs.ShowPage.{shown_at}
use Rattle.account_turns.specs.declared.endings.Ending.TheVariants.{Done}
use Rattle.account_answers.specs.Done.{body_at}
use Rattle.account_script.specs.declared.steps.Progress.{Progress}
use Rattle.account_script.specs.declared.steps.Step.{Step}
use Rattle.account_script.specs.declared.steps.Step.TheVariants as step
use Rattle.account_script.specs.Asks.{catch_up, copy_steps, folder_of, login_steps, read_message, script_of, script_with}
use Rattle.account_script.specs.Script.{body_of, has_folder, is_selected, known_of, mark_of, message_limit, next_uid, row_of, rows_of, sent_of, validity_of}
use Rattle.account_turns.specs.Causes.{last_of}
use Rattle.account_turns.specs.Turns.{Due, Errand, ready}
use Rattle.account_core.specs.Turned.{answer_of}
use Rattle.account_turns.specs.Turns.Due.{Dials, Ends, Says}

-- a command is due, with its number, and these steps after it
abbrev pub says : ToldState → Command → List Step → Progress → Due
says t one more p = Says (last_of one) (command_pieces (t.view.number + 1) one) more p

-- what is told of an errand's folder
abbrev pub box_of : Errand → ToldState → Option MailboxState
box_of e t = box_named (folder_of e.ask) t.view.boxes

abbrev pub IsTold : Errand → ToldState → Type 0
IsTold e t = has_folder (folder_of e.ask) t.view.folders ≡ true

abbrev pub IsSelected : Errand → ToldState → Bool → Type 0
IsSelected e t selected = is_selected (folder_of e.ask) t.view ≡ selected

-- the steps of a catch-up that are left after its first command
abbrev pub after_entry : List Step → List Step
after_entry more = step.FetchNew ∷ step.FetchChanged ∷ more

-- A folder is caught up by these commands: NOOP if it is selected, else SELECT with what is known of it; the rows after those that are
-- known; and the changes since the mark that was known before these, if there was one.
pub record CatchesUp (e : Errand) (more : List Step) : Type 0 where
  pub noop : (p : Progress) (t : ToldState) → IsTold e t → IsSelected e t true → ready e false p (catch_up ++ more) t ≡ says t command.Noop (after_entry more) p
  pub selects : (p : Progress) (t : ToldState) → IsTold e t → IsSelected e t false → ready e false p (catch_up ++ more) t ≡ says t (command.Select (folder_of e.ask) (known_of (box_of e t))) (after_entry more) p
  pub news : (p : Progress) (t : ToldState) → ready e false p (after_entry more) t ≡ says t (command.FetchNew (next_uid (rows_of (box_of e t)))) (step.FetchChanged ∷ more) (record { up = p.up; mark = mark_of (box_of e t) })
  pub changes : (p : Progress) (t : ToldState) → (p.mark == 0) ≡ false → ready e false p (step.FetchChanged ∷ more) t ≡ says t (command.FetchChanged p.mark) more p
  pub no_changes : (p : Progress) (t : ToldState) → (p.mark == 0) ≡ true → ready e false p (step.FetchChanged ∷ more) t ≡ ready e false p more t

-- a message's address is right, and it isn't too long
pub record IsThere (at : Address) (row : Row) (box : Option MailboxState) : Type 0 where
  pub valid : (at.validity == validity_of box) ≡ true
  pub found : row_of at.uid box ≡ Some row
  pub fits : nat_lt message_limit row.size ≡ false

-- then its body is fetched, and if it is told, the script is at its end
pub record FetchesBody (e : Errand) (at : Address) : Type 0 where
  pub fetches : (p : Progress) (t : ToldState) (row : Row) → IsThere at row (box_named at.folder t.view.boxes) → ready e false p read_message t ≡ says t (command.FetchBody at.uid) (step.NeedBody ∷ []) p
  pub ends : (p : Progress) (t : ToldState) (body : List ℕ) → body_of t.results.message ≡ Some body → ready e false p (step.NeedBody ∷ []) t ≡ Ends p.up

-- the folders are asked for by LIST
pub record ListsFolders (e : Errand) : Type 0 where
  pub lists : (p : Progress) (t : ToldState) → ready e false p (script_of ask.Folders true) t ≡ says t command.List [] p
  pub ends : (p : Progress) (t : ToldState) → ready e false p [] t ≡ Ends p.up

-- ---- forms

-- before a form is sent, the connection is tried by NOOP
pub record TriesConnection (e : Errand) (key : List ℕ) (fields : Draft) : Type 0 where
  pub noop : (p : Progress) (t : ToldState) → ready e false p (script_of (ask.SendDraft key fields) true) t ≡ says t command.Noop [] p
  pub ends : (p : Progress) (t : ToldState) → ready e false p [] t ≡ Ends p.up

-- after that, its message is copied by APPEND, if there is a folder of sent messages
pub record CopiesMessage (e : Errand) : Type 0 where
  pub appends : (p : Progress) (t : ToldState) (folder : List ℕ) → sent_of t.view.folders ≡ Some folder → ready e false p (script_with copy_steps true) t ≡ says t (command.Append folder (Some label.Seen) e.message) [] p
  pub no_folder : (p : Progress) (t : ToldState) → sent_of t.view.folders ≡ None → ready e false p (script_with copy_steps true) t ≡ Ends p.up

-- ---- logins

-- the steps of a login that are left after its dial, and after each of its commands
abbrev pub after_dial : List Step → List Step
after_dial more = step.LogIn ∷ step.AskCapabilities ∷ step.Enable ∷ step.List ∷ step.Admit ∷ more

abbrev pub after_login : List Step → List Step
after_login more = step.AskCapabilities ∷ step.Enable ∷ step.List ∷ step.Admit ∷ more

abbrev pub after_capability : List Step → List Step
after_capability more = step.Enable ∷ step.List ∷ step.Admit ∷ more

-- A login dials, and says LOGIN with who logs in, CAPABILITY, ENABLE and LIST, each after the answer to the one before. Then the account is up.
pub record LogsIn (e : Errand) (more : List Step) : Type 0 where
  pub dials : (fresh : Bool) (p : Progress) (t : ToldState) → ready e fresh p (login_steps ++ more) t ≡ Dials fresh (after_dial more)
  pub login : (p : Progress) (t : ToldState) → ready e false p (after_dial more) t ≡ says t (command.Login e.who.user e.who.password) (after_login more) p
  pub capability : (p : Progress) (t : ToldState) → ready e false p (after_login more) t ≡ says t command.Capability (after_capability more) p
  pub enable : (p : Progress) (t : ToldState) → ready e false p (after_capability more) t ≡ says t command.Enable (step.List ∷ step.Admit ∷ more) p
  pub list : (p : Progress) (t : ToldState) → ready e false p (step.List ∷ step.Admit ∷ more) t ≡ says t command.List (step.Admit ∷ more) p
  pub admits : (p : Progress) (t : ToldState) → ready e false p (step.Admit ∷ more) t ≡ ready e false (record { up = true; mark = p.mark }) more t

-- ---- completeness

-- a script that came to its end is answered 200, if what was asked for was told
pub record AnswersAll : Type 0 where
  pub folders : (key : List ℕ) (t : ToldState) → (answer_of ask.Folders key Done t).status ≡ 200
  pub list : (folder : List ℕ) (page : ℕ) (key : List ℕ) (t : ToldState) (box : MailboxState) (validity : ℕ) → box_named folder t.view.boxes ≡ Some box → box.validity ≡ Some validity → (answer_of (ask.List folder page) key Done t).status ≡ 200
  pub shown : (at : Address) (part : Option (List ℕ)) (images : Bool) (key : List ℕ) (t : ToldState) (message : List ℕ) → body_at at t.results.message ≡ Some message → is_some (shown_at message part) ≡ true → (answer_of (ask.Show at part images) key Done t).status ≡ 200
  pub part : (at : Address) (section : List ℕ) (key : List ℕ) (t : ToldState) (message : List ℕ) (p : PartValue) → body_at at t.results.message ≡ Some message → part_at section (tree_of message).parts ≡ Some p → (answer_of (ask.Part at section) key Done t).status ≡ 200
