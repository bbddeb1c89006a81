-- What is due at each step of a script that nothing stops.
use Rattle.std.proofs.Common.{◌≡◌, ℕ, Bool, true, false, List, [], ◌∷◌, Option, Some, refl, ap, ◌∙◌}
use Rattle.std.specs.Prelude.{if◌then◌else◌}
use Rattle.account_pictures.specs.declared.records.Address.{Address}
use Rattle.site_asks.specs.declared.Draft.{Draft}
use Rattle.site_asks.specs.declared.asks.Ask.TheVariants as ask
use Rattle.imap_commands.specs.declared.command.Command.TheVariants as command
use Rattle.mailbox_rows.specs.declared.row.Row.{Row}
use Rattle.mailbox_rows.specs.Mailboxes.{MailboxState}
use Rattle.mailbox_view.specs.Selections.{box_named}
use Rattle.mail_talk.specs.States.{ToldState}
use Rattle.account_script.specs.declared.cause.Cause.TheVariants as cause
use Rattle.account_script.specs.declared.steps.Act.{Act}
use Rattle.account_script.specs.declared.steps.Act.TheVariants as act
use Rattle.account_script.specs.declared.steps.Progress.{Progress}
use Rattle.account_script.specs.declared.steps.Step.{Step}
use Rattle.account_script.specs.declared.steps.Step.TheVariants as step
use Rattle.account_script.specs.Asks.{address_of, folder_of}
use Rattle.account_script.specs.Script.{body_act, check_act, check_size_act, copy_act, fetch_body_act, is_selected, known_of, row_act, row_of, size_act, validity_of}
use Rattle.account_turns.specs.Turns.{Due, Errand, due_by, ready}
use Rattle.account_core.specs.Laws.{CatchesUp, CopiesMessage, FetchesBody, IsThere, ListsFolders, LogsIn, TriesConnection, after_entry, box_of}

-- a catch-up begins so, if the folder is told or not, and selected or not
entry : Errand → List Step → Progress → ToldState → Bool → Bool → Due
entry e more p t is_told is_selected =
    due_by (if is_told then act.Skip else act.Say command.List) false p (step.Need ∷ step.Enter ∷ after_entry more) t.view.number
    (due_by (if is_told then act.Skip else act.Stop cause.NoFolder) false p (step.Enter ∷ after_entry more) t.view.number
    (due_by (if is_selected then act.Say command.Noop else act.Say (command.Select (folder_of e.ask) (known_of (box_of e t)))) false p (after_entry more) t.view.number
    (ready e false p (after_entry more) t)))

pub catches_up : (e : Errand) (more : List Step) → CatchesUp e more
unfolding ready entry
catches_up e more = record {
  noop = λ p t told selected. ap (λ (h : Bool). entry e more p t h (is_selected (folder_of e.ask) t.view)) told ∙ ap (λ (s : Bool). entry e more p t true s) selected;
  selects = λ p t told selected. ap (λ (h : Bool). entry e more p t h (is_selected (folder_of e.ask) t.view)) told ∙ ap (λ (s : Bool). entry e more p t true s) selected;
  news = λ p t. refl;
  changes = λ p t h. ap (λ (b : Bool). due_by (if b then act.Skip else act.Say (command.FetchChanged p.mark)) false p more t.view.number (ready e false p more t)) h;
  no_changes = λ p t h. ap (λ (b : Bool). due_by (if b then act.Skip else act.Say (command.FetchChanged p.mark)) false p more t.view.number (ready e false p more t)) h;
}

pub lists_folders : (e : Errand) → e.ask ≡ ask.Folders → ListsFolders e
unfolding ready
lists_folders e is = record { lists = λ p t. refl; ends = λ p t. refl }

pub logs_in : (e : Errand) (more : List Step) → LogsIn e more
unfolding ready
logs_in e more = record { dials = λ fresh p t. refl; login = λ p t. refl; capability = λ p t. refl; enable = λ p t. refl; list = λ p t. refl; admits = λ p t. refl }

-- ---- forms

pub tries_connection : (e : Errand) (key : List ℕ) (fields : Draft) → TriesConnection e key fields
unfolding ready
tries_connection e key fields = record { noop = λ p t. refl; ends = λ p t. refl }

pub copies_message : (e : Errand) → CopiesMessage e
unfolding ready
copies_message e = record {
  appends = λ p t folder is. ap (λ (o : Option (List ℕ)). due_by (copy_act o e.message) false p [] t.view.number (ready e false p [] t)) is;
  no_folder = λ p t is. ap (λ (o : Option (List ℕ)). due_by (copy_act o e.message) false p [] t.view.number (ready e false p [] t)) is;
}

-- ---- a message

checks : (o : Option Address) (at : Address) (t : ToldState) (row : Row) → o ≡ Some at → IsThere at row (box_named at.folder t.view.boxes) → check_act o t ≡ act.Skip
checks o at t row is there = let box : Option MailboxState = box_named at.folder t.view.boxes in
    ap (λ (x : Option Address). check_act x t) is
    ∙ ap (λ (b : Bool). if b then row_act (row_of at.uid box) else act.Stop (cause.Renewed at.validity (validity_of box))) there.valid
    ∙ ap row_act there.found

fits : (o : Option Address) (at : Address) (t : ToldState) (row : Row) → o ≡ Some at → IsThere at row (box_named at.folder t.view.boxes) → check_size_act o t ≡ act.Skip
fits o at t row is there =
    ap (λ (x : Option Address). check_size_act x t) is
    ∙ ap size_act there.found
    ∙ ap (λ (b : Bool). if b then act.Stop (cause.LongMessage row.size) else act.Skip) there.fits

-- a message is read so, by what its three checks come to
reading : Errand → Progress → ToldState → Act → Act → Act → Due
reading e p t one two three =
    due_by one false p (step.CheckSize ∷ step.FetchBody ∷ step.NeedBody ∷ []) t.view.number
    (due_by two false p (step.FetchBody ∷ step.NeedBody ∷ []) t.view.number
    (due_by three false p (step.NeedBody ∷ []) t.view.number
    (ready e false p (step.NeedBody ∷ []) t)))

pub fetches_body : (e : Errand) (at : Address) → address_of e.ask ≡ Some at → FetchesBody e at
unfolding ready reading
fetches_body e at is = record {
  fetches = λ p t row there.
      ap (λ (a : Act). reading e p t a (check_size_act (address_of e.ask) t) (fetch_body_act (address_of e.ask))) (checks (address_of e.ask) at t row is there)
      ∙ ap (λ (a : Act). reading e p t act.Skip a (fetch_body_act (address_of e.ask))) (fits (address_of e.ask) at t row is there)
      ∙ ap (λ (x : Option Address). reading e p t act.Skip act.Skip (fetch_body_act x)) is;
  ends = λ p t body told. ap (λ (b : Option (List ℕ)). due_by (body_act b) false p [] t.view.number (ready e false p [] t)) told;
}
