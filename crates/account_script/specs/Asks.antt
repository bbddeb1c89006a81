-- Which folder and which message an ask is about, and the steps of its script.
use Rattle.std.specs.Prelude.{ℕ, Bool, true, false, if◌then◌else◌, List, [], ◌∷◌, ◌++◌, Option, Some, None}
use Rattle.account_pictures.specs.declared.records.Address.{Address}
use Rattle.site_asks.specs.declared.asks.Ask.{Ask}
use Rattle.site_asks.specs.declared.asks.Ask.TheVariants as ask
use Rattle.account_script.specs.declared.steps.Step.{Step}
use Rattle.account_script.specs.declared.steps.Step.TheVariants as step

-- the message of an ask
abbrev pub address_of : Ask → Option Address
address_of (ask.Show at part images) = Some at
address_of (ask.Part at section) = Some at
address_of other = None

abbrev pub folder_in : Option Address → List ℕ
folder_in None = []
folder_in (Some at) = at.folder

-- the folder of an ask
abbrev pub folder_of : Ask → List ℕ
folder_of (ask.List folder page) = folder
folder_of other = folder_in (address_of other)

-- ---- scripts

-- what comes first if the account is down
abbrev pub login_steps : List Step
login_steps = step.Dial ∷ step.LogIn ∷ step.AskCapabilities ∷ step.Enable ∷ step.List ∷ step.Admit ∷ []

-- what comes first if an ask has a folder: its rows become what the server has
abbrev pub catch_up : List Step
catch_up = step.Find ∷ step.Need ∷ step.Enter ∷ step.FetchNew ∷ step.FetchChanged ∷ []

-- the connection is tried
abbrev pub try_connection : List Step
try_connection = step.Noop ∷ []

-- a sent message is copied to the folder of sent messages
abbrev pub copy_steps : List Step
copy_steps = step.Copy ∷ []

-- a message is read whole
abbrev pub read_message : List Step
read_message = step.Check ∷ step.CheckSize ∷ step.FetchBody ∷ step.NeedBody ∷ []

abbrev pub ask_steps : Ask → List Step
ask_steps ask.Folders = step.List ∷ []
ask_steps (ask.List folder page) = catch_up
ask_steps (ask.Show at part images) = catch_up ++ read_message
ask_steps (ask.Part at section) = catch_up ++ read_message
ask_steps (ask.SendDraft key fields) = try_connection
ask_steps other = []

-- steps of an account that is up, or down
abbrev pub script_with : List Step → Bool → List Step
script_with steps up = if up then steps else login_steps ++ steps

-- the steps of an ask
abbrev pub script_of : Ask → Bool → List Step
script_of one up = script_with (ask_steps one) up

-- the asks of which a script is all that is done
abbrev pub has_script : Ask → Bool
has_script ask.Folders = true
has_script (ask.List folder page) = true
has_script (ask.Show at part images) = true
has_script (ask.Part at section) = true
has_script other = false
