-- What a run of `show` reads and writes, and what its words mean.
use Rattle.std.specs.Prelude.{◌≡◌, ◌≢◌, ◌⊎◌, ℕ, Bool, true, false, ◌<◌, List, [], ◌∷◌, length, codes, Option, Some, None, IfSome}
use Rattle.std.specs.Io.KnownBytes.{Appends}
use Rattle.mail_values.specs.Section.{IsSection, spelling}
use Rattle.mail_io.specs.Stream.{ReadsWhole, WritesSome}
use Rattle.mail_pages.specs.declared.frame.Frame.TheVariants.{Plain}
use Rattle.mail_pages.specs.ShowPage.{page_bytes, IsSafe, IsShown}
use Rattle.webmail_runs.specs.Outcomes.{done, write_fault, no_such_part}

-- ---- the words

-- `--part` and a section
abbrev pub SpellsPart : List ℕ → List ℕ → List ℕ → Type 0
SpellsPart option word section = IsSection section × ((option ≡ codes "--part") × (word ≡ spelling section))

-- The words after `show` name a part, or none, and request remote pictures, or not. If they do both, they do so in either order.
abbrev pub SpellsOptions : List (List ℕ) → Option (List ℕ) → Bool → Type 0
SpellsOptions options None false = options ≡ []
SpellsOptions options None true = options ≡ codes "--images" ∷ []
SpellsOptions options (Some section) false = IsSection section × (options ≡ codes "--part" ∷ spelling section ∷ [])
SpellsOptions options (Some section) true =
    IsSection section
    × ((options ≡ codes "--images" ∷ codes "--part" ∷ spelling section ∷ [])
    ⊎ (options ≡ codes "--part" ∷ spelling section ∷ codes "--images" ∷ []))

-- the options are none of these
abbrev pub SpellsNothing : List (List ℕ) → Type 0
SpellsNothing options = (part : Option (List ℕ)) (images : Bool) → SpellsOptions options part images → ⊥

-- the words request a page: of the best part of a message, or of the part of a section; with remote pictures, or without
abbrev pub RequestsPage : List (List ℕ) → Option (List ℕ) → Bool → Type 0
RequestsPage [] part images = ⊥
RequestsPage (word ∷ options) part images = (word ≡ codes "show") × SpellsOptions options part images

-- the words request no page
abbrev pub RequestsNothing : List (List ℕ) → Type 0
RequestsNothing words = (part : Option (List ℕ)) (images : Bool) → RequestsPage words part images → ⊥

-- ---- the run

-- the greatest length of a message in bytes
abbrev pub message_limit : ℕ
message_limit = 26_214_400

-- the whole message was read, and this holds of it, of the requested part, and of whether remote pictures were requested
pub record ReadsRequest (words : List (List ℕ)) (left_old left_new : Option (List ℕ)) (Of : List ℕ → Option (List ℕ) → Bool → Type 0) : Type 0 where
  pub message : List ℕ
  pub part : Option (List ℕ)
  pub images : Bool
  pub requests : RequestsPage words part images
  pub reads : ReadsWhole message_limit left_old left_new message
  pub holds : Of message part images

-- the message has a safe page, and the whole page was written
pub record IsWritten (taken_old taken_new : Option (List ℕ)) (message : List ℕ) (part : Option (List ℕ)) (images : Bool) : Type 0 where
  pub shown : IsShown message part
  pub written : Appends taken_old taken_new (page_bytes Plain message part images)
  pub safe : IsSafe Plain message part images

-- the message has a page, and a proper prefix of it was written
pub record IsBegun (taken_old taken_new : Option (List ℕ)) (message : List ℕ) (part : Option (List ℕ)) (images : Bool) : Type 0 where
  pub shown : IsShown message part
  pub written : WritesSome taken_old taken_new (page_bytes Plain message part images)

-- if the source tells what it holds, no part of a message longer than the limit is shown
abbrev pub RefusesLong : Option (List ℕ) → ℕ → Type 0
RefusesLong left status = IfSome left (λ message. message_limit < length message → (status ≢ done.status) × (status ≢ write_fault.status) × (status ≢ no_such_part.status))
