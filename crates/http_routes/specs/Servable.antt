-- What every ask that was read keeps to.
use Rattle.std.specs.Prelude.{◌≢◌, ℕ, ◌≤◌, List, length, All, ⊤}
use Rattle.site_asks.specs.declared.asks.Ask.{Ask}
use Rattle.site_asks.specs.declared.asks.Ask.TheVariants as ask

abbrev pub HasNoNul : List ℕ → Type 0
HasNoNul text = All (λ b. b ≢ 0) text

-- the name of a user
pub record IsUserName (user : List ℕ) : Type 0 where
  pub nonempty : 1 ≤ length user
  pub short : length user ≤ 120
  pub no_nul : HasNoNul user

-- pages are counted from 1, identities are kept under the numbers 1 to 16, and a login's texts have no U+0000
abbrev pub IsServable : Ask → Type 0
IsServable ask.Folders = ⊤
IsServable (ask.List folder page) = 1 ≤ page
IsServable (ask.Threads folder page) = 1 ≤ page
IsServable (ask.Search folder words page) = 1 ≤ page
IsServable (ask.Show at part images) = ⊤
IsServable (ask.Part at section) = ⊤
IsServable (ask.Flag key at flag on) = ⊤
IsServable (ask.Move key at to) = ⊤
IsServable (ask.Delete key at) = ⊤
IsServable (ask.Compose form from) = ⊤
IsServable (ask.SaveDraft key fields) = ⊤
IsServable (ask.SendDraft key fields) = ⊤
IsServable ask.Identities = ⊤
IsServable (ask.SetIdentity key number identity) = (1 ≤ number) × (number ≤ 16)
IsServable ask.LoginPage = ⊤
IsServable (ask.Login user password) = IsUserName user × HasNoNul password
IsServable (ask.Logout key) = ⊤
IsServable ask.Sheet = ⊤
