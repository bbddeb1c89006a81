-- The page on which a member sets identities.
use Rattle.std.specs.Prelude.{ℕ, true, Bool, not, ◌==◌, List, [], ◌∷◌, ◌++◌, codes, decimal, Option, Some, None, find}
use Rattle.std.specs.List.{flat_map, list_any, range_with_len}
use Rattle.account_pictures.specs.declared.records.Identity.{Identity}
use Rattle.html_syntax.specs.Token.{Token}
use Rattle.page_frames.specs.Forms.{form, hidden, visible}
use Rattle.page_frames.specs.Pages.{heading, framed}
use Rattle.page_frames.specs.Paths.{identities_path}

abbrev pub identity_inputs : List ℕ → ℕ → List ℕ → List ℕ → List Token
identity_inputs key number name address =
    hidden (codes "key") key
    ∷ hidden (codes "number") (decimal number)
    ∷ visible (codes "name") name
    ∷ visible (codes "address") address
    ∷ []

-- the form of the identity of a number
unfoldable pub identity_form : List ℕ → ℕ → List ℕ → List ℕ → List Token
identity_form key number name address = form identities_path (identity_inputs key number name address) (codes "Save")

abbrev pub kept_form : List ℕ → ℕ × Identity → List Token
kept_form key kept = identity_form key kept.0 kept.1.name kept.1.address

abbrev pub is_free : List (ℕ × Identity) → ℕ → Bool
is_free kept number = not (list_any (λ entry. entry.0 == number) kept)

-- the lowest of the numbers 1 to 16 that no kept identity has
unfoldable pub free_number : List (ℕ × Identity) → Option ℕ
free_number kept = find (is_free kept) (range_with_len 1 16)

-- an empty form for a new identity, if there is a number for it
abbrev pub free_form : List ℕ → Option ℕ → List Token
free_form key None = []
free_form key (Some number) = identity_form key number [] []

unfoldable pub identity_page : List ℕ → List (ℕ × Identity) → List Token
identity_page key kept = framed (codes "Identities") true (heading (codes "Identities")
    ++ flat_map (kept_form key) kept
    ++ free_form key (free_number kept))
