-- Saved drafts that are edited.
use Rattle.std.specs.Prelude.{◌≡◌, ℕ, ℤ, false, List, map}
use Rattle.account_pictures.specs.declared.records.Address.{Address}
use Rattle.account_pictures.specs.declared.records.Identity.{Identity}
use Rattle.compose_drafts.specs.Bodies.{CarriesText, body_in}
use Rattle.compose_drafts.specs.Drafts.{IsSent, saved_parties_of}
use Rattle.compose_drafts.specs.Paragraphs.{paragraphs_of}
use Rattle.mime_tree.specs.Opening.{tree_of}
use Rattle.site_asks.specs.declared.Draft.{Draft}
use Rattle.draft_sources.specs.Drafts.{edit_of}
use Rattle.draft_sources.specs.Lines.{para_line, text_of}

-- the text of a saved draft as an edit has it: each paragraph as a line. The premises are clauses of `build_draft`
abbrev pub TextsAreRestored : Type 0
TextsAreRestored = (draft : Draft) (identity : Identity) (moment : ℤ) (bytes : List ℕ) → IsSent draft (saved_parties_of draft identity) moment bytes → CarriesText draft (body_in bytes)
    → (at : Address) (form number : ℕ) → (edit_of (tree_of bytes) at form number).text ≡ text_of false (map para_line (paragraphs_of draft.text))
