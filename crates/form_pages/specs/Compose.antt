-- The page on which a member writes a message.
use Rattle.std.specs.Prelude.{ℕ, true, List, [], ◌∷◌, ◌++◌, codes, decimal, Option, Some, None}
use Rattle.account_pictures.specs.declared.records.Address.{Address}
use Rattle.compose_drafts.specs.Message.{hex_digits}
use Rattle.html_syntax.specs.Token.{Token}
use Rattle.site_asks.specs.declared.Draft.{Draft}
use Rattle.page_frames.specs.Forms.{form, hidden, visible, text_area}
use Rattle.page_frames.specs.Pages.{heading, framed}
use Rattle.page_frames.specs.Paths.{draft_path, send_path}

-- the saved draft that a draft replaces
unfoldable pub old_inputs : Option Address → List Token
old_inputs None = []
old_inputs (Some at) = hidden (codes "f") at.folder ∷ hidden (codes "v") (decimal at.validity) ∷ hidden (codes "u") (decimal at.uid) ∷ []

unfoldable pub hidden_inputs : List ℕ → Draft → List Token
hidden_inputs key draft =
    hidden (codes "key") key
    ∷ hidden (codes "form") (hex_digits 16 draft.form)
    ∷ hidden (codes "refs") draft.refs
    ∷ old_inputs draft.old

unfoldable pub visible_inputs : Draft → List Token
visible_inputs draft =
    visible (codes "identity") (decimal draft.identity)
    ∷ visible (codes "to") draft.to
    ∷ visible (codes "cc") draft.cc
    ∷ visible (codes "subject") draft.subject
    ∷ text_area draft.text

-- a form with the fields of a draft
unfoldable pub draft_form : List ℕ → List ℕ → Draft → List ℕ → List Token
draft_form path key draft label = form path (hidden_inputs key draft ++ visible_inputs draft) label

-- the page: the draft is sent or saved
unfoldable pub compose_page : List ℕ → Draft → List Token
compose_page key draft = framed (codes "Compose") true (heading (codes "Compose")
    ++ draft_form send_path key draft (codes "Send")
    ++ draft_form draft_path key draft (codes "Save draft"))
