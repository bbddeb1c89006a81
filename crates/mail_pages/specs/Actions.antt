-- What a member can do with a shown message: the forms after it, as their tokens.
use Rattle.std.specs.Prelude.{ℕ, List, [], ◌∷◌, ◌++◌, codes, decimal}
use Rattle.html_syntax.specs.Token.{Token}
use Rattle.account_pictures.specs.declared.records.Address.{Address}
use Rattle.page_frames.specs.Elements.{line_end}
use Rattle.page_frames.specs.Forms.{form, hidden, visible}
use Rattle.page_frames.specs.Paths.{flag_path, delete_path, move_path}
use Rattle.mail_pages.specs.declared.frame.Frame.{Frame}
use Rattle.mail_pages.specs.declared.frame.Frame.TheVariants.{Plain, Session}

-- the inputs of each form: the session's key, and the message
unfoldable pub message_inputs : Address → List ℕ → List Token
message_inputs at key =
    hidden (codes "key") key ∷ hidden (codes "f") at.folder ∷ hidden (codes "v") (decimal at.validity) ∷ hidden (codes "u") (decimal at.uid) ∷ []

-- the inputs of the flag that says whether a message was read
unfoldable pub seen_inputs : List ℕ → List Token
seen_inputs on = hidden (codes "flag") (codes "Seen") ∷ hidden (codes "on") on ∷ []

unfoldable pub seen_form : Address → List ℕ → List ℕ → List ℕ → List Token
seen_form at key on label = form flag_path (message_inputs at key ++ seen_inputs on) label

unfoldable pub delete_form : Address → List ℕ → List Token
delete_form at key = form delete_path (message_inputs at key) (codes "Delete")

unfoldable pub move_form : Address → List ℕ → List Token
move_form at key = form move_path (message_inputs at key ++ visible (codes "to") [] ∷ []) (codes "Move")

unfoldable pub message_forms : Address → List ℕ → List Token
message_forms at key =
    line_end ∷ seen_form at key (codes "1") (codes "Mark as read") ++ seen_form at key (codes "0") (codes "Mark as unread")
    ++ delete_form at key ++ move_form at key

-- the forms that a page of a session has after the list of parts
abbrev pub actions : Frame → List Token
actions Plain = []
actions (Session at key) = message_forms at key
