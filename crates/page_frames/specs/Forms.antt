-- Forms and their controls, as their tokens.
use Rattle.std.specs.Prelude.{ℕ, List, [], ◌∷◌, ◌++◌, codes, chars}
use Rattle.html_syntax.specs.Token.{Token}
use Rattle.html_syntax.specs.Token.Token.{Start, End}
use Rattle.html_rules.specs.Tokens.{replace_nulls}
use Rattle.page_frames.specs.Elements.{text, line_end, element}

-- the start of a form that is sent to this path
unfoldable pub form_start : List ℕ → Token
form_start path = Start (codes "form") (replace_nulls (record { name = codes "method"; value = codes "post" } ∷ record { name = codes "action"; value = chars path } ∷ []))

-- the button of a form, and its end
unfoldable pub form_end : List ℕ → List Token
form_end label = element (codes "button") label ++ End (codes "form") ∷ []

-- a form that is sent to this path, with these controls before its button
abbrev pub form : List ℕ → List Token → List ℕ → List Token
form path inputs label = form_start path ∷ inputs ++ form_end label

-- an input of this type
abbrev pub input : List ℕ → List ℕ → List ℕ → Token
input kind name value =
    Start (codes "input") (replace_nulls (record { name = codes "type"; value = chars kind } ∷ record { name = codes "name"; value = chars name } ∷ record { name = codes "value"; value = chars value } ∷ []))

unfoldable pub hidden : List ℕ → List ℕ → Token
hidden name value = input (codes "hidden") name value

unfoldable pub visible : List ℕ → List ℕ → Token
visible name value = input (codes "text") name value

-- an empty input of a password
unfoldable pub password : List ℕ → Token
password name = input (codes "password") name []

unfoldable pub text_area_start : Token
text_area_start = Start (codes "textarea") (record { name = codes "name"; value = codes "text" } ∷ record { name = codes "rows"; value = codes "20" } ∷ record { name = codes "cols"; value = codes "76" } ∷ [])

-- A text to edit. Its first character is a line feed of the frame, which a browser drops (HTML Standard, 13.2.6.4.7).
unfoldable pub text_area : List ℕ → List Token
text_area content = text_area_start ∷ line_end ∷ text content ++ End (codes "textarea") ∷ []
