-- What the page of a message begins with, as its tokens: the heading and the table of fields.
use Rattle.std.specs.Prelude.{ℕ, Bool, List, [], ◌∷◌, ◌++◌, codes, Option, Some, None}
use Rattle.html_syntax.specs.Token.{Token}
use Rattle.html_syntax.specs.Token.Token.{End}
use Rattle.html_rules.specs.Tokens.{start_tag, start_tag_with}
use Rattle.header_words.specs.Fields.{FieldValue, first_of}
use Rattle.header_words.specs.Value.{decoded_of}
use Rattle.page_frames.specs.Elements.{line_end, element}
use Rattle.page_frames.specs.Pages.{page_start, heading}

-- a row of the table of fields
abbrev pub field_row : List ℕ → List ℕ → List Token
field_row name value = start_tag (codes "tr") ∷ element (codes "th") name ++ element (codes "td") value ++ End (codes "tr") ∷ []

-- the row of a field, if there is one
abbrev pub row_of_field : List ℕ → Option FieldValue → List Token
row_of_field name None = []
row_of_field name (Some field) = field_row name (decoded_of field.lines)

abbrev pub row_of : List FieldValue → List ℕ → List Token
row_of fields name = row_of_field name (first_of name fields)

abbrev pub field_rows : List FieldValue → List Token
field_rows fields = row_of fields (codes "From") ++ row_of fields (codes "To") ++ row_of fields (codes "Cc") ++ row_of fields (codes "Date")

-- the title, or a text in its place if it is empty
abbrev pub title_or_default : List ℕ → List ℕ
title_or_default [] = codes "(no subject)"
title_or_default (b ∷ bs) = b ∷ bs

abbrev pub title_of_field : Option FieldValue → List ℕ
title_of_field None = codes "(no subject)"
title_of_field (Some field) = title_or_default (decoded_of field.lines)

abbrev pub title_of : List FieldValue → List ℕ
title_of fields = title_of_field (first_of (codes "Subject") fields)

unfoldable pub field_table : List FieldValue → List Token
field_table fields = start_tag_with (codes "table") (codes "class") (codes "head") ∷ field_rows fields ++ End (codes "table") ∷ line_end ∷ []

-- all that comes before what is shown, and before the paragraph that offers remote images
unfoldable pub page_head : List FieldValue → Bool → List Token
page_head fields in_session = page_start (title_of fields) in_session ++ heading (title_of fields) ++ field_table fields
