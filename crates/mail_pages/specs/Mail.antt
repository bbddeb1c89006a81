-- What is shown of a message, and its tokens.
use Rattle.std.specs.Prelude.{ℕ, Bool, ◌||◌, List, [], ◌∷◌, ◌++◌, if◌then◌else◌, codes, chars, bytes_eq, Option, Some, None, is_some, unwrap_or, option_and_then}
use Rattle.html_syntax.specs.Token.{Token}
use Rattle.html_syntax.specs.Token.Token.{End}
use Rattle.html_rules.specs.Tokens.{start_tag}
use Rattle.mail_values.specs.Section.{spelling}
use Rattle.transfer_codings.specs.Codings.{decoded}
use Rattle.transfer_codings.specs.Charsets.{charset_named, text_in}
use Rattle.transfer_codings.specs.declared.charset.Charset.TheVariants.{Utf8}
use Rattle.mime_tree.specs.declared.choice.Shown.{Shown}
use Rattle.mime_tree.specs.declared.choice.Shown.TheVariants.{Plain, Flowed, Html, Unread, Nothing}
use Rattle.mime_tree.specs.Best.{best_of, part_at, shown_as, is_html}
use Rattle.mime_tree.specs.Tree.{PartValue, TreeValue}
use Rattle.html_syntax.specs.Tokenizer.{tokens}
use Rattle.cid_parts.specs.Located.{ReferencesValue, located_parts, base_of}
use Rattle.wash_attributes.specs.declared.place.Place.{Place}
use Rattle.wash_attributes.specs.Addresses.{given_of}
use Rattle.html_wash.specs.Wash.{wash}
use Rattle.flowed_text.specs.Paragraphs.{paras_of}
use Rattle.mail_pages.specs.Text.{with_line_feeds}
use Rattle.mail_pages.specs.Flowed.{flowed_paras}
use Rattle.page_frames.specs.Elements.{text, element, line_end}

-- ---- which part

-- a plain text or a page
abbrev pub is_text_part : PartValue → Bool
is_text_part p = bytes_eq p.mime (codes "text/plain") || is_html p

-- how a text is shown, if its charset is read
abbrev pub text_shown_as : PartValue → Shown
text_shown_as p = if is_some (charset_named p.charset) then shown_as p else Unread p.section

-- how a part that was asked for is shown, attached or not, and wherever it is: None if it is no text
abbrev pub shown_if_requested : PartValue → Option Shown
shown_if_requested p = if is_text_part p then Some (text_shown_as p) else None

-- what is shown: the requested text, else the best part
abbrev pub choice : TreeValue → Option (List ℕ) → Option Shown
choice tree None = Some (best_of tree)
choice tree (Some section) = option_and_then shown_if_requested (part_at section tree.parts)

-- ---- its tokens

-- the text of a part, in UTF-8: decoded by its coding and its charset
abbrev pub decoded_text : PartValue → List ℕ
decoded_text p = text_in (unwrap_or (charset_named p.charset) Utf8) (decoded p.coding p.bytes)

-- the text of a part, with CR LF and lone CR as LF
abbrev pub text_of_part : PartValue → List ℕ
text_of_part p = with_line_feeds (decoded_text p)

-- a plain text
unfoldable pub plain_text : List ℕ → List Token
plain_text content = start_tag (codes "pre") ∷ line_end ∷ text content ++ End (codes "pre") ∷ []

-- flowed text: its paragraphs
unfoldable pub flowed_tokens : Bool → PartValue → List Token
flowed_tokens del_sp p = flowed_paras (paras_of (decoded_text p) del_sp)

-- what the addresses in an HTML part refer to: its Content-Location is their base
abbrev pub references_in : List PartValue → PartValue → ReferencesValue
references_in parts p = record { parts = located_parts parts; base = base_of p.location }

-- HTML: the washed tokens of its text; the site has the message's parts at `place`
unfoldable pub washed_html : Place → List PartValue → Bool → PartValue → List Token
washed_html place parts images p = wash (given_of (references_in parts p) place images) (tokens (chars (decoded_text p)))

-- a paragraph in place of a text
unfoldable pub paragraph : List ℕ → List Token
paragraph content = element (codes "p") content

abbrev pub unread_words : PartValue → List ℕ
unread_words p = codes "Charset " ++ p.charset ++ codes " is not read here; part " ++ spelling p.section ++ codes " is offered below."

abbrev pub plain_part : Option PartValue → List Token
plain_part (Some p) = plain_text (text_of_part p)
plain_part None = []

abbrev pub flowed_part : Bool → Option PartValue → List Token
flowed_part del_sp (Some p) = flowed_tokens del_sp p
flowed_part del_sp None = []

abbrev pub unread_part : Option PartValue → List Token
unread_part (Some p) = paragraph (unread_words p)
unread_part None = []

abbrev pub html_part : Place → List PartValue → Bool → Option PartValue → List Token
html_part place parts images (Some p) = washed_html place parts images p
html_part place parts images None = []

-- the tokens of what is shown; `images` tells whether remote pictures were requested
unfoldable pub mail_of : Place → List PartValue → Bool → Shown → List Token
mail_of place parts images (Plain section) = plain_part (part_at section parts)
mail_of place parts images (Unread section) = unread_part (part_at section parts)
mail_of place parts images Nothing = paragraph (codes "No text to show.")
mail_of place parts images (Flowed section del_sp) = flowed_part del_sp (part_at section parts)
mail_of place parts images (Html section) = html_part place parts images (part_at section parts)

-- no tokens if nothing is shown
abbrev pub mail_or_none : Place → List PartValue → Bool → Option Shown → List Token
mail_or_none place parts images (Some shown) = mail_of place parts images shown
mail_or_none place parts images None = []
