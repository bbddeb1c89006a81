-- What readers of mail make of a built message: one part, the text of its draft (RFC 2045, RFC 2046, RFC 3676).
use Rattle.std.specs.Prelude.{◌≡◌, ℕ, ℤ, false, List, [], ◌∷◌, codes, Some, Result}
use Rattle.account_pictures.specs.declared.records.Identity.{Identity}
use Rattle.flowed_text.specs.Flow.{flow}
use Rattle.flowed_text.specs.Paragraphs.{paras_of}
use Rattle.mime_tree.specs.declared.choice.Shown.TheVariants.{Flowed}
use Rattle.mime_tree.specs.Best.{best_of}
use Rattle.mime_tree.specs.Opening.{tree_of}
use Rattle.mime_tree.specs.Tree.{PartValue, TreeValue}
use Rattle.site_asks.specs.declared.Draft.{Draft}
use Rattle.transfer_codings.specs.Charsets.{charset_named, text_in}
use Rattle.transfer_codings.specs.Codings.{decoded}
use Rattle.transfer_codings.specs.declared.charset.Charset.TheVariants.{Utf8}
use Rattle.compose_drafts.specs.declared.DraftFault.{DraftFault}
use Rattle.compose_drafts.specs.declared.parties.Parties.{Parties}
use Rattle.compose_drafts.specs.Bodies.{CarriesText, body_in, coding_of}
use Rattle.compose_drafts.specs.Drafts.{IsSent}
use Rattle.compose_drafts.specs.Message.{body}
use Rattle.compose_drafts.specs.Paragraphs.{is_seven_bit, paragraphs_of}

-- a part that is the text of a draft: plain text in UTF-8, flowed without DelSp. Decoded, it is the draft's paragraphs as flowed text, and
-- that text is read as the paragraphs
pub record IsTextOf (draft : Draft) (part : PartValue) : Type 0 where
  pub section : part.section ≡ 1 ∷ []
  pub mime : part.mime ≡ codes "text/plain"
  pub charset : charset_named part.charset ≡ Some Utf8
  pub format : part.format ≡ Some false
  pub coding : part.coding ≡ coding_of (is_seven_bit (body draft))
  pub attached : part.attached ≡ false
  pub flowed : decoded part.coding part.bytes ≡ flow (paragraphs_of draft.text)
  pub paragraphs : paras_of (text_in Utf8 (decoded part.coding part.bytes)) false ≡ paragraphs_of draft.text

-- a tree whose one part is the text of a draft, and is shown as flowed text
pub record IsOneText (draft : Draft) (tree : TreeValue) : Type 0 where
  pub part : PartValue
  pub parts : tree.parts ≡ part ∷ []
  pub is_text : IsTextOf draft part
  pub shown : best_of tree ≡ Flowed (1 ∷ []) false

-- the tree of each message that is built is one text: the premises are clauses of the builder
abbrev pub MessagesAreOneText : (Draft → Identity → Result Parties DraftFault) → Type 0
MessagesAreOneText read = (draft : Draft) (identity : Identity) (moment : ℤ) (bytes : List ℕ) → IsSent draft (read draft identity) moment bytes → CarriesText draft (body_in bytes) → IsOneText draft (tree_of bytes)
