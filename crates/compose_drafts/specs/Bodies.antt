-- What readers of mail make of the body of a built message (RFC 2045, RFC 3676).
use Rattle.std.specs.Prelude.{◌≡◌, ℕ, ◌≤◌, Bool, true, false, List, length, drop}
use Rattle.std.specs.List.{All}
use Rattle.std.specs.Str.Lines.{lines}
use Rattle.flowed_text.specs.Paragraphs.{paras_of}
use Rattle.header_words.specs.Fields.{header_of}
use Rattle.site_asks.specs.declared.Draft.{Draft}
use Rattle.transfer_codings.specs.Charsets.{text_in}
use Rattle.transfer_codings.specs.Codings.{decoded}
use Rattle.transfer_codings.specs.declared.charset.Charset.TheVariants.{Utf8}
use Rattle.transfer_codings.specs.declared.coding.Coding.{Coding}
use Rattle.transfer_codings.specs.declared.coding.Coding.TheVariants.{Plain, Quoted}
use Rattle.compose_drafts.specs.Message.{body}
use Rattle.compose_drafts.specs.Paragraphs.{coded, is_seven_bit, paragraphs_of}

-- the body of a message: what comes after the first empty line
abbrev pub body_in : List ℕ → List ℕ
body_in bytes = drop (header_of bytes).body bytes

-- the coding in which a body is sent
abbrev pub coding_of : Bool → Coding
coding_of true = Plain
coding_of false = Quoted

-- a coded body is decoded to the body, and the lines of quoted-printable have at most 76 characters
pub record CodesBack (seven_bit : Bool) (body : List ℕ) : Type 0 where
  pub decodes : decoded (coding_of seven_bit) (coded seven_bit body) ≡ body
  pub narrow : seven_bit ≡ false → All (λ line. length line ≤ 76) (lines (coded seven_bit body))

-- a sent body is decoded to the flowed text of a draft, which is UTF-8 and reads as the draft's paragraphs. None of its lines has more
-- than 998 bytes, without the CR LF
pub record CarriesText (draft : Draft) (sent : List ℕ) : Type 0 where
  pub decodes : decoded (coding_of (is_seven_bit (body draft))) sent ≡ body draft
  pub is_text : text_in Utf8 (body draft) ≡ body draft
  pub paragraphs : paras_of (body draft) false ≡ paragraphs_of draft.text
  pub short : All (λ line. length line ≤ 998) (lines sent)
