-- Worked examples of structured fields and of the Content-* fields.
use Rattle.std.proofs.Common.{◌≡◌, ℕ, true, false, List, [], ◌∷◌, ◌++◌, Some, None, refl, codes}
use lib.Utf8.{encode}
use Rattle.std.specs.Str.{is_utf8, chars}
use Rattle.std.specs.Str.Lossy.{utf8_lossy, utf8_valid_len}
use Rattle.std.specs.List.{list_any}
use Rattle.transfer_codings.specs.Quoted.{quoted_bytes, line_bytes, without_blanks, unescaped}
use Rattle.header_words.specs.EncodedWords.{with_words_decoded, items_from, joined, word_at, word_text}
use Rattle.header_words.specs.Fields.{FieldValue}
use Rattle.transfer_codings.specs.declared.coding.Coding.TheVariants.{Plain, Base64, Quoted}
use Rattle.mime_content.specs.Pieces.{pieces, parameter, first_piece}
use Rattle.mime_content.specs.Content.{is_type, readable, mime_of, filled, coding_named, is_attachment, id_in, location_in, format_of, content_of}

-- ---- pieces and parameters

pieces_quoted : pieces (codes "a/b; n=\"x;\\\";y\"; m=1;") ≡ codes "a/b" ∷ codes " n=\"x;\\\";y\"" ∷ codes " m=1" ∷ [] ∷ []
pieces_quoted = refl

-- of two parameters of one name the first counts, a piece that doesn't read is passed over, and names ignore case
first_parameter : parameter (codes "boundary") (codes "multipart/mixed; x; Boundary=\"a;\\\"b\" ; boundary=c") ≡ Some (codes "a;\"b")
first_parameter = refl

-- a quoted string that doesn't end doesn't read, nor does one with bytes after it
unread_parameter : parameter (codes "name") (codes "a/b; name=\"x; name=\"y\" z; name=w") ≡ None
unread_parameter = refl

unended_parameter : parameter (codes "name") (codes "a/b; name=\"x") ≡ None
unended_parameter = refl

later_parameter : parameter (codes "name") (codes "a/b; name=\"x\" y; name=w") ≡ Some (codes "w")
later_parameter = refl

trimmed_piece : first_piece (codes " text/html ; a=b") ≡ codes "text/html"
trimmed_piece = refl

name_in_either_case : parameter (codes "charset") (codes "text/plain; CharSet = utf-8") ≡ Some (codes "utf-8")
name_in_either_case = refl

no_parameter : parameter (codes "charset") (codes "charset=x") ≡ None
no_parameter = refl

empty_parameter : parameter (codes "charset") (codes "text/plain; charset=\"\"; charset=x") ≡ Some []
empty_parameter = refl

-- ---- types

a_type : is_type (codes "text/x-y.z+w") ≡ true
a_type = refl

two_slashes : is_type (codes "a/b/c") ≡ false
two_slashes = refl

no_subtype : is_type (codes "text/") ≡ false
no_subtype = refl

spaced_type : is_type (codes "text /plain") ≡ false
spaced_type = refl

-- none of the characters that separate, and nothing outside of ASCII, is in a token (RFC 2045 §5.1)
no_types : list_any is_type (codes "a/b(" ∷ codes "a/b)" ∷ codes "a/b<" ∷ codes "a/b>" ∷ codes "a/b@" ∷ codes "a/b," ∷ codes "a/b;" ∷ codes "a/b:" ∷ codes "a/b\\" ∷ codes "a/b\"" ∷ codes "a/b[" ∷ codes "a/b]" ∷ codes "a/b?" ∷ codes "a/b=" ∷ (codes "a/b" ++ 127 ∷ []) ∷ (codes "a/b" ++ 200 ∷ []) ∷ (codes "a/b" ++ 31 ∷ []) ∷ []) ≡ false
no_types = refl

unread_type : readable (codes "text; charset=x") ≡ []
unread_type = refl

lowered_type : mime_of (codes "text/plain") (codes "Text/HTML; a=b") ≡ codes "text/html"
lowered_type = refl

default_type : mime_of (codes "message/rfc822") [] ≡ codes "message/rfc822"
default_type = refl

empty_boundary : filled (Some []) ≡ None
empty_boundary = refl

-- ---- codings

no_coding : coding_named [] ≡ Some Plain
no_coding = refl

seven_bit : coding_named (codes "7Bit") ≡ Some Plain
seven_bit = refl

eight_bit : coding_named (codes "8bit") ≡ Some Plain
eight_bit = refl

binary : coding_named (codes "binary") ≡ Some Plain
binary = refl

base64 : coding_named (codes "BASE64") ≡ Some Base64
base64 = refl

quoted : coding_named (codes "Quoted-Printable") ≡ Some Quoted
quoted = refl

unknown : coding_named (codes "x-uuencode") ≡ None
unknown = refl

-- ---- dispositions, Content-ID, Content-Location, format

attached : is_attachment (codes " Attachment; filename=a") ≡ true
attached = refl

shown_inline : is_attachment (codes "inline; x=attachment") ≡ false
shown_inline = refl

an_id : id_in (codes "<a@b>") ≡ Some (codes "a@b")
an_id = refl

bare_id : id_in (codes "a@b") ≡ None
bare_id = refl

unended_id : id_in (codes "<a@b") ≡ None
unended_id = refl

half_an_id : id_in (codes "<") ≡ None
half_an_id = refl

no_location : location_in [] ≡ None
no_location = refl

flowed : format_of (codes "text/plain; format=Flowed") ≡ Some false
flowed = refl

flowed_delsp : format_of (codes "text/plain; format=flowed; DelSp=Yes") ≡ Some true
flowed_delsp = refl

fixed : format_of (codes "text/plain; delsp=yes") ≡ None
fixed = refl

-- ---- all fields

-- without any field a part is a text of the default type, in UTF-8
without_fields : content_of (codes "text/plain") [] ≡ record { mime = codes "text/plain"; boundary = None; charset = codes "utf-8"; coding = Some Plain; attached = false; name = []; id = None; location = None; format = None }
unfolding content_of
without_fields = refl

abbrev field : List ℕ → List ℕ → FieldValue
field name value = record { name = name; lines = value ∷ [] }

-- the file's name is that of the disposition, with its words decoded; values lose the blanks around them
with_fields : content_of (codes "text/plain") (field (codes "content-type") (codes " Image/PNG; name=b; Boundary=x; charset=y; format=flowed; delsp=no") ∷ field (codes "CONTENT-DISPOSITION") (codes " attachment; filename=\"=?utf-8?q?a=2E?=png\"") ∷ field (codes "Content-Transfer-Encoding") (codes " BASE64 ") ∷ field (codes "Content-ID") (codes " <i@x> ") ∷ field (codes "Content-Location") (codes " u v ") ∷ [])
    ≡ record { mime = codes "image/png"; boundary = Some (codes "x"); charset = codes "y"; coding = Some Base64; attached = true; name = codes "a.png"; id = Some (codes "i@x"); location = Some (codes "u v"); format = Some false }
unfolding content_of with_words_decoded items_from joined word_at word_text utf8_lossy utf8_valid_len is_utf8 chars encode quoted_bytes line_bytes without_blanks unescaped
with_fields = refl

-- a name that only the type says
named_by_type : content_of (codes "text/plain") (field (codes "Content-Type") (codes "a/b; name=\"=?utf-8?q?c?=\"") ∷ field (codes "Content-Disposition") (codes "inline") ∷ [])
    ≡ record { mime = codes "a/b"; boundary = None; charset = codes "utf-8"; coding = Some Plain; attached = false; name = codes "c"; id = None; location = None; format = None }
unfolding content_of with_words_decoded items_from joined word_at word_text utf8_lossy utf8_valid_len is_utf8 chars encode quoted_bytes line_bytes without_blanks unescaped
named_by_type = refl
