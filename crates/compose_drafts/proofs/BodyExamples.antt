-- Worked examples of bodies as readers take them, and of recipients.
use Rattle.std.proofs.Common.{◌≡◌, ◌≤◌, ℕ, true, false, List, [], ◌∷◌, ◌++◌, length, refl, arith, None, Ok, Err}
use lib.Utf8.{encode}
use Rattle.std.specs.Prelude.{codes}
use Rattle.std.specs.Str.{chars, is_utf8}
use Rattle.std.specs.Str.Lossy.{utf8_lossy, utf8_valid_len}
use Rattle.std.proofs.lemmas.List.Elements.{All-cons, All-nil}
use Rattle.flowed_text.specs.Flow.{flow, line_break}
use Rattle.flowed_text.specs.Lines.{lines as text_lines}
use Rattle.flowed_text.specs.Paragraphs.{paras_of}
use Rattle.header_words.specs.Fields.{header_of}
use Rattle.mail_addresses.specs.Runs.{is_local}
use Rattle.mail_addresses.specs.Boxes.{address_at, angle_at, bare_at, box_at, boxes_of, boxes_within, domain_at, quoted_at, quoted_box_at, spaced_box_at, unquoted_box_at}
use Rattle.site_asks.specs.declared.Draft.{Draft}
use Rattle.transfer_codings.specs.Codings.{decoded}
use Rattle.transfer_codings.specs.Quoted.{line_bytes, quoted_bytes, unescaped, without_blanks}
use Rattle.transfer_codings.specs.QuotedRows.{broken_lines, quoted_text, rows_text, unit_of}
use Rattle.compose_drafts.specs.declared.DraftFault.TheVariants as faults
use Rattle.compose_drafts.specs.Bodies.{CarriesText, body_in, coding_of}
use Rattle.compose_drafts.specs.Drafts.{recipients_of}
use Rattle.compose_drafts.specs.Paragraphs.{coded, is_seven_bit, paragraphs_of}
use Rattle.compose_drafts.specs.Recipients.{addresses_of}

-- ---- bodies

after_the_empty_line : body_in (codes "A: b\r\n c\r\n\r\nHello\r\n\r\nB: d\r\n") ≡ codes "Hello\r\n\r\nB: d\r\n"
unfolding header_of
after_the_empty_line = refl

no_body : body_in (codes "A: b\r\n\r\n") ≡ []
unfolding header_of
no_body = refl

cafe : List ℕ
cafe = codes "Caf" ++ 195 ∷ 169 ∷ codes " = 1\r\n"

quoted_cafe : coded false cafe ≡ codes "Caf=C3=A9 =3D 1\r\n"
unfolding cafe quoted_text broken_lines rows_text unit_of
quoted_cafe = refl

read_cafe : decoded (coding_of false) (codes "Caf=C3=A9 =3D 1\r\n") ≡ cafe
unfolding cafe quoted_bytes line_bytes unescaped without_blanks
read_cafe = refl

read_plain : decoded (coding_of true) (codes "a =3D\r\n") ≡ codes "a =3D\r\n"
read_plain = refl

-- a draft whose body is sent as quoted-printable
abbrev cafe_draft : Draft
cafe_draft = record { form = 42; identity = 1; to = []; cc = []; subject = []; text = codes " Caf" ++ 195 ∷ 169 ∷ codes "\n> a"; refs = []; old = None }

cafe_carried : CarriesText cafe_draft (codes "Caf=C3=A9\r\n> a\r\n")
unfolding quoted_bytes line_bytes unescaped without_blanks flow line_break paragraphs_of text_lines is_seven_bit paras_of utf8_lossy utf8_valid_len is_utf8 chars encode
cafe_carried = record {
  decodes = refl;
  is_text = refl;
  paragraphs = refl;
  short = All-cons (λ (line : List ℕ). length line ≤ 998) (codes "Caf=C3=A9") (codes "> a" ∷ []) (omega arith) (All-cons (λ (line : List ℕ). length line ≤ 998) (codes "> a") [] (omega arith) (All-nil (λ (line : List ℕ). length line ≤ 998)));
}

-- ---- recipients

letter : List ℕ → List ℕ → Draft
letter to cc = record { form = 42; identity = 1; to = to; cc = cc; subject = []; text = []; refs = []; old = None }

-- the boxes of both fields in their order, without names; the same box may come twice
both_fields : addresses_of (letter (codes "\"Lee, A\" <ann@c.example>, bob@d.example") (codes " bob@d.example")) ≡ Ok (codes "ann@c.example" ∷ codes "bob@d.example" ∷ codes "bob@d.example" ∷ [])
unfolding letter addresses_of recipients_of boxes_of boxes_within spaced_box_at box_at unquoted_box_at quoted_box_at quoted_at bare_at angle_at domain_at address_at is_local
both_fields = refl

copies_alone : addresses_of (letter (codes "  ") (codes "bob@d.example")) ≡ Ok (codes "bob@d.example" ∷ [])
unfolding letter addresses_of recipients_of boxes_of boxes_within spaced_box_at box_at unquoted_box_at bare_at domain_at is_local
copies_alone = refl

nobody : addresses_of (letter (codes " ") []) ≡ Err faults.NoRecipient
unfolding letter addresses_of
nobody = refl

-- the fault of `to` comes before that of `cc`
first_fault : addresses_of (letter (codes "bob@") (codes "@")) ≡ Err (faults.NotAddress (codes "to") 4)
unfolding letter addresses_of recipients_of boxes_of boxes_within spaced_box_at box_at unquoted_box_at bare_at domain_at is_local
first_fault = refl

second_fault : addresses_of (letter (codes "bob@d.example") (codes "bob@")) ≡ Err (faults.NotAddress (codes "cc") 4)
unfolding letter addresses_of recipients_of boxes_of boxes_within spaced_box_at box_at unquoted_box_at bare_at domain_at is_local
second_fault = refl
