-- Worked examples: the tree of a message, the recipients that readers find in a header, and the lengths of its lines.
use Rattle.std.proofs.Common.{◌≡◌, ℕ, false, List, [], ◌∷◌, ◌++◌, true, refl}
use lib.Utf8.{encode}
use Rattle.std.specs.Prelude.{codes, None, Some, replicate}
use Rattle.std.specs.Str.{chars, is_utf8}
use Rattle.std.specs.Str.Lossy.{utf8_lossy, utf8_valid_len}
use Rattle.header_words.specs.Fields.{header_of}
use Rattle.mail_addresses.specs.Boxes.{address_at, angle_at, bare_at, box_at, boxes_of, boxes_within, domain_at, quoted_at, quoted_box_at, spaced_box_at, unquoted_box_at}
use Rattle.mail_addresses.specs.Runs.{is_local}
use Rattle.mime_content.specs.Content.{content_of}
use Rattle.mime_tree.specs.declared.choice.Shown.TheVariants.{Flowed}
use Rattle.mime_tree.specs.Best.{best_of, leaf_to_show}
use Rattle.mime_tree.specs.Opening.{message_of, node_at, open_first, opens_beside, parts_of, tree_after_steps, tree_of}
use Rattle.transfer_codings.specs.Quoted.{line_bytes, quoted_bytes, unescaped, without_blanks}
use Rattle.transfer_codings.specs.declared.coding.Coding.TheVariants.{Quoted}
use Rattle.draft_laws.specs.Envelopes.{addresses_read}
use Rattle.draft_laws.specs.OneText.{IsOneText, IsTextOf}
use Rattle.compose_drafts.specs.Paragraphs.{is_seven_bit, paragraphs_of}
use Rattle.site_asks.specs.declared.Draft.{Draft}
use Rattle.mime_tree.specs.Tree.{PartValue}
use Rattle.flowed_text.specs.Flow.{flow, line_break}
use Rattle.draft_laws.specs.HeaderLines.{has_free_text, is_narrow}
use Rattle.flowed_text.specs.Lines.{lines}
use Rattle.flowed_text.specs.Paragraphs.{paras_of}

-- a message with a field that looks like one of the body's form in another field, and after the empty line
letter : List ℕ
letter = codes "Subject: Content-Type: text/html\r\nMIME-Version: 1.0\r\nContent-Type: text/plain; charset=utf-8; format=flowed\r\nContent-Transfer-Encoding: quoted-printable\r\n\r\nCaf=C3=A9 \r\n=C3=A0 Z\r\n"

abbrev letter_part : PartValue
letter_part = record {
  section = 1 ∷ [];
  mime = codes "text/plain";
  charset = codes "utf-8";
  coding = Quoted;
  name = [];
  id = None;
  location = None;
  format = Some false;
  attached = false;
  enclosed = false;
  start = 156;
  bytes = codes "Caf=C3=A9 \r\n=C3=A0 Z\r\n";
}

letter_parts : (tree_of letter).parts ≡ letter_part ∷ []
unfolding letter tree_of parts_of message_of tree_after_steps open_first opens_beside node_at content_of header_of utf8_lossy utf8_valid_len is_utf8 chars encode
letter_parts = refl

letter_shown : best_of (tree_of letter) ≡ Flowed (1 ∷ []) false
unfolding letter best_of leaf_to_show tree_of parts_of message_of tree_after_steps open_first opens_beside node_at content_of header_of utf8_lossy utf8_valid_len is_utf8 chars encode
letter_shown = refl

-- the draft with that text. The space at the line's end in the letter is dropped by the coding, so the line does not flow
abbrev note : Draft
note = record { form = 42; identity = 1; to = []; cc = []; subject = []; text = codes "Caf" ++ 195 ∷ 169 ∷ codes "\n" ++ 195 ∷ 160 ∷ codes " Z"; refs = []; old = None }

letter_is_text : IsTextOf note letter_part
unfolding is_seven_bit flow line_break paragraphs_of quoted_bytes line_bytes unescaped without_blanks paras_of lines utf8_lossy utf8_valid_len is_utf8 chars encode
letter_is_text = record { section = refl; mime = refl; charset = refl; format = refl; coding = refl; attached = refl; flowed = refl; paragraphs = refl }

letter_is_note : IsOneText note (tree_of letter)
letter_is_note = record { part = letter_part; parts = letter_parts; is_text = letter_is_text; shown = letter_shown }

-- ---- recipients

-- boxes on lines of their own: one without a name, one with a comma in its name, one whose name is encoded
boxes : List ℕ
boxes = codes "From: a@b\r\nTo: bob@d.example,\r\n \"Lee, A\" <ann@c.example>,\r\n =?utf-8?B?Q2Fmw6k=?= <cafe@e.example>\r\nCc: bob@d.example\r\nSubject: To: c@d\r\n\r\nTo: e@f\r\n"

to_boxes : addresses_read (codes "To") boxes ≡ codes "bob@d.example" ∷ codes "ann@c.example" ∷ codes "cafe@e.example" ∷ []
unfolding boxes header_of boxes_of boxes_within spaced_box_at box_at unquoted_box_at quoted_box_at quoted_at bare_at angle_at domain_at address_at is_local
to_boxes = refl

cc_boxes : addresses_read (codes "Cc") boxes ≡ codes "bob@d.example" ∷ []
unfolding boxes header_of boxes_of boxes_within spaced_box_at box_at unquoted_box_at bare_at domain_at is_local
cc_boxes = refl

no_boxes : addresses_read (codes "Bcc") boxes ≡ []
unfolding boxes header_of boxes_of boxes_within
no_boxes = refl

-- ---- lines

lines_of_998 : is_narrow (codes "A: " ++ replicate 995 97 ++ codes "\r\n " ++ replicate 997 97) ≡ true
lines_of_998 = refl

line_of_999 : is_narrow (codes "A: b\r\n " ++ replicate 998 97) ≡ false
line_of_999 = refl

a_subject : has_free_text (codes "Subject: a") ≡ true
a_subject = refl

no_subject : has_free_text (codes "References: <a@b>") ≡ false
no_subject = refl
