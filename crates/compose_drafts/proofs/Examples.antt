-- Worked examples of built messages.
use Rattle.std.proofs.Common.{◌≡◌, ℕ, true, false, List, [], ◌∷◌, ◌++◌, refl, rules, Some, None, Ok, Err}
use Rattle.std.specs.Prelude.{◌+◌, codes, map, pos, replicate}
use Rattle.std.specs.List.{flat_map, range_with_len}
use Rattle.account_pictures.specs.declared.records.Identity.{Identity}
use Rattle.base64.specs.Rfc4648.{encode_symbols}
use Rattle.jiff_core.specs.declared.civil.datetime.DateTime.{DateTime}
use Rattle.jiff_core.specs.Calendar.{weekday_number, days_from_civil, day_count, days_of_years, days_of_months}
use Rattle.flowed_text.specs.Flow.{flow, line_break}
use Rattle.flowed_text.specs.Lines.{lines}
use Rattle.header_words.specs.MessageIds.{ids_in}
use Rattle.mail_addresses.specs.Runs.{is_local}
use Rattle.mail_addresses.specs.Boxes.{address_at, angle_at, bare_at, box_at, boxes_of, boxes_within, domain_at, is_address, spaced_box_at, unquoted_box_at}
use Rattle.site_asks.specs.declared.Draft.{Draft}
use Rattle.compose_drafts.specs.declared.DraftFault.TheVariants as faults
use Rattle.compose_drafts.specs.Drafts.{limit, parties_of, recipients_of, sent_parties_of, saved_parties_of, sender_of}
use Rattle.compose_drafts.specs.declared.parties.Parties.{Parties}
use Rattle.compose_drafts.specs.Message.{header, hex_digits, message}
use Rattle.compose_drafts.specs.Moments.{date_text}
use Rattle.compose_drafts.specs.Paragraphs.{is_seven_bit, paragraphs_of}
use Rattle.compose_drafts.specs.References.{references_of}
use Rattle.compose_drafts.specs.Texts.{box_text, boxes_text, is_plain, line_end, pieces, word_len, written}

ann : Identity
ann = record { name = codes "Ann"; address = codes "ann@c.example" }

letter : List ℕ → List ℕ → List ℕ → List ℕ → Draft
letter to subject refs text = record { form = 42; identity = 1; to = to; cc = []; subject = subject; text = text; refs = refs; old = None }

-- the first second of 2026
new_year : DateTime
new_year = record {
  date = record { year = pos 2026; month = 1; day = 1; year_in = search rules; month_in = search rules; day_in = search rules };
  time = record { hour = 0; minute = 0; second = 0; subsec_nanosecond = 0; hour_in = search rules; minute_in = search rules; second_in = search rules; subsec_in = search rules };
}

cafe : List ℕ
cafe = codes "Caf" ++ 195 ∷ 169 ∷ []

text_lines : List (List ℕ) → List ℕ
text_lines [] = []
text_lines (line ∷ more) = line ++ line_end ++ text_lines more

hello : Draft
hello = letter (codes "bob@d.example") cafe [] (codes "Hello")

parties : Parties
parties = record { from = Some (codes "\"Ann\" <ann@c.example>"); to = Some (codes "bob@d.example"); cc = None; domain = codes "c.example" }

hello_parties : parties_of hello ann ≡ Ok parties
unfolding hello letter ann parties parties_of sent_parties_of recipients_of sender_of boxes_of boxes_within spaced_box_at box_at unquoted_box_at bare_at angle_at domain_at address_at is_address is_local box_text boxes_text is_plain
hello_parties = refl

hello_built : message hello parties new_year ≡ text_lines (
    codes "Date: Thu, 01 Jan 2026 00:00:00 +0000"
    ∷ codes "From: \"Ann\" <ann@c.example>"
    ∷ codes "To: bob@d.example"
    ∷ codes "Subject: =?utf-8?B?Q2Fmw6k=?="
    ∷ codes "Message-ID: <000000000000002a@c.example>"
    ∷ codes "MIME-Version: 1.0"
    ∷ codes "Content-Type: text/plain; charset=utf-8; format=flowed"
    ∷ codes "Content-Transfer-Encoding: 7bit"
    ∷ []
    ∷ codes "Hello"
    ∷ [])
unfolding hello letter cafe parties new_year date_text hex_digits text_lines message header written is_plain pieces word_len paragraphs_of references_of ids_in is_seven_bit flow line_break lines encode_symbols weekday_number days_from_civil day_count days_of_years days_of_months
hello_built = refl

-- the same message, as an answer to `b@y`
answer : Draft
answer = letter (codes "bob@d.example") cafe (codes "<a@x> <b@y>") (codes "Hello")

answer_header : header answer parties new_year true ≡
    codes "Date: Thu, 01 Jan 2026 00:00:00 +0000"
    ∷ codes "From: \"Ann\" <ann@c.example>"
    ∷ codes "To: bob@d.example"
    ∷ codes "Subject: =?utf-8?B?Q2Fmw6k=?="
    ∷ codes "In-Reply-To: <b@y>"
    ∷ (codes "References: <a@x>" ++ line_end ++ codes " <b@y>")
    ∷ codes "Message-ID: <000000000000002a@c.example>"
    ∷ codes "MIME-Version: 1.0"
    ∷ codes "Content-Type: text/plain; charset=utf-8; format=flowed"
    ∷ codes "Content-Transfer-Encoding: 7bit"
    ∷ []
unfolding answer letter cafe parties new_year date_text hex_digits header written is_plain pieces word_len references_of ids_in encode_symbols weekday_number days_from_civil day_count days_of_years days_of_months
answer_header = refl

-- ---- faults, in their order

nobody : parties_of (letter (codes "  ") [] [] []) ann ≡ Err faults.NoRecipient
unfolding letter ann parties_of
nobody = refl

half_an_address : parties_of (letter (codes "bob@") [] [] []) ann ≡ Err (faults.NotAddress (codes "to") 4)
unfolding letter ann parties_of sent_parties_of recipients_of sender_of boxes_of boxes_within spaced_box_at box_at unquoted_box_at bare_at angle_at domain_at address_at is_address is_local
half_an_address = refl

two_senders : sender_of (codes "a@b,c@d") ≡ Err (faults.NotAddress (codes "identity") 0)
unfolding sender_of boxes_of boxes_within spaced_box_at box_at unquoted_box_at bare_at angle_at domain_at address_at is_address is_local
two_senders = refl

-- ---- a saved draft: recipients as they are written, and no sender without an address

saved : saved_parties_of (letter (codes "bob@, Ann") [] [] []) (record { name = []; address = codes "ann" }) ≡ Ok (record { from = None; to = Some (codes "bob@, Ann"); cc = None; domain = codes "webmail" })
unfolding letter saved_parties_of is_address is_local written is_plain
saved = refl

-- ---- names

plain_name : box_text (codes "Ann \"A\" \\") (codes "a@b") ≡ codes "\"Ann \\\"A\\\" \\\\\" <a@b>"
unfolding box_text is_plain
plain_name = refl

named_cafe : box_text cafe (codes "a@b") ≡ codes "=?utf-8?B?Q2Fmw6k=?= <a@b>"
unfolding cafe box_text is_plain pieces word_len encode_symbols
named_cafe = refl

no_name : box_text [] (codes "a@b") ≡ codes "a@b"
unfolding box_text
no_name = refl

-- a text that looks like an encoded word is encoded
word_in_subject : written (codes "=?x") ≡ codes "=?utf-8?B?PT94?="
unfolding written is_plain pieces word_len encode_symbols
word_in_subject = refl

-- a line break is encoded
broken_subject : written (97 ∷ 13 ∷ 10 ∷ 98 ∷ []) ≡ codes "=?utf-8?B?YQ0KYg==?="
unfolding written is_plain pieces word_len encode_symbols
broken_subject = refl

-- 23 characters of two bytes are more than 45 bytes, and a word ends before the last of them
whole_characters : pieces (flat_map (λ n. 195 ∷ 169 ∷ []) (range_with_len 0 23)) ≡ flat_map (λ n. 195 ∷ 169 ∷ []) (range_with_len 0 22) ∷ (195 ∷ 169 ∷ []) ∷ []
unfolding pieces word_len
whole_characters = refl

-- ---- texts

abbrev body_of : List ℕ → List ℕ
body_of text = flow (paragraphs_of text)

no_text : body_of [] ≡ []
unfolding paragraphs_of flow lines
no_text = refl

outer_spaces : body_of (codes "  a  " ++ 10 ∷ codes "> >  b ") ≡ text_lines (codes "a" ∷ codes "> >  b" ∷ [])
unfolding paragraphs_of flow lines line_break text_lines
outer_spaces = refl

signature_line : body_of (codes "a" ++ 10 ∷ codes "-- " ++ 10 ∷ codes "Ann") ≡ text_lines (codes "a" ∷ codes "-- " ∷ codes "Ann" ∷ [])
unfolding paragraphs_of flow lines line_break text_lines
signature_line = refl

from_line : body_of (codes "From me") ≡ text_lines (codes " From me" ∷ [])
unfolding paragraphs_of flow lines line_break text_lines
from_line = refl

-- a word of 80 bytes is not broken
long_word : body_of (replicate 80 97) ≡ text_lines (replicate 80 97 ∷ [])
unfolding paragraphs_of flow lines line_break text_lines
long_word = refl

-- lines of 997 and 998 bytes go as they are, one of 999 doesn't
line_997 : is_seven_bit (body_of (replicate 997 97)) ≡ true
unfolding is_seven_bit paragraphs_of flow lines line_break
line_997 = refl

line_998 : is_seven_bit (body_of (replicate 998 97)) ≡ true
unfolding is_seven_bit paragraphs_of flow lines line_break
line_998 = refl

line_999 : is_seven_bit (body_of (replicate 999 97)) ≡ false
unfolding is_seven_bit paragraphs_of flow lines line_break
line_999 = refl

-- ---- references

-- the identifiers from `A@x` on
abbrev id : ℕ → List ℕ
id n = (65 + n) ∷ codes "@x"

last_twenty : references_of (flat_map (λ n. 60 ∷ id n ++ 62 ∷ []) (range_with_len 0 25)) ≡ map id (range_with_len 5 20)
unfolding references_of ids_in
last_twenty = refl

-- an identifier of more than 200 bytes, and one that isn't visible, are passed over
not_written : references_of (60 ∷ replicate 199 97 ++ codes "@x><" ++ 127 ∷ codes "@x><b@y>") ≡ codes "b@y" ∷ []
unfolding references_of ids_in
not_written = refl

-- the longest text of a draft
limit_is_a_number : limit ≡ 524_288
limit_is_a_number = refl
