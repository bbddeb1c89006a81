-- The body of a message is decoded to the flowed text of its draft, and its lines are short.
use Rattle.std.proofs.Common.{◌≡◌, ◌≤◌, ◌<◌, ℕ, ℤ, suc, ◌+◌, Bool, true, false, List, [], ◌∷◌, ◌++◌, length, drop, append_assoc, refl, sym, ap, ◌∙◌, subst, arith, Ok, Err}
use Rattle.std.specs.Prelude.{if◌then◌else◌, Result, IfOk, OnOk}
use Rattle.std.specs.List.{All, flat_map, list_all, slice_split}
use Rattle.std.specs.Str.{IsUtf8}
use Rattle.std.specs.Str.Lines.{lines, strip_carriage_return}
use Rattle.std.proofs.lemmas.Bool.{and_parts}
use Rattle.std.proofs.lemmas.Bool.Decides.{nat_tests}
use Rattle.std.proofs.lemmas.List.{length_push}
use Rattle.std.proofs.lemmas.List.Elements.{All-cons, All-nil, All-same}
use Rattle.std.proofs.lemmas.List.Splits.{length-slice_split}
use Rattle.std.proofs.lemmas.Str.{utf8_lossy-IsUtf8}
use Rattle.flowed_text.specs.Flow.{flow}
use Rattle.flowed_text.specs.Paragraphs.{paras_of}
use Rattle.header_words.specs.Fields.{header_of}
use Rattle.header_words.specs.Lines.{body_of, header_size, is_filled, is_newline}
use Rattle.jiff_core.specs.declared.civil.datetime.DateTime.{DateTime}
use Rattle.site_asks.specs.declared.Draft.{Draft}
use Rattle.transfer_codings.specs.Quoted.{quoted_bytes}
use Rattle.transfer_codings.specs.QuotedRows.{quoted_text}
use Rattle.compose_drafts.specs.declared.DraftFault.{DraftFault}
use Rattle.compose_drafts.specs.declared.parties.Parties.{Parties}
use Rattle.compose_drafts.specs.Bodies.{CarriesText, CodesBack, body_in}
use Rattle.compose_drafts.specs.Drafts.{IsMessage}
use Rattle.compose_drafts.specs.Lines.{IsLines, is_line}
use Rattle.compose_drafts.specs.Message.{body, header, message}
use Rattle.compose_drafts.specs.Paragraphs.{coded, has_short_lines, is_ascii, is_line_feed, is_seven_bit, is_short, paragraphs_of}
use Rattle.compose_drafts.specs.Texts.{ended, line_end}
use Rattle.compose_drafts.proofs.BodyLines.{flow_lines, paragraph_lines}
use Rattle.compose_drafts.proofs.MessageLines.{HavePartyLines, header_lines}
use Rattle.compose_drafts.proofs.WholeLines.{lines_ended, split_ended, strip_ended}

-- ---- codings

pub on_ok : {X E P : Type 0} (result : Result X E) → P → OnOk result P
on_ok (Ok x) p = p
on_ok (Err e) p = tt

pub plain_back : (seven_bit : Bool) (text : List ℕ) → seven_bit ≡ true → CodesBack seven_bit text
plain_back true text e = record { decodes = refl; narrow = λ f. cc f }
plain_back false text e = cc e

pub quoted_back : (seven_bit : Bool) (text quoted : List ℕ) → seven_bit ≡ false → quoted ≡ quoted_text text → quoted_bytes quoted ≡ text → All (λ line. length line ≤ 76) (lines quoted) → CodesBack seven_bit text
quoted_back true text quoted e q d n = cc e
quoted_back false text quoted e q d n = record {
  decodes = subst (λ t. quoted_bytes t ≡ text) q d;
  narrow = λ _. All-same (λ (line : List ℕ). length line ≤ 76) (lines (quoted_text text)) (lines quoted) (ap lines (sym q)) n;
}

-- ---- short lines

short_lines : (parts : List (List ℕ)) → list_all is_line parts ≡ true → has_short_lines (flat_map ended parts) ≡ true → All (λ line. length line ≤ 998) (lines (flat_map ended parts))
short_lines [] h s = All-nil (λ (line : List ℕ). length line ≤ 998)
short_lines (line ∷ more) h s =
    let cut = and_parts (is_line line) (list_all is_line more) h in
    let rest : List ℕ = flat_map ended more in
    let whole : flat_map ended (line ∷ more) ≡ line ++ 13 ∷ 10 ∷ rest = append_assoc line (13 ∷ 10 ∷ []) rest in
    let split : slice_split is_line_feed (flat_map ended (line ∷ more)) ≡ (line ++ 13 ∷ []) ∷ slice_split is_line_feed rest = ap (slice_split is_line_feed) whole ∙ split_ended line rest cut.0 in
    let shorts = and_parts (is_short (line ++ 13 ∷ [])) (has_short_lines rest) (subst (λ ps. list_all is_short ps ≡ true) split s) in
    let within = shorts.0 in
    let size : length (line ++ 13 ∷ []) ≡ length line + 1 = length_push line 13 in
    let first : length line ≤ 998 = grind (arith, nat_tests) in
    All-same (λ (l : List ℕ). length l ≤ 998) (lines (flat_map ended (line ∷ more))) (line ∷ lines rest) (ap lines whole ∙ lines_ended line rest cut.0)
    (All-cons (λ (l : List ℕ). length l ≤ 998) line (lines rest) first (short_lines more cut.1 shorts.1))

short_body : (text : List ℕ) → IsLines text → is_seven_bit text ≡ true → All (λ line. length line ≤ 998) (lines text)
unfolding is_seven_bit
short_body text found s =
    let short = (and_parts (list_all is_ascii text) (has_short_lines text) s).1 in
    All-same (λ (line : List ℕ). length line ≤ 998) (lines text) (lines (flat_map ended found.lines)) (ap lines found.bytes_are)
    (short_lines found.lines found.are_lines (subst (λ t. has_short_lines t ≡ true) found.bytes_are short))

short_sent : (seven_bit : Bool) (text : List ℕ) → IsLines text → seven_bit ≡ is_seven_bit text → CodesBack seven_bit text → All (λ line. length line ≤ 998) (lines (coded seven_bit text))
short_sent true text found e back = short_body text found (sym e)
short_sent false text found e back = λ k d within. omega (arith, back.narrow refl k d within)

-- ---- the text of a draft

pub text_carried : (draft : Draft) (bytes again text : List ℕ) (seven_bit : Bool) → text ≡ draft.text → bytes ≡ flow (paragraphs_of text) → IsUtf8 bytes → paras_of bytes false ≡ paragraphs_of text → seven_bit ≡ is_seven_bit bytes → again ≡ bytes → CodesBack seven_bit again
    → CarriesText draft (coded (is_seven_bit (body draft)) (body draft))
text_carried draft bytes again text seven_bit t b u p s a back =
    let same : bytes ≡ body draft = b ∙ ap (λ x. flow (paragraphs_of x)) t in
    let seven : seven_bit ≡ is_seven_bit (body draft) = s ∙ ap is_seven_bit same in
    let coded_back : CodesBack (is_seven_bit (body draft)) (body draft) = subst (λ x. CodesBack x (body draft)) seven (subst (λ x. CodesBack seven_bit x) (a ∙ same) back) in
    record {
      decodes = coded_back.decodes;
      is_text = utf8_lossy-IsUtf8 (body draft) (subst IsUtf8 same u);
      paragraphs = ap (λ x. paras_of x false) (sym same) ∙ p ∙ ap paragraphs_of t;
      short = short_sent (is_seven_bit (body draft)) (body draft) (flow_lines (paragraphs_of draft.text) (paragraph_lines draft.text)) refl coded_back;
    }

-- ---- the place of the body

size_more : (part : List ℕ) (parts : List (List ℕ)) → 0 < length parts → header_size (part ∷ parts) ≡ length part + 1 + (if is_filled (strip_carriage_return part) then header_size parts else 0)
size_more part [] some = absurd (omega arith)
size_more part (next ∷ more) some = refl

drop_line : (line after : List ℕ) (n size : ℕ) → size ≡ length line + 2 + n → drop size (line ++ 13 ∷ 10 ∷ after) ≡ drop n after
drop_line [] after n size e = let two : size ≡ suc (suc n) = omega arith in rw two refl
drop_line (c ∷ line) after n size e = let more : size ≡ suc (length line + 2 + n) = omega arith in rw more (drop_line line after n (length line + 2 + n) refl)

-- the size of a header whose first line is this one
first_size : (line after : List ℕ) → is_line line ≡ true → body_of (line ++ 13 ∷ 10 ∷ after) ≡ length line + 2 + (if is_filled line then body_of after else 0)
first_size line after h =
    let parts : List (List ℕ) = slice_split is_newline after in
    let size : length (line ++ 13 ∷ []) ≡ length line + 1 = length_push line 13 in
    let some : 0 < length parts = omega (arith, length-slice_split is_newline after) in
    let cut : body_of (line ++ 13 ∷ 10 ∷ after) ≡ length (line ++ 13 ∷ []) + 1 + (if is_filled (strip_carriage_return (line ++ 13 ∷ [])) then header_size parts else 0) = ap header_size (split_ended line after h) ∙ size_more (line ++ 13 ∷ []) parts some in
    let shown : (if is_filled (strip_carriage_return (line ++ 13 ∷ [])) then header_size parts else 0) ≡ (if is_filled line then header_size parts else 0) = ap (λ l. if is_filled l then header_size parts else 0) (strip_ended line) in
    omega arith

pub body_after : (found : List (List ℕ)) (rest : List ℕ) → list_all is_line found ≡ true → list_all is_filled found ≡ true → drop (body_of (flat_map ended found ++ 13 ∷ 10 ∷ rest)) (flat_map ended found ++ 13 ∷ 10 ∷ rest) ≡ rest
body_after [] rest h g = drop_line [] rest 0 (body_of (13 ∷ 10 ∷ rest)) (first_size [] rest refl)
body_after (line ∷ more) rest h g =
    let cut = and_parts (is_line line) (list_all is_line more) h in
    let filled = and_parts (is_filled line) (list_all is_filled more) g in
    let after : List ℕ = flat_map ended more ++ 13 ∷ 10 ∷ rest in
    let whole : flat_map ended (line ∷ more) ++ 13 ∷ 10 ∷ rest ≡ line ++ 13 ∷ 10 ∷ after = simp append_assoc refl in
    let size : body_of (line ++ 13 ∷ 10 ∷ after) ≡ length line + 2 + body_of after = first_size line after cut.0 ∙ ap (λ b. length line + 2 + (if b then body_of after else 0)) filled.0 in
    ap (λ t. drop (body_of t) t) whole ∙ drop_line line after (body_of after) (body_of (line ++ 13 ∷ 10 ∷ after)) size ∙ body_after more rest cut.1 filled.1

pub message_body : (draft : Draft) (parties : Parties) (clock : DateTime) → HavePartyLines parties → body_in (message draft parties clock) ≡ coded (is_seven_bit (body draft)) (body draft)
unfolding message header_of
message_body draft parties clock h =
    let seven_bit : Bool = is_seven_bit (body draft) in
    let fields : List ℕ = flat_map ended (header draft parties clock seven_bit) in
    let after : List ℕ = coded seven_bit (body draft) in
    let x = header_lines draft parties clock seven_bit h in
    let cut : (fields ++ line_end) ++ after ≡ flat_map ended x.lines ++ 13 ∷ 10 ∷ after = append_assoc fields line_end after ∙ ap (λ t. t ++ (13 ∷ 10 ∷ after)) x.bytes_are in
    ap (λ t. drop (body_of t) t) cut ∙ body_after x.lines after x.are_lines x.are_filled

pub built_carries : (draft : Draft) (read : Result Parties DraftFault) (parties : Parties) (moment : ℤ) (bytes : List ℕ) → IfOk read HavePartyLines → read ≡ Ok parties → IsMessage draft parties moment bytes → CarriesText draft (coded (is_seven_bit (body draft)) (body draft))
    → CarriesText draft (body_in bytes)
built_carries draft read parties moment bytes h e built carried =
    let p : HavePartyLines parties = subst (λ r. IfOk r HavePartyLines) e h in
    subst (λ sent. CarriesText draft sent) (sym (ap body_in built.bytes_are ∙ message_body draft parties built.clock p)) carried
