-- The tree of a built message.
use Rattle.std.proofs.Common.{◌≡◌, ℕ, ℤ, suc, ◌+◌, ◌-◌, Bool, true, false, List, [], ◌∷◌, length, drop, length-drop, refl, sym, ap, ◌∙◌, subst, arith}
use Rattle.std.specs.Prelude.{◌&&◌, nat_le, codes, Some, None, Result, IfOk, slice_range}
use lib.Utf8.{encode}
use Rattle.std.specs.Str.{chars, is_utf8}
use Rattle.std.specs.Str.Lossy.{utf8_lossy, utf8_valid_len}
use Rattle.std.proofs.lemmas.List.{take_all}
use Rattle.flowed_text.specs.Paragraphs.{paras_of}
use Rattle.header_words.specs.Fields.{Header, header_of}
use Rattle.jiff_core.specs.declared.civil.datetime.DateTime.{DateTime}
use Rattle.mime_content.specs.declared.content.Content.{Content}
use Rattle.mime_content.specs.Content.{content_of}
use Rattle.mime_tree.specs.declared.choice.Shown.TheVariants.{Flowed}
use Rattle.mime_tree.specs.declared.node.Node.{Node}
use Rattle.mime_tree.specs.declared.node.Position.TheVariants.{Body}
use Rattle.mime_tree.specs.Best.{best_of, leaf_to_show}
use Rattle.mime_tree.specs.Content.{is_alternative, is_message, is_multipart}
use Rattle.mime_tree.specs.Opening.{can_open, is_raw, message_of, node_at, open_first, opens_beside, part_of, part_value, parts_of, tree_after_steps, tree_of}
use Rattle.mime_tree.specs.Tree.{TreeValue}
use Rattle.site_asks.specs.declared.Draft.{Draft}
use Rattle.transfer_codings.specs.Charsets.{text_in}
use Rattle.transfer_codings.specs.Codings.{decoded}
use Rattle.transfer_codings.specs.declared.charset.Charset.TheVariants.{Utf8}
use Rattle.compose_drafts.specs.declared.DraftFault.{DraftFault}
use Rattle.compose_drafts.specs.declared.parties.Parties.{Parties}
use Rattle.compose_drafts.specs.Bodies.{CarriesText, body_in, coding_of}
use Rattle.compose_drafts.specs.Drafts.{IsSent}
use Rattle.compose_drafts.specs.Message.{body, message}
use Rattle.compose_drafts.specs.Paragraphs.{is_seven_bit}
use Rattle.compose_drafts.proofs.MessageLines.{HavePartyLines}
use Rattle.draft_laws.specs.OneText.{IsOneText, IsTextOf}
use Rattle.draft_laws.proofs.Fields.{form_content, message_content}

-- ---- a message that is one leaf

and_false : (a : Bool) → (a && false) ≡ false
and_false true = refl
and_false false = refl

closed : (n : Node) → is_message n.content.mime ≡ false → is_multipart n.content.mime ≡ false → can_open n ≡ false
closed n m p = rw (m, p) (and_false (nat_le n.around 32))

leaf_first : (bytes : List ℕ) (n : Node) → can_open n ≡ false → open_first bytes [] n [] ≡ record { parts = part_of bytes n (is_raw n.content) ∷ []; waiting = [] }
unfolding open_first opens_beside
leaf_first bytes n e = rw e refl

one_step : (bytes : List ℕ) (n : Node) (steps : ℕ) → can_open n ≡ false → (tree_after_steps bytes (suc steps) [] (n ∷ [])).parts ≡ part_of bytes n (is_raw n.content) ∷ []
unfolding tree_after_steps
one_step bytes n steps e = ap (λ t. (tree_after_steps bytes steps t.parts t.waiting).parts) (leaf_first bytes n e)

leaf_parts : (bytes : List ℕ) (n : Node) → is_message n.content.mime ≡ false → is_multipart n.content.mime ≡ false → (tree_after_steps bytes 2001 [] (n ∷ [])).parts ≡ part_of bytes n (is_raw n.content) ∷ []
leaf_parts bytes n m p = one_step bytes n 2000 (closed n m p)

-- ---- what the fields say

-- plain text in UTF-8, flowed without DelSp
abbrev plain_content : Bool → Content
plain_content seven_bit = record { mime = codes "text/plain"; boundary = None; charset = codes "utf-8"; coding = Some (coding_of seven_bit); attached = false; name = []; id = None; location = None; format = Some false }

utf8_name : utf8_lossy (codes "utf-8") ≡ codes "utf-8"
unfolding utf8_lossy utf8_valid_len is_utf8 chars encode
utf8_name = refl

form_is : (seven_bit : Bool) → form_content seven_bit ≡ plain_content seven_bit
unfolding content_of
form_is true = ap (λ charset. record { mime = codes "text/plain"; boundary = None; charset = charset; coding = Some (coding_of true); attached = false; name = []; id = None; location = None; format = Some false }) utf8_name
form_is false = ap (λ charset. record { mime = codes "text/plain"; boundary = None; charset = charset; coding = Some (coding_of false); attached = false; name = []; id = None; location = None; format = Some false }) utf8_name

-- the tree of bytes that are one leaf
abbrev leaf_tree : Header → Bool → ℕ → List ℕ → TreeValue
leaf_tree header seven_bit start bytes = record { header = header; alternative = false; parts = part_value (1 ∷ []) false false (plain_content seven_bit) start bytes ∷ [] }

whole_slice : (bytes : List ℕ) → slice_range bytes 0 (length bytes) ≡ bytes
whole_slice bytes = take_all (length bytes - 0) bytes (omega arith)

rest_slice : (bytes : List ℕ) (start : ℕ) → slice_range bytes start (length bytes) ≡ drop start bytes
rest_slice bytes start = take_all (length bytes - start) (drop start bytes) (omega (arith, length-drop start bytes))

-- the node of a message with this header and content
abbrev node : List ℕ → Header → Content → Node
node bytes header content = record { position = Body None; around = 0; enclosed = false; body = 0 + header.body; to = length bytes; content = content }

message_node : (bytes : List ℕ) (content : Content) → content_of (codes "text/plain") (header_of bytes).fields ≡ content → message_of bytes ≡ node bytes (header_of bytes) content
unfolding message_of node_at
message_node bytes content e = ap (λ bs. node bytes (header_of bs) (content_of (codes "text/plain") (header_of bs).fields)) (whole_slice bytes) ∙ ap (node bytes (header_of bytes)) e

tree_is : (bytes : List ℕ) (seven_bit : Bool) → content_of (codes "text/plain") (header_of bytes).fields ≡ plain_content seven_bit → tree_of bytes ≡ leaf_tree (header_of bytes) seven_bit (header_of bytes).body (body_in bytes)
unfolding tree_of parts_of
tree_is bytes seven_bit e =
    let header : Header = header_of bytes in
    let content : Content = plain_content seven_bit in
    let n : message_of bytes ≡ node bytes header content = message_node bytes content e in
    let from : 0 + header.body ≡ header.body = omega arith in
    let parts : (tree_after_steps bytes 2001 [] (message_of bytes ∷ [])).parts ≡ part_value (1 ∷ []) false false content header.body (body_in bytes) ∷ [] =
    ap (λ m. (tree_after_steps bytes 2001 [] (m ∷ [])).parts) n ∙ leaf_parts bytes (node bytes header content) refl refl
    ∙ ap (λ start. part_value (1 ∷ []) false false content start (slice_range bytes start (length bytes)) ∷ []) from
    ∙ ap (λ sent. part_value (1 ∷ []) false false content header.body sent ∷ []) (rest_slice bytes header.body) in
    ap (λ m. record { header = header; alternative = is_alternative m.content.mime; parts = (tree_after_steps bytes 2001 [] (message_of bytes ∷ [])).parts }) n
    ∙ ap (λ ps. record { header = header; alternative = false; parts = ps }) parts

-- ---- its part

shown_text : (header : Header) (seven_bit : Bool) (start : ℕ) (sent : List ℕ) → best_of (leaf_tree header seven_bit start sent) ≡ Flowed (1 ∷ []) false
unfolding best_of leaf_to_show
shown_text header true start sent = refl
shown_text header false start sent = refl

part_text : (draft : Draft) (seven_bit : Bool) (start : ℕ) (sent : List ℕ) → seven_bit ≡ is_seven_bit (body draft) → CarriesText draft sent → IsTextOf draft (part_value (1 ∷ []) false false (plain_content seven_bit) start sent)
part_text draft true start sent e carried =
    let flowed : decoded (coding_of true) sent ≡ body draft = ap (λ s. decoded (coding_of s) sent) e ∙ carried.decodes in
    record {
      section = refl;
      mime = refl;
      charset = refl;
      format = refl;
      coding = ap coding_of e;
      attached = refl;
      flowed = flowed;
      paragraphs = ap (λ t. paras_of (text_in Utf8 t) false) flowed ∙ ap (λ t. paras_of t false) carried.is_text ∙ carried.paragraphs;
    }
part_text draft false start sent e carried =
    let flowed : decoded (coding_of false) sent ≡ body draft = ap (λ s. decoded (coding_of s) sent) e ∙ carried.decodes in
    record {
      section = refl;
      mime = refl;
      charset = refl;
      format = refl;
      coding = ap coding_of e;
      attached = refl;
      flowed = flowed;
      paragraphs = ap (λ t. paras_of (text_in Utf8 t) false) flowed ∙ ap (λ t. paras_of t false) carried.is_text ∙ carried.paragraphs;
    }

one_text : (draft : Draft) (parties : Parties) (clock : DateTime) → HavePartyLines parties → CarriesText draft (body_in (message draft parties clock)) → IsOneText draft (tree_of (message draft parties clock))
one_text draft parties clock h carried =
    let bytes : List ℕ = message draft parties clock in
    let seven_bit : Bool = is_seven_bit (body draft) in
    let start : ℕ = (header_of bytes).body in
    subst (λ t. IsOneText draft t) (sym (tree_is bytes seven_bit (message_content draft parties clock h ∙ form_is seven_bit))) (record {
      part = part_value (1 ∷ []) false false (plain_content seven_bit) start (body_in bytes);
      parts = refl;
      is_text = part_text draft seven_bit start (body_in bytes) refl carried;
      shown = shown_text (header_of bytes) seven_bit start (body_in bytes);
    })

pub sent_text : (read : Result Parties DraftFault) (draft : Draft) (moment : ℤ) (bytes : List ℕ) → IfOk read HavePartyLines → IsSent draft read moment bytes → CarriesText draft (body_in bytes) → IsOneText draft (tree_of bytes)
sent_text read draft moment bytes h sent carried =
    let is = sent.built.bytes_are in
    let lines : HavePartyLines sent.parties = subst (λ r. IfOk r HavePartyLines) sent.parties_are h in
    subst (λ bs. IsOneText draft (tree_of bs)) (sym is) (one_text draft sent.parties sent.built.clock lines (subst (λ bs. CarriesText draft (body_in bs)) is carried))
