-- Worked examples of drafts: a message answered, forwarded and edited.
use Rattle.std.proofs.Common.{◌≡◌, ℕ, false, List, [], ◌∷◌, ◌++◌, refl}
use lib.Utf8.{encode}
use Rattle.std.specs.Prelude.{codes, None, Some, replicate, map}
use Rattle.std.specs.List.{flat_map}
use Rattle.std.specs.Str.{chars, is_utf8}
use Rattle.std.specs.Str.Lossy.{utf8_lossy, utf8_valid_len}
use Rattle.account_pictures.specs.declared.records.Address.{Address}
use Rattle.account_pictures.specs.declared.records.Identity.{Identity}
use Rattle.flowed_text.specs.Lines.{lines}
use Rattle.flowed_text.specs.Paragraphs.{paras_of}
use Rattle.compose_drafts.specs.Paragraphs.{paragraphs_of}
use Rattle.header_words.specs.BaseSubject.{single_spaced, blob_len, blobs_len_from, word_len, mark_len, marked_len, leader_len, front_len, without_front_from, is_trailer, back_len, without_back_from, is_forward, opened}
use Rattle.header_words.specs.EncodedWords.{with_words_decoded, joined, items_from, word_at, word_text}
use Rattle.header_words.specs.Fields.{header_of}
use Rattle.header_words.specs.MessageIds.{ids_in}
use Rattle.header_words.specs.Value.{decoded_of}
use Rattle.mime_content.specs.Content.{content_of}
use Rattle.mime_tree.specs.Best.{best_of, leaf_to_show}
use Rattle.mime_tree.specs.Opening.{message_of, node_at, open_first, opens_beside, parts_of, tree_after_steps, tree_of}
use Rattle.site_asks.specs.declared.asks.How.TheVariants.{Reply, Forward, Edit}
use Rattle.transfer_codings.specs.Quoted.{quoted_bytes, line_bytes, without_blanks, unescaped}
use Rattle.draft_sources.specs.Drafts.{draft_of, reply_of, forward_of, edit_of, value_of, first_identity}
use Rattle.draft_sources.specs.Lines.{lines_of, text_of, para_line}
use Rattle.draft_sources.specs.Refs.{ids_of, refs_text, reply_ids}

at : Address
at = record { folder = codes "INBOX"; validity = 7; uid = 9 }

-- a plain text
letter : List ℕ
letter = codes "From: Ann <ann@c.example>\r\nTo: bob@d.example\r\nSubject: Re: Fwd: Lunch\r\nMessage-ID: <b@y>\r\nReferences: <a@x>\r\n\r\nOne?\r\n> Two\r\n\r\nThree"

letter_lines : lines_of (tree_of letter) ≡ codes "One?" ∷ codes "> Two" ∷ [] ∷ codes "Three" ∷ []
unfolding letter lines_of best_of leaf_to_show tree_of parts_of message_of tree_after_steps open_first opens_beside node_at content_of header_of lines utf8_lossy utf8_valid_len is_utf8 chars encode
letter_lines = refl

letter_answered : draft_of (tree_of letter) Reply at 42 3 ≡ record {
  form = 42;
  identity = 3;
  to = codes "Ann <ann@c.example>";
  cc = [];
  subject = codes "Re: Lunch";
  text = codes "> One?\n>> Two\n> \n> Three\n";
  refs = codes "<a@x> <b@y>";
  old = None;
}
unfolding letter at reply_of text_of refs_text ids_of ids_in value_of decoded_of with_words_decoded joined items_from word_at single_spaced blob_len blobs_len_from word_len mark_len marked_len leader_len front_len without_front_from is_trailer back_len without_back_from is_forward opened lines_of best_of leaf_to_show tree_of parts_of message_of tree_after_steps open_first opens_beside node_at content_of header_of lines utf8_lossy utf8_valid_len is_utf8 chars encode
letter_answered = refl

letter_forwarded : draft_of (tree_of letter) Forward at 42 3 ≡ record {
  form = 42;
  identity = 3;
  to = [];
  cc = [];
  subject = codes "Fwd: Lunch";
  text = codes "One?\n> Two\n\nThree\n";
  refs = [];
  old = None;
}
unfolding letter at forward_of text_of value_of decoded_of with_words_decoded joined items_from word_at single_spaced blob_len blobs_len_from word_len mark_len marked_len leader_len front_len without_front_from is_trailer back_len without_back_from is_forward opened lines_of best_of leaf_to_show tree_of parts_of message_of tree_after_steps open_first opens_beside node_at content_of header_of lines utf8_lossy utf8_valid_len is_utf8 chars encode
letter_forwarded = refl

-- a saved draft: its flowed lines are joined, and its quotes keep their marks
saved : List ℕ
saved = codes "To: bob@d, ann\r\nCc: eve@e\r\nSubject: Re: =?utf-8?Q?Lunch?=\r\nReferences: <a@x>\r\n <b@y>\r\nMessage-ID: <2a@webmail>\r\nContent-Type: text/plain; charset=utf-8; format=flowed\r\n\r\n> One?\r\nAt \r\ntwelve\r\n From here\r\n-- \r\nAnn\r\n"

saved_edited : draft_of (tree_of saved) Edit at 43 1 ≡ record {
  form = 43;
  identity = 1;
  to = codes "bob@d, ann";
  cc = codes "eve@e";
  subject = codes "Re: Lunch";
  text = codes "> One?\nAt twelve\nFrom here\n-- \nAnn\n";
  refs = codes "<a@x> <b@y>";
  old = Some at;
}
unfolding saved at quoted_bytes line_bytes without_blanks unescaped word_text edit_of text_of refs_text ids_of ids_in value_of decoded_of with_words_decoded joined items_from word_at lines_of best_of leaf_to_show paras_of tree_of parts_of message_of tree_after_steps open_first opens_beside node_at content_of header_of lines utf8_lossy utf8_valid_len is_utf8 chars encode
saved_edited = refl

-- the text that was typed has the same lines, whatever its line ends are
typed_lines : text_of false (map para_line (paragraphs_of (codes "> One?\r\nAt twelve\r\nFrom here\r\n-- \r\nAnn"))) ≡ codes "> One?\nAt twelve\nFrom here\n-- \nAnn\n"
unfolding text_of paragraphs_of lines
typed_lines = refl

-- a page has no lines, nor has a text whose charset isn't read
page_lines : lines_of (tree_of (codes "Content-Type: text/html\n\n<p>Hello")) ≡ []
unfolding lines_of best_of leaf_to_show tree_of parts_of message_of tree_after_steps open_first opens_beside node_at content_of header_of lines utf8_lossy utf8_valid_len is_utf8 chars encode
page_lines = refl

unread_lines : lines_of (tree_of (codes "Content-Type: text/plain; charset=x\n\nHello")) ≡ []
unfolding lines_of best_of leaf_to_show tree_of parts_of message_of tree_after_steps open_first opens_beside node_at content_of header_of lines utf8_lossy utf8_valid_len is_utf8 chars encode
unread_lines = refl

-- ---- identifiers

-- without References the first of In-Reply-To; one with a character that isn't visible doesn't count
replied_ids : reply_ids (header_of (codes "In-Reply-To: <\u{7}@x> <a@x> <c@x>\nMessage-ID: <b@y>\n")) ≡ codes "a@x" ∷ codes "b@y" ∷ []
unfolding ids_of ids_in header_of
replied_ids = refl

-- at most 200 bytes
long_id : ids_of (codes "References") (header_of (codes "References: <@" ++ replicate 199 97 ++ codes "> <@" ++ replicate 200 98 ++ codes ">\n")) ≡ (64 ∷ replicate 199 97) ∷ []
unfolding ids_of ids_in header_of
long_id = refl

-- the last 20
many_ids : refs_text (replicate 3 (codes "a@x") ++ replicate 19 (codes "b@y") ++ codes "c@z" ∷ []) ≡ flat_map (λ id. codes "<" ++ id ++ codes "> ") (replicate 19 (codes "b@y")) ++ codes "<c@z>"
unfolding refs_text
many_ids = refl

-- ---- the sender

ann : Identity
ann = record { name = codes "Ann"; address = codes "ann@c.example" }

lowest : first_identity ((5, ann) ∷ (2, ann) ∷ (9, ann) ∷ []) ≡ 2
lowest = refl

none_kept : first_identity [] ≡ 1
none_kept = refl
