-- Worked examples of units and their responses.
use Rattle.std.proofs.Common.{◌≡◌, ℕ, List, [], ◌∷◌, ◌++◌, true, Some, None, refl, codes}
use Rattle.imap_grammar.specs.declared.response.Word.TheVariants as words
use Rattle.imap_grammar.specs.declared.response.Code.TheVariants as coding
use Rattle.imap_grammar.specs.ItemData.{Uid, Flags, Modseq, Header, Body, OtherItem}
use Rattle.imap_values.specs.Words.{number_at, positive_at, word_list_at}
use Rattle.imap_values.specs.Strings.{quoted_raw_at, quoted_at, literal_at, string_at, nstring_at}
use Rattle.imap_values.specs.Values.{token_at, tokens_end_at}
use Rattle.imap_grammar.specs.Codes.{code_at, code_name_of}
use Rattle.imap_grammar.specs.Items.{item_name_of, item_at, items_at, item_list_at}
use Rattle.imap_values.specs.Sets.{range_at, ranges_at, uid_set_at, membership, range_between}
use Rattle.imap_grammar.specs.Searches.{tag_at, correlator_at, skip_uid, pair_at, last_all_at, all_set_of, search_of}
use Rattle.imap_grammar.specs.Response.{response_of, line_of, tagged_response_of, state_word_of, state_response_of, untagged_kind_of, count_kind_of, number_response_of, line_words_of, separator_at, mailbox_at, attributes_at, list_of, earlier_at, vanished_of, untagged_response_of, Continue, Tagged, State, Capability, Mailbox, Fetch, Vanished, Esearch, Other}

abbrev end_of_line : List ℕ
end_of_line = 13 ∷ 10 ∷ []

go : response_of (codes "+ go" ++ end_of_line) ≡ Some (Continue (codes "go"))
unfolding response_of line_of
go = refl

-- the case of letters is ignored in the words of status responses, and kept in tags
appended : response_of (codes "a1 ok [APPENDUID 38505 3955] done" ++ end_of_line) ≡ Some (Tagged (codes "a1") words.Ok (Some coding.Unread) (codes "done"))
unfolding response_of line_of tagged_response_of state_word_of code_at code_name_of
appended = refl

-- a code that does not read is text
open_code : response_of (codes "A1 OK [APPENDUID x" ++ end_of_line) ≡ Some (Tagged (codes "A1") words.Ok None (codes "[APPENDUID x"))
unfolding response_of line_of tagged_response_of state_word_of code_at
open_code = refl

validity : response_of (codes "* OK [UIDVALIDITY 8] valid" ++ end_of_line) ≡ Some (State words.Ok (Some (coding.Uidvalidity 8)) (codes "valid"))
unfolding response_of line_of untagged_response_of state_word_of state_response_of code_at code_name_of number_at
validity = refl

too_large : response_of (codes "* OK [UIDVALIDITY 4294967296] x" ++ end_of_line) ≡ Some (State words.Ok None (codes "[UIDVALIDITY 4294967296] x"))
unfolding response_of line_of untagged_response_of state_word_of state_response_of code_at code_name_of number_at
too_large = refl

capability : response_of (codes "* CAPABILITY IMAP4rev2 QRESYNC" ++ end_of_line) ≡ Some (Capability (codes "IMAP4rev2" ∷ codes "QRESYNC" ∷ []))
unfolding response_of line_of untagged_response_of state_word_of untagged_kind_of line_words_of
capability = refl

-- a name that is a literal
sent : response_of (codes "* LIST (\\Sent) \"/\" {4}" ++ end_of_line ++ codes "Sent" ++ end_of_line) ≡ Some (Mailbox (codes "\\Sent" ∷ []) (codes "Sent"))
unfolding response_of line_of untagged_response_of state_word_of untagged_kind_of list_of attributes_at word_list_at separator_at mailbox_at quoted_raw_at string_at literal_at number_at
sent = refl

-- a name without quotes ends at a space or at the end; with an LF after it there is no response
extended : response_of (codes "* LIST () \"/\" Sent (\"CHILDINFO\" (\"SUBSCRIBED\"))" ++ end_of_line) ≡ Some (Mailbox [] (codes "Sent"))
unfolding response_of line_of untagged_response_of state_word_of untagged_kind_of list_of attributes_at word_list_at separator_at mailbox_at quoted_raw_at
extended = refl

torn_name : response_of (codes "* LIST () \"/\" a\nb" ++ end_of_line) ≡ None
unfolding response_of line_of untagged_response_of state_word_of untagged_kind_of list_of attributes_at word_list_at separator_at mailbox_at quoted_raw_at
torn_name = refl

-- a literal8 is read as a string
body_with_null : response_of (codes "* 1 FETCH (BODY[] ~{3}" ++ end_of_line ++ 97 ∷ 0 ∷ 41 ∷ 41 ∷ end_of_line) ≡ Some (Fetch 1 (Body (Some (97 ∷ 0 ∷ 41 ∷ [])) ∷ []))
unfolding response_of line_of untagged_response_of number_response_of count_kind_of item_list_at items_at item_at item_name_of nstring_at string_at literal_at number_at
body_with_null = refl

literal8_name : response_of (codes "* LIST () NIL ~{4}" ++ end_of_line ++ codes "Sent" ++ end_of_line) ≡ Some (Mailbox [] (codes "Sent"))
unfolding response_of line_of untagged_response_of state_word_of untagged_kind_of list_of attributes_at word_list_at separator_at mailbox_at string_at literal_at number_at
literal8_name = refl

-- a tilde alone begins a name without quotes
home : response_of (codes "* LIST () NIL ~a" ++ end_of_line) ≡ Some (Mailbox [] (codes "~a"))
unfolding response_of line_of untagged_response_of state_word_of untagged_kind_of list_of attributes_at word_list_at separator_at mailbox_at
home = refl

-- the name of an item has at least one byte
no_name : response_of (codes "* 1 FETCH ( 1)" ++ end_of_line) ≡ None
unfolding response_of line_of untagged_response_of number_response_of count_kind_of item_list_at items_at item_at number_at
no_name = refl

no_second_name : response_of (codes "* 1 FETCH (UID 7  1)" ++ end_of_line) ≡ None
unfolding response_of line_of untagged_response_of number_response_of count_kind_of item_list_at items_at item_at item_name_of number_at positive_at
no_second_name = refl

-- a message in a literal has bytes that would end the list
fetched : response_of (codes "* 1 FETCH (UID 7 BODY[] {5}" ++ end_of_line ++ 97 ∷ 13 ∷ 10 ∷ 41 ∷ 98 ∷ 41 ∷ end_of_line) ≡ Some (Fetch 1 (Uid 7 ∷ Body (Some (97 ∷ 13 ∷ 10 ∷ 41 ∷ 98 ∷ [])) ∷ []))
unfolding response_of line_of untagged_response_of number_response_of count_kind_of item_list_at items_at item_at item_name_of nstring_at string_at literal_at number_at positive_at
fetched = refl

-- lists are skipped, and names in brackets have spaces
row : response_of (codes "* 2 FETCH (X (\"a)\" (b)) FLAGS (\\Seen $X) BODY[HEADER.FIELDS (DATE)] nil MODSEQ (5))" ++ end_of_line) ≡ Some (Fetch 2 (OtherItem ∷ Flags (codes "\\Seen" ∷ codes "$X" ∷ []) ∷ Header None ∷ Modseq 5 ∷ []))
unfolding response_of line_of untagged_response_of number_response_of count_kind_of item_list_at items_at item_at item_name_of token_at tokens_end_at quoted_raw_at word_list_at nstring_at number_at positive_at
row = refl

zero : response_of (codes "* 1 FETCH (UID 0)" ++ end_of_line) ≡ None
unfolding response_of line_of untagged_response_of number_response_of count_kind_of item_list_at items_at item_at item_name_of number_at positive_at
zero = refl

-- the ends of a range may come in either order
gone : response_of (codes "* VANISHED (EARLIER) 9:7,12" ++ end_of_line) ≡ Some (Vanished true (membership (range_between 7 9 ∷ range_between 12 12 ∷ [])))
unfolding response_of line_of untagged_response_of state_word_of untagged_kind_of vanished_of earlier_at uid_set_at ranges_at range_at number_at positive_at
gone = refl

found : response_of (codes "* ESEARCH (TAG \"A7\") UID COUNT 1 ALL 4" ++ end_of_line) ≡ Some (Esearch (codes "A7") (Some (membership (range_between 4 4 ∷ []))))
unfolding response_of line_of untagged_response_of state_word_of untagged_kind_of search_of correlator_at tag_at string_at quoted_at quoted_raw_at skip_uid last_all_at pair_at tokens_end_at token_at all_set_of uid_set_at ranges_at range_at number_at positive_at
found = refl

other : response_of (codes "* SOMETHING new (x" ++ end_of_line) ≡ Some Other
unfolding response_of line_of untagged_response_of state_word_of untagged_kind_of
other = refl

lone_star : response_of (codes "*" ++ end_of_line) ≡ None
unfolding response_of line_of tagged_response_of
lone_star = refl
