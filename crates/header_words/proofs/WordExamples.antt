-- Worked examples of encoded words: those of RFC 2047 §8, and others.
use Rattle.std.proofs.Common.{◌≡◌, [], ◌∷◌, ◌++◌, refl, codes}
use lib.Utf8.{encode}
use Rattle.std.specs.Str.{is_utf8, chars}
use Rattle.std.specs.Str.Lossy.{utf8_lossy, utf8_valid_len, utf8_error_len}
use Rattle.transfer_codings.specs.Quoted.{quoted_bytes, line_bytes, without_blanks, unescaped}
use Rattle.transfer_codings.specs.Base64.{bytes_of, sextet_of}
use Rattle.header_words.specs.EncodedWords.{with_words_decoded, items_from, joined, word_at, word_text}
use Rattle.header_words.specs.Value.{decoded_of}

-- ---- the table of RFC 2047 §8, as far as its charsets are read

one : with_words_decoded (codes "(=?ISO-8859-1?Q?a?=)") ≡ codes "(a)"
unfolding with_words_decoded items_from joined word_at word_text utf8_lossy utf8_valid_len is_utf8 chars encode quoted_bytes line_bytes without_blanks unescaped bytes_of sextet_of
one = refl

-- white space beside other text stays
word_and_text : with_words_decoded (codes "(=?ISO-8859-1?Q?a?= b)") ≡ codes "(a b)"
unfolding with_words_decoded items_from joined word_at word_text utf8_lossy utf8_valid_len is_utf8 chars encode quoted_bytes line_bytes without_blanks unescaped bytes_of sextet_of
word_and_text = refl

-- white space between two words is dropped
two_with_a_space : with_words_decoded (codes "(=?ISO-8859-1?Q?a?= =?ISO-8859-1?Q?b?=)") ≡ codes "(ab)"
unfolding with_words_decoded items_from joined word_at word_text utf8_lossy utf8_valid_len is_utf8 chars encode quoted_bytes line_bytes without_blanks unescaped bytes_of sextet_of
two_with_a_space = refl

two_with_spaces : with_words_decoded (codes "(=?ISO-8859-1?Q?a?=  =?ISO-8859-1?Q?b?=)") ≡ codes "(ab)"
unfolding with_words_decoded items_from joined word_at word_text utf8_lossy utf8_valid_len is_utf8 chars encode quoted_bytes line_bytes without_blanks unescaped bytes_of sextet_of
two_with_spaces = refl

two_with_a_fold : decoded_of (codes "(=?ISO-8859-1?Q?a?=" ∷ codes "    =?ISO-8859-1?Q?b?=)" ∷ []) ≡ codes "(ab)"
unfolding decoded_of with_words_decoded items_from joined word_at word_text utf8_lossy utf8_valid_len is_utf8 chars encode quoted_bytes line_bytes without_blanks unescaped bytes_of sextet_of
two_with_a_fold = refl

space_within : with_words_decoded (codes "(=?ISO-8859-1?Q?a_b?=)") ≡ codes "(a b)"
unfolding with_words_decoded items_from joined word_at word_text utf8_lossy utf8_valid_len is_utf8 chars encode quoted_bytes line_bytes without_blanks unescaped bytes_of sextet_of
space_within = refl

-- the last row has a charset that isn't read: its second word stays as written
next_unread : with_words_decoded (codes "(=?ISO-8859-1?Q?a?= =?ISO-8859-2?Q?_b?=)") ≡ codes "(a =?ISO-8859-2?Q?_b?=)"
unfolding with_words_decoded items_from joined word_at word_text utf8_lossy utf8_valid_len is_utf8 chars encode quoted_bytes line_bytes without_blanks unescaped bytes_of sextet_of
next_unread = refl

-- ---- the fields of RFC 2047 §8 with read charsets

moore : with_words_decoded (codes "=?US-ASCII?Q?Keith_Moore?= <moore@cs.utk.edu>") ≡ codes "Keith Moore <moore@cs.utk.edu>"
unfolding with_words_decoded items_from joined word_at word_text utf8_lossy utf8_valid_len is_utf8 chars encode quoted_bytes line_bytes without_blanks unescaped bytes_of sextet_of
moore = refl

simonsen : with_words_decoded (codes "=?ISO-8859-1?Q?Keld_J=F8rn_Simonsen?= <keld@dkuug.dk>") ≡ codes "Keld J" ++ (195 ∷ []) ++ (184 ∷ []) ++ codes "rn Simonsen <keld@dkuug.dk>"
unfolding with_words_decoded items_from joined word_at word_text utf8_lossy utf8_valid_len is_utf8 chars encode quoted_bytes line_bytes without_blanks unescaped bytes_of sextet_of
simonsen = refl

pirard : with_words_decoded (codes "=?ISO-8859-1?Q?Andr=E9?= Pirard <PIRARD@vm1.ulg.ac.be>") ≡ codes "Andr" ++ (195 ∷ []) ++ (169 ∷ []) ++ codes " Pirard <PIRARD@vm1.ulg.ac.be>"
unfolding with_words_decoded items_from joined word_at word_text utf8_lossy utf8_valid_len is_utf8 chars encode quoted_bytes line_bytes without_blanks unescaped bytes_of sextet_of
pirard = refl

jarnefors : with_words_decoded (codes "=?ISO-8859-1?Q?Olle_J=E4rnefors?= <ojarnef@admin.kth.se>") ≡ codes "Olle J" ++ (195 ∷ []) ++ (164 ∷ []) ++ codes "rnefors <ojarnef@admin.kth.se>"
unfolding with_words_decoded items_from joined word_at word_text utf8_lossy utf8_valid_len is_utf8 chars encode quoted_bytes line_bytes without_blanks unescaped bytes_of sextet_of
jarnefors = refl

faltstrom : with_words_decoded (codes "=?ISO-8859-1?Q?Patrik_F=E4ltstr=F6m?= <paf@nada.kth.se>") ≡ codes "Patrik F" ++ (195 ∷ []) ++ (164 ∷ []) ++ codes "ltstr" ++ (195 ∷ []) ++ (182 ∷ []) ++ codes "m <paf@nada.kth.se>"
unfolding with_words_decoded items_from joined word_at word_text utf8_lossy utf8_valid_len is_utf8 chars encode quoted_bytes line_bytes without_blanks unescaped bytes_of sextet_of
faltstrom = refl

subject : with_words_decoded (codes "=?ISO-8859-1?B?SWYgeW91IGNhbiByZWFkIHRoaXMgeW8=?=") ≡ codes "If you can read this yo"
unfolding with_words_decoded items_from joined word_at word_text utf8_lossy utf8_valid_len is_utf8 chars encode quoted_bytes line_bytes without_blanks unescaped bytes_of sextet_of
subject = refl

-- ---- codings, charsets, languages

quoted : with_words_decoded (codes "=?utf-8?q?caf=C3=A9?=") ≡ codes "caf" ++ (195 ∷ []) ++ (169 ∷ [])
unfolding with_words_decoded items_from joined word_at word_text utf8_lossy utf8_valid_len is_utf8 chars encode quoted_bytes line_bytes without_blanks unescaped bytes_of sextet_of
quoted = refl

-- a language (RFC 2231 §5) counts for nothing
base64 : with_words_decoded (codes "=?UTF-8*fr?B?Y2Fmw6k=?=") ≡ codes "caf" ++ (195 ∷ []) ++ (169 ∷ [])
unfolding with_words_decoded items_from joined word_at word_text utf8_lossy utf8_valid_len is_utf8 chars encode quoted_bytes line_bytes without_blanks unescaped bytes_of sextet_of
base64 = refl

latin1_letter : with_words_decoded (codes "=?latin1?b?6Q==?=") ≡ (195 ∷ []) ++ (169 ∷ [])
unfolding with_words_decoded items_from joined word_at word_text utf8_lossy utf8_valid_len is_utf8 chars encode quoted_bytes line_bytes without_blanks unescaped bytes_of sextet_of
latin1_letter = refl

-- a charset that isn't read, and another coding
unread : with_words_decoded (codes "=?ISO-8859-2?Q?_b?=") ≡ codes "=?ISO-8859-2?Q?_b?="
unfolding with_words_decoded items_from joined word_at word_text utf8_lossy utf8_valid_len is_utf8 chars encode quoted_bytes line_bytes without_blanks unescaped bytes_of sextet_of
unread = refl

other_coding : with_words_decoded (codes "=?utf-8?x?a?=") ≡ codes "=?utf-8?x?a?="
unfolding with_words_decoded items_from joined word_at word_text utf8_lossy utf8_valid_len is_utf8 chars encode quoted_bytes line_bytes without_blanks unescaped bytes_of sextet_of
other_coding = refl

long_coding : with_words_decoded (codes "=?utf-8?qq?a?=") ≡ codes "=?utf-8?qq?a?="
unfolding with_words_decoded items_from joined word_at word_text utf8_lossy utf8_valid_len is_utf8 chars encode quoted_bytes line_bytes without_blanks unescaped bytes_of sextet_of
long_coding = refl

-- ---- where a word is found

-- in a quoted string, whose quotes stay
in_quotes : with_words_decoded (codes "\"=?ISO-8859-1?Q?Fran=E7ois?=\" <f@x>") ≡ codes "\"Fran" ++ (195 ∷ []) ++ (167 ∷ []) ++ codes "ois\" <f@x>"
unfolding with_words_decoded items_from joined word_at word_text utf8_lossy utf8_valid_len is_utf8 chars encode quoted_bytes line_bytes without_blanks unescaped bytes_of sextet_of
in_quotes = refl

-- directly beside other text
within_text : with_words_decoded (codes "a=?utf-8?q?b?=c") ≡ codes "abc"
unfolding with_words_decoded items_from joined word_at word_text utf8_lossy utf8_valid_len is_utf8 chars encode quoted_bytes line_bytes without_blanks unescaped bytes_of sextet_of
within_text = refl

beside_marks : with_words_decoded (codes "x,=?utf-8?q?b?=<a@b>") ≡ codes "x,b<a@b>"
unfolding with_words_decoded items_from joined word_at word_text utf8_lossy utf8_valid_len is_utf8 chars encode quoted_bytes line_bytes without_blanks unescaped bytes_of sextet_of
beside_marks = refl

-- two words that touch
touching : with_words_decoded (codes "=?utf-8?q?a?==?utf-8?q?b?=") ≡ codes "ab"
unfolding with_words_decoded items_from joined word_at word_text utf8_lossy utf8_valid_len is_utf8 chars encode quoted_bytes line_bytes without_blanks unescaped bytes_of sextet_of
touching = refl

-- blanks in a Q text, and none in a B text
blanks_within : with_words_decoded (codes "=?utf-8?q?a b" ++ (9 ∷ []) ++ codes "c ?=") ≡ codes "a b" ++ (9 ∷ []) ++ codes "c "
unfolding with_words_decoded items_from joined word_at word_text utf8_lossy utf8_valid_len is_utf8 chars encode quoted_bytes line_bytes without_blanks unescaped bytes_of sextet_of
blanks_within = refl

blanks_in_base64 : with_words_decoded (codes "=?utf-8?b?YQ ==?=") ≡ codes "=?utf-8?b?YQ ==?="
unfolding with_words_decoded items_from joined word_at word_text utf8_lossy utf8_valid_len is_utf8 chars encode quoted_bytes line_bytes without_blanks unescaped bytes_of sextet_of
blanks_in_base64 = refl

-- white space that leads to no word stays
three : with_words_decoded (codes "=?utf-8?q?a?= " ++ (9 ∷ []) ++ codes " =?utf-8?q?b?= c =?utf-8?q?d?=") ≡ codes "ab c d"
unfolding with_words_decoded items_from joined word_at word_text utf8_lossy utf8_valid_len is_utf8 chars encode quoted_bytes line_bytes without_blanks unescaped bytes_of sextet_of
three = refl

trailing_blanks : with_words_decoded (codes "=?utf-8?q?a?=  ") ≡ codes "a  "
unfolding with_words_decoded items_from joined word_at word_text utf8_lossy utf8_valid_len is_utf8 chars encode quoted_bytes line_bytes without_blanks unescaped bytes_of sextet_of
trailing_blanks = refl

leading_blanks : with_words_decoded (codes "  =?utf-8?q?a?=") ≡ codes "  a"
unfolding with_words_decoded items_from joined word_at word_text utf8_lossy utf8_valid_len is_utf8 chars encode quoted_bytes line_bytes without_blanks unescaped bytes_of sextet_of
leading_blanks = refl

-- an opening that is none does not hide the word after it
after_an_opening : with_words_decoded (codes "=?=?utf-8?q?a?=") ≡ codes "=?a"
unfolding with_words_decoded items_from joined word_at word_text utf8_lossy utf8_valid_len is_utf8 chars encode quoted_bytes line_bytes without_blanks unescaped bytes_of sextet_of
after_an_opening = refl

unread_then_word : with_words_decoded (codes "=?x?q?b?==?utf-8?q?a?=") ≡ codes "=?x?q?b?=a"
unfolding with_words_decoded items_from joined word_at word_text utf8_lossy utf8_valid_len is_utf8 chars encode quoted_bytes line_bytes without_blanks unescaped bytes_of sextet_of
unread_then_word = refl

-- a word of more than 75 bytes (§2 asks writers for no more)
a_long_word : with_words_decoded (codes "=?us-ascii?q?aaaaaaaaaaaaaaaaaaaaaaaaaaaaaaaaaaaaaaaaaaaaaaaaaaaaaaaaaaaaaaaaaaaaaa?=") ≡ codes "aaaaaaaaaaaaaaaaaaaaaaaaaaaaaaaaaaaaaaaaaaaaaaaaaaaaaaaaaaaaaaaaaaaaaa"
unfolding with_words_decoded items_from joined word_at word_text utf8_lossy utf8_valid_len is_utf8 chars encode quoted_bytes line_bytes without_blanks unescaped bytes_of sextet_of
a_long_word = refl

-- ---- what is no word

-- a text of no characters
no_text : with_words_decoded (codes "=?utf-8?q??=") ≡ codes "=?utf-8?q??="
unfolding with_words_decoded items_from joined word_at word_text utf8_lossy utf8_valid_len is_utf8 chars encode quoted_bytes line_bytes without_blanks unescaped bytes_of sextet_of
no_text = refl

-- a question mark in the text
question : with_words_decoded (codes "=?utf-8?q?a?b?=") ≡ codes "=?utf-8?q?a?b?="
unfolding with_words_decoded items_from joined word_at word_text utf8_lossy utf8_valid_len is_utf8 chars encode quoted_bytes line_bytes without_blanks unescaped bytes_of sextet_of
question = refl

-- a character that isn't printable ASCII
not_ascii : with_words_decoded (codes "=?utf-8?q?" ++ (255 ∷ []) ++ codes "?=") ≡ codes "=?utf-8?q?" ++ (255 ∷ []) ++ codes "?="
unfolding with_words_decoded items_from joined word_at word_text utf8_lossy utf8_valid_len is_utf8 chars encode quoted_bytes line_bytes without_blanks unescaped bytes_of sextet_of
not_ascii = refl

control : with_words_decoded (codes "=?utf-8?q?a" ++ (1 ∷ []) ++ codes "?=") ≡ codes "=?utf-8?q?a" ++ (1 ∷ []) ++ codes "?="
unfolding with_words_decoded items_from joined word_at word_text utf8_lossy utf8_valid_len is_utf8 chars encode quoted_bytes line_bytes without_blanks unescaped bytes_of sextet_of
control = refl

unended : with_words_decoded (codes "=?utf-8?q?a?") ≡ codes "=?utf-8?q?a?"
unfolding with_words_decoded items_from joined word_at word_text utf8_lossy utf8_valid_len is_utf8 chars encode quoted_bytes line_bytes without_blanks unescaped bytes_of sextet_of
unended = refl

unended_text : with_words_decoded (codes "=?utf-8?q?a") ≡ codes "=?utf-8?q?a"
unfolding with_words_decoded items_from joined word_at word_text utf8_lossy utf8_valid_len is_utf8 chars encode quoted_bytes line_bytes without_blanks unescaped bytes_of sextet_of
unended_text = refl

unended_name : with_words_decoded (codes "=?utf-8") ≡ codes "=?utf-8"
unfolding with_words_decoded items_from joined word_at word_text utf8_lossy utf8_valid_len is_utf8 chars encode quoted_bytes line_bytes without_blanks unescaped bytes_of sextet_of
unended_name = refl

no_charset : with_words_decoded (codes "=??q?a?=") ≡ codes "=??q?a?="
unfolding with_words_decoded items_from joined word_at word_text utf8_lossy utf8_valid_len is_utf8 chars encode quoted_bytes line_bytes without_blanks unescaped bytes_of sextet_of
no_charset = refl

-- a word within a word: the outer one has a question mark in its text
word_in_a_word : with_words_decoded (codes "=?utf-8?q?=?utf-8?q?a?=?=") ≡ codes "=?utf-8?q?a?="
unfolding with_words_decoded items_from joined word_at word_text utf8_lossy utf8_valid_len is_utf8 chars encode quoted_bytes line_bytes without_blanks unescaped bytes_of sextet_of
word_in_a_word = refl

-- ---- values: white space at both ends is dropped after decoding, and a fold is one space

trimmed_value : decoded_of ((32 ∷ 9 ∷ codes " a b " ++ 9 ∷ []) ∷ []) ≡ codes "a b"
unfolding decoded_of with_words_decoded items_from joined word_at word_text utf8_lossy utf8_valid_len is_utf8 chars encode quoted_bytes line_bytes without_blanks unescaped bytes_of sextet_of
trimmed_value = refl

trimmed_word : decoded_of (codes " =?utf-8?q?_a_?= " ∷ []) ≡ codes "a"
unfolding decoded_of with_words_decoded items_from joined word_at word_text utf8_lossy utf8_valid_len is_utf8 chars encode quoted_bytes line_bytes without_blanks unescaped bytes_of sextet_of
trimmed_word = refl

folded_value : decoded_of (codes " a" ∷ codes "   b" ∷ (9 ∷ codes "=?utf-8?q?c?=") ∷ []) ≡ codes "a b c"
unfolding decoded_of with_words_decoded items_from joined word_at word_text utf8_lossy utf8_valid_len is_utf8 chars encode quoted_bytes line_bytes without_blanks unescaped bytes_of sextet_of
folded_value = refl

no_value : decoded_of [] ≡ []
unfolding decoded_of with_words_decoded items_from joined word_at word_text utf8_lossy utf8_valid_len is_utf8 chars encode quoted_bytes line_bytes without_blanks unescaped bytes_of sextet_of
no_value = refl

-- a word begins with both characters
half_an_opening : with_words_decoded (codes "=xutf-8?q?a?= ?utf-8?q?a?=") ≡ codes "=xutf-8?q?a?= ?utf-8?q?a?="
unfolding with_words_decoded items_from joined word_at word_text
half_an_opening = refl

-- bytes that are no UTF-8 are U+FFFD
no_utf8 : decoded_of ((97 ∷ 255 ∷ 98 ∷ []) ∷ []) ≡ 97 ∷ 239 ∷ 191 ∷ 189 ∷ 98 ∷ []
unfolding decoded_of with_words_decoded items_from joined word_at utf8_lossy utf8_valid_len utf8_error_len is_utf8 chars encode
no_utf8 = refl
