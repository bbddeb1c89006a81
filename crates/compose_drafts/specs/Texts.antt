-- Texts in the fields of a header (RFC 5322 §2.2), and the boxes in them. Texts are in UTF-8.
use Rattle.std.specs.Prelude.{ℕ, zero, suc, ◌==◌, nat_le, Bool, false, not, ◌&&◌, ◌||◌, if◌then◌else◌, List, [], ◌∷◌, ◌++◌, length, take, drop, slice_index, codes}
use Rattle.std.specs.List.{flat_map, join_by, list_all}
use Rattle.base64.specs.Engines.{standard}
use Rattle.base64.specs.GeneralPurpose.{encode_of}
use Rattle.flowed_text.specs.Flow.{begins_character}
use Rattle.mail_addresses.specs.declared.Mailbox.{Mailbox}
use Rattle.mail_values.specs.Ascii.{line_feed, carriage_return, space, quotation_mark, backslash, greater_than_sign}

abbrev pub line_end : List ℕ
line_end = carriage_return ∷ line_feed ∷ []

abbrev pub ended : List ℕ → List ℕ
ended line = line ++ line_end

-- a line's end inside a field: the field goes on after a space (§2.2.3)
abbrev pub fold : List ℕ
fold = line_end ++ space ∷ []

-- ---- texts

abbrev pub is_printable : ℕ → Bool
is_printable c = nat_le 32 c && nat_le c 126

-- `=?` begins an encoded word
abbrev pub begins_word : List ℕ → Bool
begins_word [] = false
begins_word (c ∷ []) = false
begins_word (c ∷ d ∷ text) = c == 61 && d == 63

abbrev pub has_word_mark : List ℕ → Bool
has_word_mark [] = false
has_word_mark (c ∷ text) = begins_word (c ∷ text) || has_word_mark text

-- whether a text is written as it is
unfoldable pub is_plain : List ℕ → Bool
is_plain text = list_all is_printable text && not (has_word_mark text)

-- the bytes of a text's first encoded word: at most 45, and whole characters, which have at most four
unfoldable pub word_len : List ℕ → ℕ
word_len text =
    if nat_le (length text) 45 then length text
    else (if begins_character (slice_index text 45) then 45
    else (if begins_character (slice_index text 44) then 44
    else (if begins_character (slice_index text 43) then 43
    else 42)))

abbrev pub pieces_within : ℕ → List ℕ → List (List ℕ)
pieces_within zero text = []
pieces_within (suc n) [] = []
pieces_within (suc n) (c ∷ text) = take (word_len (c ∷ text)) (c ∷ text) ∷ pieces_within n (drop (word_len (c ∷ text)) (c ∷ text))

-- the texts of the encoded words, each of at least one byte
unfoldable pub pieces : List ℕ → List (List ℕ)
pieces text = pieces_within (length text) text

-- an encoded word (RFC 2047 §2)
abbrev pub encoded_word : List ℕ → List ℕ
encoded_word piece = codes "=?utf-8?B?" ++ encode_of standard piece ++ codes "?="

-- a word after another
abbrev pub spaced_word : List ℕ → List ℕ
spaced_word piece = space ∷ encoded_word piece

abbrev pub encoded_words : List ℕ → List ℕ
encoded_words text = join_by encoded_word (space ∷ []) (pieces text)

-- a text in a field
unfoldable pub written : List ℕ → List ℕ
written text = if is_plain text then text else encoded_words text

-- ---- boxes

abbrev pub escaped : ℕ → List ℕ
escaped c = if c == quotation_mark || c == backslash then backslash ∷ c ∷ [] else c ∷ []

abbrev pub quoted : List ℕ → List ℕ
quoted text = quotation_mark ∷ flat_map escaped text ++ quotation_mark ∷ []

abbrev pub in_angles : List ℕ → List ℕ
in_angles text = 60 ∷ text ++ greater_than_sign ∷ []

-- a name: quoted, or as encoded words
abbrev pub phrase : List ℕ → List ℕ
phrase name = if is_plain name then quoted name else encoded_words name

unfoldable pub box_text : List ℕ → List ℕ → List ℕ
box_text name address = if length name == 0 then address else phrase name ++ space ∷ in_angles address

-- a box after another, on a line of its own
abbrev pub next_box : Mailbox → List ℕ
next_box box = (44 ∷ fold) ++ box_text box.name box.address

-- the boxes of a field, each but the first on a line of its own
unfoldable pub boxes_text : List Mailbox → List ℕ
boxes_text boxes = join_by (λ box. box_text box.name box.address) (44 ∷ fold) boxes
