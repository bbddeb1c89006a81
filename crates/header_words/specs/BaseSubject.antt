-- The base subject of a subject, and whether it is marked as a reply or forward (RFC 5256 §2.1 and §5).
use Rattle.std.specs.Prelude.{ℕ, zero, suc, ◌+◌, ◌-◌, nat_eq, nat_lt, Bool, true, false, ◌&&◌, ◌||◌, ◌==◌, List, [], ◌∷◌, ◌++◌, length, take, drop, reverse, if◌then◌else◌, codes}
use Rattle.std.specs.List.{position_or_len, prefix_len, starts_with, ends_with}
use Rattle.std.specs.Str.{str_eq_ignore_ascii_case}
use Rattle.header_words.specs.Fields.{is_white}

-- a subject's text, and whether a mark of a reply or forward was removed from it
pub record Base : Type 0 where
  pub text : List ℕ
  pub reply : Bool

abbrev pub base : List ℕ → Bool → Base
base text reply = record { text = text; reply = reply }

-- ---- step 1: each run of white space is one space

abbrev pub spaced_byte : Bool → ℕ → List ℕ
spaced_byte after_white b = if is_white b then (if after_white then [] else 32 ∷ []) else b ∷ []

unfoldable pub single_spaced : Bool → List ℕ → List ℕ
single_spaced after_white [] = []
single_spaced after_white (b ∷ text) = spaced_byte after_white b ++ single_spaced (is_white b) text

-- ---- the grammar of what is removed, as lengths; 0 if there is none

abbrev pub begins_with : List ℕ → List ℕ → Bool
begins_with word text = str_eq_ignore_ascii_case (take (length word) text) word

abbrev pub is_space : ℕ → Bool
is_space b = b == 32

abbrev pub spaces_len : List ℕ → ℕ
spaces_len text = prefix_len is_space text

abbrev pub is_bracket : ℕ → Bool
is_bracket b = (b == 91) || (b == 93)

-- `subj-blob`: `[`, other characters than brackets, `]`, and spaces
abbrev pub closed_blob_len : ℕ → List ℕ → ℕ
closed_blob_len len [] = 0
closed_blob_len len (b ∷ after) = if b == 93 then len + 2 + spaces_len after else 0

unfoldable pub blob_len : List ℕ → ℕ
blob_len [] = 0
blob_len (b ∷ text) = if b == 91 then closed_blob_len (position_or_len is_bracket text) (drop (position_or_len is_bracket text) text) else 0

-- all blobs in front; `skip` bytes at the front are of a blob before
unfoldable pub blobs_len_from : ℕ → List ℕ → ℕ
blobs_len_from skip [] = 0
blobs_len_from (suc skip) (b ∷ text) = suc (blobs_len_from skip text)
blobs_len_from zero (b ∷ text) = elim (blob_len (b ∷ text)) [ zero ↦ 0 | suc len ↦ suc (blobs_len_from len text) ]

abbrev pub blobs_len : List ℕ → ℕ
blobs_len text = blobs_len_from zero text

-- `re`, `fw` or `fwd`
unfoldable pub word_len : List ℕ → ℕ
word_len text =
    if begins_with (codes "fwd") text then 3
    else if begins_with (codes "fw") text || begins_with (codes "re") text then 2
    else 0

-- `subj-refwd`: such a word, spaces, an optional blob, and a colon
abbrev pub spaced_word_len : List ℕ → ℕ
spaced_word_len text = word_len text + spaces_len (drop (word_len text) text)

abbrev pub before_colon_len : List ℕ → ℕ
before_colon_len text = spaced_word_len text + blob_len (drop (spaced_word_len text) text)

unfoldable pub mark_len : List ℕ → ℕ
mark_len text =
    if nat_lt 0 (word_len text) && starts_with nat_eq (drop (before_colon_len text) text) (codes ":")
    then before_colon_len text + 1
    else 0

-- `subj-leader`: blobs and such a mark, or a space
unfoldable pub marked_len : List ℕ → ℕ
marked_len text =
    if nat_lt 0 (mark_len (drop (blobs_len text) text)) then blobs_len text + mark_len (drop (blobs_len text) text) else 0

unfoldable pub leader_len : List ℕ → ℕ
leader_len text = if starts_with nat_eq text (codes " ") then 1 else marked_len text

-- ---- steps 3 to 5: leaders are removed, and a blob that leaves something, until there is neither

abbrev pub spare_blob_len : List ℕ → ℕ
spare_blob_len text = if nat_lt (blob_len text) (length text) then blob_len text else 0

unfoldable pub front_len : List ℕ → ℕ
front_len text = if nat_lt 0 (leader_len text) then leader_len text else spare_blob_len text

-- `skip` bytes at the front are being removed
unfoldable pub without_front_from : ℕ → Bool → List ℕ → Base
without_front_from skip reply [] = base [] reply
without_front_from (suc skip) reply (b ∷ text) = without_front_from skip reply text
without_front_from zero reply (b ∷ text) =
    elim (front_len (b ∷ text)) [
      | zero ↦ base (b ∷ text) reply
      | suc len ↦ without_front_from len (reply || nat_lt 0 (marked_len (b ∷ text))) text
    ]

abbrev pub without_front : Base → Base
without_front b = without_front_from zero b.reply b.text

-- a leader is removed
abbrev pub without_leader : Base → Base
without_leader b = base (drop (leader_len b.text) b.text) (b.reply || nat_lt 0 (marked_len b.text))

-- ---- step 2: spaces and `(fwd)` are removed at the end, which comes first here

unfoldable pub is_trailer : List ℕ → Bool
is_trailer backwards = begins_with (codes ")dwf(") backwards

unfoldable pub back_len : List ℕ → ℕ
back_len backwards = if starts_with nat_eq backwards (codes " ") then 1 else if is_trailer backwards then 5 else 0

unfoldable pub without_back_from : ℕ → Bool → List ℕ → Base
without_back_from skip reply [] = base [] reply
without_back_from (suc skip) reply (b ∷ text) = without_back_from skip reply text
without_back_from zero reply (b ∷ text) =
    elim (back_len (b ∷ text)) [
      | zero ↦ base (b ∷ text) reply
      | suc len ↦ without_back_from len (reply || is_trailer (b ∷ text)) text
    ]

abbrev pub without_trailer : Base → Base
without_trailer b = base (drop (back_len b.text) b.text) (b.reply || is_trailer b.text)

abbrev pub turned : Base → Base
turned b = base (reverse b.text) b.reply

abbrev pub without_back : Base → Base
without_back b = turned (without_back_from zero b.reply (reverse b.text))

abbrev pub trimmed : Base → Base
trimmed b = without_front (without_back b)

-- ---- step 6: `[fwd:` in front and `]` at the end are removed together, and steps 2 to 6 follow again

abbrev pub without_last : List ℕ → List ℕ
without_last text = take (length text - 1) text

unfoldable pub is_forward : List ℕ → Bool
is_forward text = begins_with (codes "[fwd:") (without_last text) && ends_with nat_eq text (codes "]")

abbrev pub inside_forward : List ℕ → Base
inside_forward text = base (drop 5 (without_last text)) true

-- each round removes six characters, so that the rounds are fewer than a text's characters
unfoldable pub opened : ℕ → Base → Base
opened zero b = b
opened (suc rounds) b =
    elim (is_forward b.text) [
      | true ↦ opened rounds (trimmed (inside_forward b.text))
      | false ↦ b
    ]

abbrev pub unwrapped : List ℕ → Base
unwrapped text = opened (length text) (trimmed (base text false))

abbrev pub base_of : List ℕ → Base
base_of subject = unwrapped (single_spaced false subject)
