-- Paragraphs written as flowed text (RFC 3676 §4.2). Texts are in UTF-8.
use Rattle.std.specs.Prelude.{ℕ, zero, suc, ◌-◌, nat_lt, nat_le, Bool, false, not, ◌≡◌, ◌<◌, ◌+◌, ◌==◌, ◌&&◌, ◌||◌, if◌then◌else◌, List, [], ◌∷◌, ◌++◌, length, take, drop, replicate, count_by, slice_index, codes, Option, Some, None}
use Rattle.std.specs.List.{All, flat_map, starts_with}
use Rattle.std.specs.Option.{option_or}
use Rattle.std.specs.Str.{bytes_eq}
use Rattle.flowed_text.specs.declared.Para.{Para}
use Rattle.flowed_text.specs.Bytes.{line_feed, carriage_return, space, greater_than_sign}
use Rattle.flowed_text.specs.Lines.{is_ending}
use Rattle.flowed_text.specs.Paragraphs.{is_flowing, signature}

-- ---- a line

-- whether a byte of UTF-8 begins a character: its other bytes are 0x80 to 0xBF
abbrev pub begins_character : ℕ → Bool
begins_character b = nat_lt b 128 || nat_le 192 b

-- the number of characters of a text
abbrev pub width : List ℕ → ℕ
width text = count_by begins_character text

-- whether a line is stuffed with a space: after marks, and before a space, a `>` or `From ` (§4.4)
abbrev pub is_stuffed : ℕ → List ℕ → Bool
is_stuffed depth text = nat_lt 0 depth || (slice_index text 0 == space || slice_index text 0 == greater_than_sign || starts_with (λ a b. a == b) text (codes "From "))

-- the marks and the stuffing before the text of a line
abbrev pub prefix : ℕ → List ℕ → List ℕ
prefix depth text = replicate depth greater_than_sign ++ (if is_stuffed depth text then space ∷ [] else [])

abbrev pub whole_line : ℕ → List ℕ → List ℕ
whole_line depth text = prefix depth text ++ text

-- ---- the lines of a paragraph

-- the greatest and the least number from 1 to n that pass a test
abbrev pub greatest : (ℕ → Bool) → ℕ → Option ℕ
greatest p zero = None
greatest p (suc n) = if p (suc n) then Some (suc n) else greatest p n

abbrev pub least : (ℕ → Bool) → ℕ → Option ℕ
least p zero = None
least p (suc n) = option_or (least p n) (if p (suc n) then Some (suc n) else None)

-- whether a line may end after `size` bytes of a text: right after a space, and not as `-- `, which would not flow
abbrev pub may_break : List ℕ → ℕ → Bool
may_break text size = slice_index text (size - 1) == space && not (bytes_eq (take size text) signature)

-- whether the whole line has at most 76 characters before that space
abbrev pub is_short : ℕ → List ℕ → ℕ → Bool
is_short depth text size = nat_le (width (prefix depth (take size text) ++ take (size - 1) text)) 76

-- the number of bytes after which the first line of a text ends; None if the text is the last line
unfoldable pub line_break : ℕ → List ℕ → Option ℕ
line_break depth text = if nat_le (width (whole_line depth text)) 76 then None
    else option_or (greatest (λ size. may_break text size && is_short depth text size) (length text)) (least (may_break text) (length text))

-- the texts of the lines of a paragraph, with at most `more` after the first
abbrev pub texts_within : ℕ → ℕ → List ℕ → List (List ℕ)
texts_within zero depth text = text ∷ []
texts_within (suc more) depth text = elim (line_break depth text) [
  | None ↦ text ∷ []
  | Some size ↦ take size text ∷ texts_within more depth (drop size text)
]

-- the texts of the lines of a paragraph: each but the last has at least one byte
abbrev pub texts : ℕ → List ℕ → List (List ℕ)
texts depth text = texts_within (length text) depth text

-- ---- paragraphs

-- a line with its ending
abbrev pub line_with_ending : ℕ → List ℕ → List ℕ
line_with_ending depth text = whole_line depth text ++ carriage_return ∷ line_feed ∷ []

abbrev pub flow_para : Para → List ℕ
flow_para para = flat_map (line_with_ending para.depth) (texts para.depth para.text)

unfoldable pub flow : List Para → List ℕ
flow paras = flat_map flow_para paras

-- a paragraph that reads back as itself: it has no CR and no LF, and does not end in a space unless it is `-- `
abbrev pub IsRestorable : Para → Type 0
IsRestorable para = All (λ b. is_ending b ≡ false) para.text × (is_flowing para.text ≡ false)

-- ---- the room that is left

-- the room that some bytes leave, or None if they do not fit
abbrev pub LeavesRoom : ℕ → ℕ → Option ℕ → Type 0
LeavesRoom room size None = room < size
LeavesRoom room size (Some left) = left + size ≡ room
