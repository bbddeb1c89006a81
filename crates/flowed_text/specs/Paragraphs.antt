-- The paragraphs of flowed text (RFC 3676 §4). Texts are in UTF-8.
use Rattle.std.specs.Prelude.{ℕ, ◌-◌, min, Bool, false, not, ◌==◌, ◌&&◌, if◌then◌else◌, List, [], ◌∷◌, ◌++◌, length, take, drop, map, slice_index, codes}
use Rattle.std.specs.List.{prefix_len}
use Rattle.std.specs.Str.{bytes_eq}
use Rattle.flowed_text.specs.declared.Para.{Para}
use Rattle.flowed_text.specs.Bytes.{space, greater_than_sign}
use Rattle.flowed_text.specs.Lines.{lines, strip_first}

-- ---- a line

abbrev pub is_mark : ℕ → Bool
is_mark b = b == greater_than_sign

-- the number of `>` at the front of a line
abbrev pub mark_count : List ℕ → ℕ
mark_count line = prefix_len is_mark line

-- a line as its depth and its text, without its marks and one space after them
abbrev pub read_line : List ℕ → Para
read_line line = record { depth = min (mark_count line) 4294967295; text = strip_first space (drop (mark_count line) line) }

-- ---- lines that flow

-- the line before a signature (§4.3)
abbrev pub signature : List ℕ
signature = codes "-- "

abbrev pub ends_in_space : List ℕ → Bool
ends_in_space text = slice_index text (length text - 1) == space

-- whether a line with this text flows into the next one of its depth
abbrev pub is_flowing : List ℕ → Bool
is_flowing text = ends_in_space text && not (bytes_eq text signature)

-- whether the first of some lines has this depth
abbrev pub first_has_depth : ℕ → List Para → Bool
first_has_depth depth [] = false
first_has_depth depth (line ∷ more) = line.depth == depth

-- the text that a flowing line adds to its paragraph: with DelSp it loses its last space
abbrev pub joinable_text : Bool → List ℕ → List ℕ
joinable_text del_sp text = if del_sp then take (length text - 1) text else text

-- ---- paragraphs

-- a text in front of that of the first paragraph
abbrev pub onto_first_para : List ℕ → List Para → List Para
onto_first_para text [] = []
onto_first_para text (para ∷ more) = record { depth = para.depth; text = text ++ para.text } ∷ more

-- the paragraphs of some lines: each line that flows is joined with the next one
abbrev pub join_lines : Bool → List Para → List Para
join_lines del_sp [] = []
join_lines del_sp (line ∷ more) = if is_flowing line.text && first_has_depth line.depth more then onto_first_para (joinable_text del_sp line.text) (join_lines del_sp more) else line ∷ join_lines del_sp more

-- the paragraphs of a text
unfoldable pub paras_of : List ℕ → Bool → List Para
paras_of text del_sp = join_lines del_sp (map read_line (lines text))
