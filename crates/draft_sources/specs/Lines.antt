-- The lines of the text that is shown of a message. Texts are in UTF-8.
use Rattle.std.specs.Prelude.{ℕ, nat_lt, ◌==◌, Bool, true, false, if◌then◌else◌, List, [], ◌∷◌, ◌++◌, map, replicate, slice_index, Option, Some, None, unwrap_or}
use Rattle.std.specs.List.{flat_map}
use Rattle.flowed_text.specs.declared.Para.{Para}
use Rattle.flowed_text.specs.Lines.{lines}
use Rattle.flowed_text.specs.Paragraphs.{paras_of}
use Rattle.mail_values.specs.Ascii.{line_feed, space, greater_than_sign}
use Rattle.mime_tree.specs.declared.choice.Shown.{Shown}
use Rattle.mime_tree.specs.declared.choice.Shown.TheVariants.{Plain, Flowed, Html, Unread, Nothing}
use Rattle.mime_tree.specs.Best.{best_of, part_at}
use Rattle.mime_tree.specs.Tree.{PartValue, TreeValue}
use Rattle.transfer_codings.specs.Codings.{decoded}
use Rattle.transfer_codings.specs.Charsets.{charset_named, text_in}
use Rattle.transfer_codings.specs.declared.charset.Charset.TheVariants.{Utf8}

-- the text of a part: decoded by its coding and its charset
abbrev pub decoded_text : PartValue → List ℕ
decoded_text p = text_in (unwrap_or (charset_named p.charset) Utf8) (decoded p.coding p.bytes)

-- a paragraph as one line: its quote marks, a space after them, and its text
abbrev pub para_line : Para → List ℕ
para_line para = replicate para.depth greater_than_sign ++ (if nat_lt 0 para.depth then space ∷ [] else []) ++ para.text

-- a plain text has its lines, a flowed text a line for each paragraph
abbrev pub plain_lines : Option PartValue → List (List ℕ)
plain_lines (Some p) = lines (decoded_text p)
plain_lines None = []

abbrev pub flowed_lines : Bool → Option PartValue → List (List ℕ)
flowed_lines del_sp (Some p) = map para_line (paras_of (decoded_text p) del_sp)
flowed_lines del_sp None = []

abbrev pub lines_shown_as : List PartValue → Shown → List (List ℕ)
lines_shown_as parts (Plain section) = plain_lines (part_at section parts)
lines_shown_as parts (Flowed section del_sp) = flowed_lines del_sp (part_at section parts)
lines_shown_as parts (Html section) = []
lines_shown_as parts (Unread section) = []
lines_shown_as parts Nothing = []

-- the lines of the text that is shown of a message, without their endings; none of a page, of a charset that isn't read, or of no text
unfoldable pub lines_of : TreeValue → List (List ℕ)
lines_of tree = lines_shown_as tree.parts (best_of tree)

-- ---- as the text of a draft

-- the mark of a quoted line: one more `>`, and a space if it is the first
abbrev pub mark_of : List ℕ → List ℕ
mark_of line = if slice_index line 0 == greater_than_sign then greater_than_sign ∷ [] else greater_than_sign ∷ space ∷ []

-- a line as a text: with LF at its end, and quoted or not
abbrev pub line_text : Bool → List ℕ → List ℕ
line_text true line = mark_of line ++ line ++ line_feed ∷ []
line_text false line = line ++ line_feed ∷ []

-- lines as a text
unfoldable pub text_of : Bool → List (List ℕ) → List ℕ
text_of quoting lines = flat_map (line_text quoting) lines
