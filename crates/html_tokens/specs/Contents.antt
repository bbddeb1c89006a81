-- The end of RCDATA, RAWTEXT and script data: the element's end tag.
use Rattle.std.specs.Prelude.{ℕ, Bool, false, ◌||◌, ◌&&◌, ◌==◌, List, [], ◌∷◌, ◌++◌, length, drop, map, codes}
use Rattle.html_syntax.specs.Characters.{carriage_return, solidus, greater_than, is_space, lower}
use Rattle.html_syntax.specs.References.{begins_with}
use Rattle.html_tokens.specs.Scanned.{element_name}
use Rattle.html_references.specs.declared.stretch.ReadAs.{ReadAs}
use Rattle.html_references.specs.declared.stretch.ReadAs.TheVariants as reads
use Rattle.html_tokens.specs.declared.mode.Content.{Content}
use Rattle.html_tokens.specs.declared.mode.Content.TheVariants as content

-- how the content is read: references are decoded in RCDATA alone
abbrev pub content_read_as : Content → ReadAs
content_read_as content.Title = reads.Rcdata
content_read_as content.Textarea = reads.Rcdata
content_read_as content.Style = reads.Raw
content_read_as content.Xmp = reads.Raw
content_read_as content.Iframe = reads.Raw
content_read_as content.Noembed = reads.Raw
content_read_as content.Noframes = reads.Raw
content_read_as content.Script = reads.Raw

-- the text begins with a character that ends the name of a tag: white space, `/` or `>` (13.2.5.8). A carriage return is read as a line feed.
abbrev pub ends_name : List ℕ → Bool
ends_name [] = false
ends_name (c ∷ text) = is_space c || c == carriage_return || c == solidus || c == greater_than

-- the text begins with the word, whatever its case, and the name ends there
abbrev pub begins_with_name : List ℕ → List ℕ → Bool
begins_with_name word text = begins_with word (map lower text) && ends_name (drop (length word) text)

-- the text begins with the end tag of the element: an 'appropriate end tag token' (13.2.5)
abbrev pub begins_end_tag : Content → List ℕ → Bool
begins_end_tag content text = begins_with_name (codes "</" ++ element_name content) text
