-- The part of a message to show.
use Rattle.std.specs.Prelude.{ℕ, zero, suc, ◌+◌, Bool, false, not, ◌&&◌, ◌||◌, List, [], length, take, if◌then◌else◌, find, reverse, nat_eq, nat_le, ◌==◌, Option, Some, None, option_and_then, is_some, codes, bytes_eq}
use Rattle.std.specs.List.{starts_with}
use Rattle.std.specs.Option.{option_map_or}
use Rattle.transfer_codings.specs.Charsets.{charset_named}
use Rattle.mime_tree.specs.declared.choice.Shown.{Shown}
use Rattle.mime_tree.specs.declared.choice.Shown.TheVariants.{Plain, Flowed, Html, Unread, Nothing}
use Rattle.mime_tree.specs.Content.{is_alternative}
use Rattle.mime_tree.specs.Tree.{PartValue, TreeValue}

-- the part of a section
abbrev pub has_section : List ℕ → PartValue → Bool
has_section section p = bytes_eq p.section section

abbrev pub part_at : List ℕ → List PartValue → Option PartValue
part_at section parts = find (has_section section) parts

abbrev pub is_html : PartValue → Bool
is_html p = bytes_eq p.mime (codes "text/html")

-- a text or a page that is neither attached nor in a message in the message
abbrev pub is_text : PartValue → Bool
is_text p = (bytes_eq p.mime (codes "text/plain") || is_html p) && (not p.attached && not p.enclosed)

-- one whose charset is read
abbrev pub counts : PartValue → Bool
counts p = is_text p && is_some (charset_named p.charset)

-- whether the multipart of a section is an alternative; the empty section is the message itself
abbrev pub is_alternative_at : TreeValue → List ℕ → Bool
is_alternative_at t section =
    if length section == 0 then t.alternative else option_map_or (λ (p : PartValue). is_alternative p.mime) (part_at section t.parts) false

-- a leaf that counts, in the multipart of a section
abbrev pub counts_in : List ℕ → PartValue → Bool
counts_in section p = counts p && starts_with nat_eq p.section section

-- the leaf whose child of the multipart is chosen: the last that counts in an alternative, in any other multipart the first
abbrev pub taken_in : TreeValue → List ℕ → Option PartValue
taken_in t section =
    if is_alternative_at t section then find (counts_in section) (reverse t.parts) else find (counts_in section) t.parts

-- the leaf of the multipart of a section: the chosen leaf if that is its child, and else the leaf of the chosen child
unfoldable pub leaf_to_show : ℕ → TreeValue → List ℕ → Option PartValue
leaf_to_show zero t section = None
leaf_to_show (suc depth) t section = option_and_then (λ (p : PartValue).
    if nat_le (length p.section) (length section + 1) then Some p else leaf_to_show depth t (take (length section + 1) p.section)) (taken_in t section)

-- a leaf as it is shown
abbrev pub shown_as : PartValue → Shown
shown_as p = if is_html p then Html p.section else option_map_or (λ del_sp. Flowed p.section del_sp) p.format (Plain p.section)

abbrev pub shown_else : Option PartValue → Shown
shown_else None = Nothing
shown_else (Some p) = Unread p.section

abbrev pub shown_of : Option PartValue → Option PartValue → Shown
shown_of (Some p) other = shown_as p
shown_of None other = shown_else other

-- the part to show: the leaf of the outermost multipart, else the first text or page of an unread charset. A section has at most
-- 40 numbers, so at most 40 multiparts are in one another
unfoldable pub best_of : TreeValue → Shown
best_of t = shown_of (leaf_to_show 40 t []) (find is_text t.parts)
