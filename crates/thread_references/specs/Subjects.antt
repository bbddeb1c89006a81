-- Trees of one subject are merged (RFC 5256, REFERENCES, step 5).
use Rattle.std.specs.Prelude.{ℕ, ◌+◌, ◌-◌, Bool, true, not, ◌&&◌, ◌||◌, ◌==◌, nat_lt, List, [], ◌∷◌, length, map, get_or, set, fold, Option, Some, None, chars, encode_utf8_all, if◌then◌else◌}
use Rattle.std.specs.Str.{bytes_eq}
use Rattle.caseless.specs.Caseless.{default_case_fold}
use Rattle.thread_places.specs.declared.facts.Facts.{Facts}
use Rattle.thread_places.specs.Places.{message_places}
use Rattle.thread_places.specs.Dates.{date_order, in_order}
use Rattle.thread_references.specs.Trees.{prune, roots_of}

-- what merging asks of the messages, in order of date
pub record Headings : Type 0 where
  pub subjects : List (List ℕ)
  pub replies : List Bool

abbrev pub is_dummy : Headings → ℕ → Bool
is_dummy headings root = not (nat_lt root (length headings.subjects))

-- a dummy's subject is that of the first of its children
abbrev pub subject_of : Headings → ℕ → List ℕ
subject_of headings root = get_or headings.subjects (if is_dummy headings root then root - length headings.subjects else root) []

-- a dummy is no reply
abbrev pub is_reply : Headings → ℕ → Bool
is_reply headings root = not (is_dummy headings root) && get_or headings.replies root true

-- the root that the table has for a subject, the latest row first
unfoldable pub root_for : List (List ℕ × ℕ) → List ℕ → Option ℕ
root_for [] text = None
root_for (row ∷ rows) text = if bytes_eq row.0 text then Some row.1 else root_for rows text

-- the parents of messages and dummies, and the table of subjects; a root without a subject is in no row
pub record Merging : Type 0 where
  pub parents : List (Option ℕ)
  pub table : List (List ℕ × ℕ)

-- ---- (B) the table of subjects

-- a root takes the place of the one that the table has: a dummy that of a message, another message that of a reply
unfoldable pub replaces : Headings → ℕ → Option ℕ → Bool
replaces headings root None = true
replaces headings root (Some other) =
    not (is_dummy headings other) && (is_dummy headings root || (is_reply headings other && not (is_reply headings root)))

unfoldable pub enter_as : Headings → ℕ → Merging → List ℕ → Merging
enter_as headings root merging [] = merging
enter_as headings root merging (c ∷ text) =
    if replaces headings root (root_for merging.table (c ∷ text)) then record merging { table = (c ∷ text, root) ∷ merging.table } else merging

abbrev pub enter : Headings → Merging → ℕ → Merging
enter headings merging root = enter_as headings root merging (subject_of headings root)

-- ---- (C) each root that isn't the table's own is merged with it

abbrev pub put_under : ℕ → ℕ → Merging → Merging
put_under parent root merging = record merging { parents = set merging.parents root (Some parent) }

-- a new dummy gets both as children, and takes the place of the other in the table
abbrev pub join_under_new : ℕ → List ℕ → ℕ → ℕ → Merging → Merging
join_under_new new text other root merging = record { parents = set (set merging.parents other (Some new)) root (Some new); table = (text, new) ∷ merging.table }

-- A root becomes the child of a dummy, or if it is a dummy too, is replaced by its children there. A reply becomes the child of a message
-- that is none.
abbrev pub goes_under : Headings → ℕ → ℕ → Bool
goes_under headings root other = is_dummy headings other || (is_reply headings root && not (is_reply headings other))

unfoldable pub merge_with : Headings → List ℕ → ℕ → Merging → Option ℕ → Merging
merge_with headings text root merging None = merging
merge_with headings text root merging (Some other) =
    if other == root then merging
    else (if goes_under headings root other then put_under other root merging
    else join_under_new (length headings.subjects + other) text other root merging)

unfoldable pub merge_as : Headings → ℕ → Merging → List ℕ → Merging
merge_as headings root merging [] = merging
merge_as headings root merging (c ∷ text) = merge_with headings (c ∷ text) root merging (root_for merging.table (c ∷ text))

abbrev pub merge : Headings → Merging → ℕ → Merging
merge headings merging root = merge_as headings root merging (subject_of headings root)

unfoldable pub merge_roots : Headings → List ℕ → List (Option ℕ) → List (Option ℕ)
merge_roots headings roots parents = (fold (merge headings) (fold (enter headings) (record { parents = parents; table = [] }) roots) roots).parents

-- ---- all steps

abbrev pub folded_subject : Facts → List ℕ
folded_subject facts = encode_utf8_all (default_case_fold (chars facts.subject.text))

unfoldable pub headings_of : List Facts → Headings
headings_of facts =
    record {
      subjects = in_order [] (map folded_subject facts) (date_order facts);
      replies = in_order true (map (λ f. f.subject.reply) facts) (date_order facts);
    }

-- the parents before any trees are merged
unfoldable pub pruned_parents : List Facts → List (Option ℕ)
pruned_parents facts = prune (message_places facts)

unfoldable pub parents_of : List Facts → List (Option ℕ)
parents_of facts = merge_roots (headings_of facts) (roots_of (length facts) (pruned_parents facts)) (pruned_parents facts)
