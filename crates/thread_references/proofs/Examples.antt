-- Threads of some messages, computed.
use Rattle.std.proofs.Common.{◌≡◌, ℕ, Bool, true, false, List, [], ◌∷◌, ◌++◌, codes, refl, map}
use Rattle.std.specs.Prelude.{Option, Some, None, pos}
use Rattle.std.specs.Str.{chars}
use Rattle.std.proofs.Math.Utf8.{encode}
use Rattle.ucd_table.specs.Rows.{value_in}
use Rattle.ucd_case.specs.FullFoldingRows.{full_folding_rows}
use Rattle.ucd_case.specs.CaseFolding.{full_folding}
use Rattle.caseless.specs.Caseless.{default_case_fold}
use Rattle.thread_places.specs.declared.facts.Facts.{Facts}
use Rattle.thread_places.specs.Links.{last_from, parent_of, ancestors_with, ancestors, with_link, with_chain, without_parent, with_last_reference, with_references}
use Rattle.thread_places.specs.Messages.{is_named, add_id, free_name, own_name, add_name, number_for, number_messages, links_of}
use Rattle.thread_places.specs.Dates.{insert_by_date, by_date, dates_from, date_order}
use Rattle.thread_places.specs.Places.{places_of, message_places}
use Rattle.thread_references.specs.Trees.{pruned_parent, prune, replaced_by, parent_through, is_parent, all_children, is_first, roots_at, roots_of}
use Rattle.thread_references.specs.Subjects.{root_for, replaces, enter_as, merge_with, merge_as, merge_roots, headings_of, pruned_parents, parents_of}
use Rattle.thread_references.specs.Listing.{list_from, flat, flat_of}

abbrev message : ℕ → ℕ → Option (List ℕ) → List (List ℕ) → List ℕ → Bool → Facts
message uid sent id references subject reply =
    record { uid = uid; id = id; references = references; subject = record { text = subject; reply = reply }; sent = pos sent }

abbrev row_15 : List Facts
row_15 =
    message 1 10 (Some (codes "m1@x")) ((codes "a@x") ∷ (codes "b@x") ∷ []) (codes "x") true
    ∷ message 2 20 (Some (codes "m2@x")) ((codes "b@x") ∷ (codes "a@x") ∷ []) (codes "x") false
    ∷ message 3 30 (Some (codes "m1@x")) ([]) (codes "x") true
    ∷ []

abbrev no_subjects : List Facts
no_subjects =
    message 1 10 None ([]) [] false
    ∷ message 2 20 None ([]) [] false
    ∷ []

abbrev own_reference : List Facts
own_reference =
    message 1 10 (Some (codes "a@")) ((codes "x@") ∷ (codes "a@") ∷ []) [] false
    ∷ message 2 20 (Some (codes "b@")) ((codes "a@") ∷ []) [] false
    ∷ []

abbrev each_refers_to_the_other : List Facts
each_refers_to_the_other =
    message 1 10 (Some (codes "a@")) ((codes "b@") ∷ []) [] false
    ∷ message 2 20 (Some (codes "b@")) ((codes "a@") ∷ []) [] false
    ∷ []

abbrev broken_parent : List Facts
broken_parent =
    message 1 10 (Some (codes "m@")) ((codes "a@") ∷ (codes "b@") ∷ (codes "c@") ∷ []) [] false
    ∷ message 2 20 (Some (codes "b@")) ([]) [] false
    ∷ message 3 30 (Some (codes "n@")) ((codes "a@") ∷ (codes "b@") ∷ []) [] false
    ∷ []

abbrev one_id_twice : List Facts
one_id_twice =
    message 7 10 (Some (codes "a@")) ([]) (codes "s") false
    ∷ message 8 10 (Some (codes "a@")) ([]) (codes "t") false
    ∷ message 9 10 (Some (codes "b@")) ((codes "a@") ∷ []) [] false
    ∷ message 10 5 (Some (codes "c@")) ((codes "a@") ∷ []) [] false
    ∷ []

abbrev reply_first : List Facts
reply_first =
    message 1 10 None ([]) (codes "x") true
    ∷ message 2 20 None ([]) (codes "x") false
    ∷ message 3 5 None ([]) (codes "x") true
    ∷ []

abbrev neither_is_a_reply : List Facts
neither_is_a_reply =
    message 1 10 None ([]) (codes "x") false
    ∷ message 2 20 None ([]) (codes "x") false
    ∷ message 3 15 None ([]) (codes "x") true
    ∷ []

abbrev two_dummies : List Facts
two_dummies =
    message 1 10 (Some (codes "a@")) ((codes "p@") ∷ []) (codes "x") false
    ∷ message 2 20 (Some (codes "b@")) ((codes "p@") ∷ []) (codes "y") false
    ∷ message 3 5 (Some (codes "c@")) ((codes "q@") ∷ []) (codes "z") false
    ∷ message 4 30 (Some (codes "d@")) ((codes "q@") ∷ []) (codes "z") false
    ∷ message 5 6 (Some (codes "e@")) ((codes "r@") ∷ []) (codes "x") true
    ∷ message 6 7 (Some (codes "f@")) ((codes "r@") ∷ []) (codes "x") true
    ∷ []

abbrev deep_dummies : List Facts
deep_dummies =
    message 1 10 (Some (codes "m@")) ((codes "a@") ∷ (codes "b@") ∷ (codes "c@") ∷ (codes "d@") ∷ []) [] false
    ∷ message 2 9 (Some (codes "n@")) ((codes "b@") ∷ []) [] false
    ∷ message 3 8 (Some (codes "o@")) ((codes "x@") ∷ (codes "d@") ∷ []) [] false
    ∷ message 4 7 (Some (codes "c@")) ((codes "a@") ∷ (codes "x@") ∷ []) [] false
    ∷ []

abbrev moved_under_a_child : List Facts
moved_under_a_child =
    message 1 10 (Some (codes "m@")) ((codes "a@") ∷ (codes "b@") ∷ (codes "c@") ∷ []) [] false
    ∷ message 2 20 (Some (codes "a@")) ((codes "c@") ∷ []) [] false
    ∷ message 3 30 (Some (codes "c@")) ((codes "a@") ∷ []) [] false
    ∷ []

abbrev loop_of_three : List Facts
loop_of_three =
    message 1 10 (Some (codes "a@")) ((codes "c@") ∷ []) [] false
    ∷ message 2 20 (Some (codes "b@")) ((codes "a@") ∷ []) [] false
    ∷ message 3 30 (Some (codes "c@")) ((codes "b@") ∷ []) [] false
    ∷ []

abbrev chain_of_dummies : List Facts
chain_of_dummies =
    message 1 10 (Some (codes "m@")) ((codes "a@") ∷ (codes "b@") ∷ (codes "c@") ∷ (codes "d@") ∷ []) [] false
    ∷ message 2 20 (Some (codes "n@")) ((codes "m@") ∷ []) [] false
    ∷ []

abbrev equal_dates : List Facts
equal_dates =
    message 4 10 (Some (codes "m@")) ((codes "a@") ∷ []) [] false
    ∷ message 5 10 (Some (codes "n@")) ((codes "a@") ∷ []) [] false
    ∷ message 6 10 None [] [] false
    ∷ []

-- U+00DF is folded to `ss`
abbrev folded_subjects : List Facts
folded_subjects =
    message 1 10 None [] (codes "STRASSE") false
    ∷ message 2 20 None [] (codes "stra" ++ 195 ∷ 159 ∷ codes "e") true
    ∷ []

abbrev dummy_takes_the_place : List Facts
dummy_takes_the_place =
    message 1 10 None [] (codes "x") false
    ∷ message 2 20 (Some (codes "b@")) ((codes "p@") ∷ []) (codes "x") false
    ∷ message 3 30 (Some (codes "c@")) ((codes "p@") ∷ []) (codes "y") false
    ∷ message 4 40 None [] (codes "x") true
    ∷ []

pub flat_examples : map flat_of (row_15 ∷ no_subjects ∷ own_reference ∷ each_refers_to_the_other ∷ broken_parent ∷ one_id_twice ∷ reply_first ∷ neither_is_a_reply ∷ two_dummies ∷ deep_dummies ∷ moved_under_a_child ∷ loop_of_three ∷ chain_of_dummies ∷ equal_dates ∷ folded_subjects ∷ dummy_takes_the_place ∷ []) ≡ (((1, 1) ∷ (2, 1) ∷ (3, 1) ∷ []) ∷ ((2, 0) ∷ (1, 0) ∷ []) ∷ ((1, 0) ∷ (2, 1) ∷ []) ∷ ((2, 0) ∷ (1, 1) ∷ []) ∷ ((2, 0) ∷ (1, 1) ∷ (3, 1) ∷ []) ∷ ((8, 0) ∷ (7, 0) ∷ (10, 1) ∷ (9, 1) ∷ []) ∷ ((2, 0) ∷ (3, 1) ∷ (1, 1) ∷ []) ∷ ((1, 1) ∷ (3, 2) ∷ (2, 1) ∷ []) ∷ ((5, 1) ∷ (6, 1) ∷ (1, 1) ∷ (2, 1) ∷ (3, 1) ∷ (4, 1) ∷ []) ∷ ((4, 1) ∷ (3, 2) ∷ (1, 2) ∷ (2, 1) ∷ []) ∷ ((2, 0) ∷ (3, 1) ∷ (1, 2) ∷ []) ∷ ((3, 0) ∷ (1, 1) ∷ (2, 2) ∷ []) ∷ ((1, 0) ∷ (2, 1) ∷ []) ∷ ((6, 0) ∷ (4, 1) ∷ (5, 1) ∷ []) ∷ ((1, 0) ∷ (2, 1) ∷ []) ∷ ((1, 1) ∷ (2, 1) ∷ (3, 1) ∷ (4, 1) ∷ []) ∷ [])
unfolding last_from parent_of ancestors_with ancestors with_link with_chain without_parent with_last_reference with_references is_named add_id free_name own_name add_name number_for number_messages links_of insert_by_date by_date dates_from date_order places_of message_places pruned_parent prune replaced_by parent_through is_parent all_children is_first roots_at roots_of root_for replaces enter_as merge_with merge_as merge_roots headings_of pruned_parents parents_of list_from flat flat_of default_case_fold full_folding value_in full_folding_rows chars encode
flat_examples = refl
