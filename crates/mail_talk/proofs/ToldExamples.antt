-- What short talks tell.
use Rattle.std.proofs.Common.{◌≡◌, ℕ, Bool, true, false, List, [], ◌∷◌, ◌++◌, refl, Option, Some, None}
use Rattle.std.specs.Prelude.{codes, map}
use Rattle.std.specs.List.{fold}
use Rattle.account_pictures.specs.declared.talk.Piece.{Piece}
use Rattle.account_pictures.specs.declared.talk.Piece.TheVariants.{Dialled, Said, Heard}
use Rattle.imap_commands.specs.Pieces.{line_end}
use Rattle.imap_commands.specs.Items.{lex_step, lex_from, items_of}
use Rattle.imap_commands.specs.CommandGrammar.{first_of, expect_words, string, more_digits, number, expect_end, flag, select_command, fetch_command, store_command, append_command, command, tagged_command, command_of}
use Rattle.imap_framing.specs.Units.{step}
use Rattle.imap_values.specs.Words.{number_at, positive_at}
use Rattle.imap_values.specs.Strings.{quoted_raw_at, quoted_at, literal_at, string_at, nstring_at}
use Rattle.imap_values.specs.Values.{token_at, tokens_end_at}
use Rattle.imap_values.specs.Sets.{range_at, ranges_at, uid_set_at}
use Rattle.imap_grammar.specs.Codes.{code_at, code_name_of}
use Rattle.imap_grammar.specs.Items.{item_name_of, item_at, items_at, item_list_at}
use Rattle.imap_grammar.specs.Searches.{tag_at, correlator_at, skip_uid, pair_at, last_all_at, all_set_of, search_of}
use Rattle.imap_grammar.specs.Response.{response_of, line_of, tagged_response_of, state_word_of, state_response_of, untagged_kind_of, count_kind_of, number_response_of, untagged_response_of, ResponseData, Continue, Tagged, Fetch, Esearch}
use Rattle.imap_grammar.specs.declared.response.Word.TheVariants as words
use Rattle.mailbox_rows.specs.Mailboxes.{MailboxState}
use Rattle.mailbox_view.specs.declared.awaited.Awaited.TheVariants as awaits
use Rattle.mailbox_view.specs.declared.selection.Selection.{Selection}
use Rattle.mailbox_view.specs.View.{ViewState, no_abilities}
use Rattle.command_pieces.specs.Verbs.{after_tag}
use Rattle.imap_commands.specs.declared.command.Command.TheVariants as command
use Rattle.command_pieces.specs.declared.verb.Verb.TheVariants as verbs
use Rattle.imap_grammar.specs.ItemData.{Uid, Body}
use Rattle.mail_talk.specs.States.{ToldState, heard}
use Rattle.mail_talk.specs.Talks.{opened, first_piece, only_piece, last_piece}
use Rattle.mail_talk.specs.declared.phase.Phase.{Phase}
use Rattle.mail_talk.specs.declared.phase.Phase.TheVariants as phase
use Rattle.mail_talk.specs.declared.results.FetchedBody.{FetchedBody}
use Rattle.mail_talk.specs.Results.{nothing_found, uids_of}
use Rattle.mail_talk.specs.Units.{TalkState, heard_count, heard_limit, take_units, drained, after_heard}
use Rattle.mail_talk.specs.Told.{Talk, after_piece, told_of}

-- ---- what is said and heard

abbrev say : List ℕ → Piece
say line = Said (line ++ line_end)

abbrev hear : List ℕ → Piece
hear line = Heard (line ++ line_end)

-- a dial with its greeting
abbrev greeted : List Piece
greeted = Dialled true ∷ hear (codes "* OK hi") ∷ []

abbrev box : MailboxState
box = record { name = codes "b"; validity = Some 8; rows = []; mark = 0 }

abbrev selection : Selection
selection = record { is_selected = true; concerned = Some 0; is_leaving = false; was_ok = true; highest = 0; has_validity = true; has_no_modseq = false }

abbrev view : ViewState
view = record { number = 1; awaited = awaits.Nothing; soon = []; modseq = 0; folders = []; listed = []; boxes = box ∷ []; selection = selection; abilities = no_abilities }

-- after the SELECT of a folder
abbrev selected : Talk
selected = record { state = record { told = record { view = view; results = nothing_found; phase = phase.Idle; answer = None; excess = None }; rest = []; at = 0; from = 0 }; said = [] }

abbrev after : List Piece → TalkState
after pieces = (fold after_piece selected pieces).state

-- ---- what is asked of a talk

abbrev phase_of : List Piece → Phase
phase_of pieces = (told_of pieces).told.phase

-- the names of the folders, and whether the first is selected
abbrev folders_of : List Piece → List (List ℕ) × Bool
folders_of pieces = (map (λ (box : MailboxState). box.name) (after pieces).told.view.boxes, (after pieces).told.view.selection.is_selected)

-- ---- greetings

greeting : phase_of greeted ≡ phase.Idle
unfolding response_of line_of tagged_response_of state_word_of state_response_of untagged_response_of untagged_kind_of count_kind_of number_response_of search_of correlator_at tag_at skip_uid last_all_at pair_at tokens_end_at token_at all_set_of uid_set_at ranges_at range_at string_at quoted_at quoted_raw_at literal_at nstring_at number_at positive_at item_list_at items_at item_at item_name_of code_at code_name_of step take_units drained after_heard after_tag command_of items_of lex_from lex_step tagged_command command first_of expect_words string number more_digits expect_end select_command fetch_command store_command append_command flag
greeting = refl

greeting_in_two_pieces : phase_of (Dialled true ∷ Heard (codes "* O") ∷ hear (codes "K hi") ∷ []) ≡ phase.Idle
unfolding response_of line_of tagged_response_of state_word_of state_response_of untagged_response_of untagged_kind_of count_kind_of number_response_of search_of correlator_at tag_at skip_uid last_all_at pair_at tokens_end_at token_at all_set_of uid_set_at ranges_at range_at string_at quoted_at quoted_raw_at literal_at nstring_at number_at positive_at item_list_at items_at item_at item_name_of code_at code_name_of step take_units drained after_heard after_tag command_of items_of lex_from lex_step tagged_command command first_of expect_words string number more_digits expect_end select_command fetch_command store_command append_command flag
greeting_in_two_pieces = refl

no_greeting : phase_of (Dialled true ∷ hear (codes "+ hi") ∷ hear (codes "A1 OK x") ∷ []) ≡ phase.Greeting
unfolding response_of line_of tagged_response_of state_word_of state_response_of untagged_response_of untagged_kind_of count_kind_of number_response_of search_of correlator_at tag_at skip_uid last_all_at pair_at tokens_end_at token_at all_set_of uid_set_at ranges_at range_at string_at quoted_at quoted_raw_at literal_at nstring_at number_at positive_at item_list_at items_at item_at item_name_of code_at code_name_of step take_units drained after_heard after_tag command_of items_of lex_from lex_step tagged_command command first_of expect_words string number more_digits expect_end select_command fetch_command store_command append_command flag
no_greeting = refl

nothing_dialled : phase_of (hear (codes "* OK hi") ∷ say (codes "A1 NOOP") ∷ []) ≡ phase.NotDialled
unfolding response_of line_of tagged_response_of state_word_of state_response_of untagged_response_of untagged_kind_of count_kind_of number_response_of search_of correlator_at tag_at skip_uid last_all_at pair_at tokens_end_at token_at all_set_of uid_set_at ranges_at range_at string_at quoted_at quoted_raw_at literal_at nstring_at number_at positive_at item_list_at items_at item_at item_name_of code_at code_name_of step take_units drained after_heard after_tag command_of items_of lex_from lex_step tagged_command command first_of expect_words string number more_digits expect_end select_command fetch_command store_command append_command flag
nothing_dialled = refl

-- ---- commands and their answers

command_said : phase_of (greeted ++ say (codes "A1 NOOP") ∷ []) ≡ phase.Answer
unfolding response_of line_of tagged_response_of state_word_of state_response_of untagged_response_of untagged_kind_of count_kind_of number_response_of search_of correlator_at tag_at skip_uid last_all_at pair_at tokens_end_at token_at all_set_of uid_set_at ranges_at range_at string_at quoted_at quoted_raw_at literal_at nstring_at number_at positive_at item_list_at items_at item_at item_name_of code_at code_name_of step take_units drained after_heard after_tag command_of items_of lex_from lex_step tagged_command command first_of expect_words string number more_digits expect_end select_command fetch_command store_command append_command flag
command_said = refl

command_answered : (told_of (greeted ++ say (codes "A1 NOOP") ∷ hear (codes "A1 NO x") ∷ [])).told.answer ≡ Some (record { word = words.No; code = None; text = codes "x"; at = 9; is_early = false })
unfolding response_of line_of tagged_response_of state_word_of state_response_of untagged_response_of untagged_kind_of count_kind_of number_response_of search_of correlator_at tag_at skip_uid last_all_at pair_at tokens_end_at token_at all_set_of uid_set_at ranges_at range_at string_at quoted_at quoted_raw_at literal_at nstring_at number_at positive_at item_list_at items_at item_at item_name_of code_at code_name_of step take_units drained after_heard after_tag command_of items_of lex_from lex_step tagged_command command first_of expect_words string number more_digits expect_end select_command fetch_command store_command append_command flag
command_answered = refl

answer_of_another_tag : phase_of (greeted ++ say (codes "A1 NOOP") ∷ hear (codes "A2 OK x") ∷ []) ≡ phase.Answer
unfolding response_of line_of tagged_response_of state_word_of state_response_of untagged_response_of untagged_kind_of count_kind_of number_response_of search_of correlator_at tag_at skip_uid last_all_at pair_at tokens_end_at token_at all_set_of uid_set_at ranges_at range_at string_at quoted_at quoted_raw_at literal_at nstring_at number_at positive_at item_list_at items_at item_at item_name_of code_at code_name_of step take_units drained after_heard after_tag command_of items_of lex_from lex_step tagged_command command first_of expect_words string number more_digits expect_end select_command fetch_command store_command append_command flag
answer_of_another_tag = refl

another_number : phase_of (greeted ++ say (codes "A2 NOOP") ∷ []) ≡ phase.Idle
unfolding response_of line_of tagged_response_of state_word_of state_response_of untagged_response_of untagged_kind_of count_kind_of number_response_of search_of correlator_at tag_at skip_uid last_all_at pair_at tokens_end_at token_at all_set_of uid_set_at ranges_at range_at string_at quoted_at quoted_raw_at literal_at nstring_at number_at positive_at item_list_at items_at item_at item_name_of code_at code_name_of step take_units drained after_heard after_tag command_of items_of lex_from lex_step tagged_command command first_of expect_words string number more_digits expect_end select_command fetch_command store_command append_command flag
another_number = refl

command_cut : phase_of (greeted ++ Said (codes "A1 NO") ∷ []) ≡ phase.Idle
unfolding response_of line_of tagged_response_of state_word_of state_response_of untagged_response_of untagged_kind_of count_kind_of number_response_of search_of correlator_at tag_at skip_uid last_all_at pair_at tokens_end_at token_at all_set_of uid_set_at ranges_at range_at string_at quoted_at quoted_raw_at literal_at nstring_at number_at positive_at item_list_at items_at item_at item_name_of code_at code_name_of step take_units drained after_heard after_tag command_of items_of lex_from lex_step tagged_command command first_of expect_words string number more_digits expect_end select_command fetch_command store_command append_command flag
command_cut = refl

units_wait_for_the_next_command : (told_of (greeted ++ hear (codes "* 1 EXISTS") ∷ [])).rest ≡ codes "* 1 EXISTS" ++ line_end
unfolding response_of line_of tagged_response_of state_word_of state_response_of untagged_response_of untagged_kind_of count_kind_of number_response_of search_of correlator_at tag_at skip_uid last_all_at pair_at tokens_end_at token_at all_set_of uid_set_at ranges_at range_at string_at quoted_at quoted_raw_at literal_at nstring_at number_at positive_at item_list_at items_at item_at item_name_of code_at code_name_of step take_units drained after_heard after_tag command_of items_of lex_from lex_step tagged_command command first_of expect_words string number more_digits expect_end select_command fetch_command store_command append_command flag
units_wait_for_the_next_command = refl

bytes_of_a_command : heard_count (told_of (greeted ++ say (codes "A1 NOOP") ∷ hear (codes "* 1 EXISTS") ∷ Heard (codes "A1") ∷ [])) ≡ 14
unfolding response_of line_of tagged_response_of state_word_of state_response_of untagged_response_of untagged_kind_of count_kind_of number_response_of search_of correlator_at tag_at skip_uid last_all_at pair_at tokens_end_at token_at all_set_of uid_set_at ranges_at range_at string_at quoted_at quoted_raw_at literal_at nstring_at number_at positive_at item_list_at items_at item_at item_name_of code_at code_name_of step take_units drained after_heard after_tag command_of items_of lex_from lex_step tagged_command command first_of expect_words string number more_digits expect_end select_command fetch_command store_command append_command flag
bytes_of_a_command = refl

unasked_request : phase_of (greeted ++ say (codes "A1 NOOP") ∷ hear (codes "+ go") ∷ []) ≡ phase.Answer
unfolding response_of line_of tagged_response_of state_word_of state_response_of untagged_response_of untagged_kind_of count_kind_of number_response_of search_of correlator_at tag_at skip_uid last_all_at pair_at tokens_end_at token_at all_set_of uid_set_at ranges_at range_at string_at quoted_at quoted_raw_at literal_at nstring_at number_at positive_at item_list_at items_at item_at item_name_of code_at code_name_of step take_units drained after_heard after_tag command_of items_of lex_from lex_step tagged_command command first_of expect_words string number more_digits expect_end select_command fetch_command store_command append_command flag
unasked_request = refl

-- ---- commands in several pieces

first_piece_said : phase_of (greeted ++ say (codes "A1 LOGIN {1}") ∷ []) ≡ phase.Request
unfolding response_of line_of tagged_response_of state_word_of state_response_of untagged_response_of untagged_kind_of count_kind_of number_response_of search_of correlator_at tag_at skip_uid last_all_at pair_at tokens_end_at token_at all_set_of uid_set_at ranges_at range_at string_at quoted_at quoted_raw_at literal_at nstring_at number_at positive_at item_list_at items_at item_at item_name_of code_at code_name_of step take_units drained after_heard after_tag command_of items_of lex_from lex_step tagged_command command first_of expect_words string number more_digits expect_end select_command fetch_command store_command append_command flag
first_piece_said = refl

request_heard : phase_of (greeted ++ say (codes "A1 LOGIN {1}") ∷ hear (codes "+ go") ∷ []) ≡ phase.Piece
unfolding response_of line_of tagged_response_of state_word_of state_response_of untagged_response_of untagged_kind_of count_kind_of number_response_of search_of correlator_at tag_at skip_uid last_all_at pair_at tokens_end_at token_at all_set_of uid_set_at ranges_at range_at string_at quoted_at quoted_raw_at literal_at nstring_at number_at positive_at item_list_at items_at item_at item_name_of code_at code_name_of step take_units drained after_heard after_tag command_of items_of lex_from lex_step tagged_command command first_of expect_words string number more_digits expect_end select_command fetch_command store_command append_command flag
request_heard = refl

second_piece : phase_of (greeted ++ say (codes "A1 LOGIN {1}") ∷ hear (codes "+ go") ∷ say (codes "a {1}") ∷ []) ≡ phase.Request
unfolding response_of line_of tagged_response_of state_word_of state_response_of untagged_response_of untagged_kind_of count_kind_of number_response_of search_of correlator_at tag_at skip_uid last_all_at pair_at tokens_end_at token_at all_set_of uid_set_at ranges_at range_at string_at quoted_at quoted_raw_at literal_at nstring_at number_at positive_at item_list_at items_at item_at item_name_of code_at code_name_of step take_units drained after_heard after_tag command_of items_of lex_from lex_step tagged_command command first_of expect_words string number more_digits expect_end select_command fetch_command store_command append_command flag
second_piece = refl

last_piece_said : phase_of (greeted ++ say (codes "A1 LOGIN {1}") ∷ hear (codes "+ go") ∷ say (codes "a {1}") ∷ hear (codes "+ go") ∷ say (codes "b") ∷ []) ≡ phase.Answer
unfolding response_of line_of tagged_response_of state_word_of state_response_of untagged_response_of untagged_kind_of count_kind_of number_response_of search_of correlator_at tag_at skip_uid last_all_at pair_at tokens_end_at token_at all_set_of uid_set_at ranges_at range_at string_at quoted_at quoted_raw_at literal_at nstring_at number_at positive_at item_list_at items_at item_at item_name_of code_at code_name_of step take_units drained after_heard after_tag command_of items_of lex_from lex_step tagged_command command first_of expect_words string number more_digits expect_end select_command fetch_command store_command append_command flag
last_piece_said = refl

piece_cut : phase_of (greeted ++ say (codes "A1 LOGIN {1}") ∷ hear (codes "+ go") ∷ Said (codes "a {") ∷ hear (codes "A1 OK x") ∷ []) ≡ phase.Piece
unfolding response_of line_of tagged_response_of state_word_of state_response_of untagged_response_of untagged_kind_of count_kind_of number_response_of search_of correlator_at tag_at skip_uid last_all_at pair_at tokens_end_at token_at all_set_of uid_set_at ranges_at range_at string_at quoted_at quoted_raw_at literal_at nstring_at number_at positive_at item_list_at items_at item_at item_name_of code_at code_name_of step take_units drained after_heard after_tag command_of items_of lex_from lex_step tagged_command command first_of expect_words string number more_digits expect_end select_command fetch_command store_command append_command flag
piece_cut = refl

early_answer : (told_of (greeted ++ say (codes "A1 LOGIN {1}") ∷ hear (codes "A1 NO x") ∷ [])).told.answer ≡ Some (record { word = words.No; code = None; text = codes "x"; at = 9; is_early = true })
unfolding response_of line_of tagged_response_of state_word_of state_response_of untagged_response_of untagged_kind_of count_kind_of number_response_of search_of correlator_at tag_at skip_uid last_all_at pair_at tokens_end_at token_at all_set_of uid_set_at ranges_at range_at string_at quoted_at quoted_raw_at literal_at nstring_at number_at positive_at item_list_at items_at item_at item_name_of code_at code_name_of step take_units drained after_heard after_tag command_of items_of lex_from lex_step tagged_command command first_of expect_words string number more_digits expect_end select_command fetch_command store_command append_command flag
early_answer = refl

-- ---- damage

damage : phase_of (greeted ++ say (codes "A1 NOOP") ∷ hear (codes "* 1 FETCH (UID x)") ∷ hear (codes "A1 OK x") ∷ []) ≡ phase.Damaged
unfolding response_of line_of tagged_response_of state_word_of state_response_of untagged_response_of untagged_kind_of count_kind_of number_response_of search_of correlator_at tag_at skip_uid last_all_at pair_at tokens_end_at token_at all_set_of uid_set_at ranges_at range_at string_at quoted_at quoted_raw_at literal_at nstring_at number_at positive_at item_list_at items_at item_at item_name_of code_at code_name_of step take_units drained after_heard after_tag command_of items_of lex_from lex_step tagged_command command first_of expect_words string number more_digits expect_end select_command fetch_command store_command append_command flag
damage = refl

offset_of_damage : (told_of (greeted ++ say (codes "A1 NOOP") ∷ hear (codes "* 1 FETCH (UID x)") ∷ hear (codes "A1 OK x") ∷ [])).at ≡ 9
unfolding response_of line_of tagged_response_of state_word_of state_response_of untagged_response_of untagged_kind_of count_kind_of number_response_of search_of correlator_at tag_at skip_uid last_all_at pair_at tokens_end_at token_at all_set_of uid_set_at ranges_at range_at string_at quoted_at quoted_raw_at literal_at nstring_at number_at positive_at item_list_at items_at item_at item_name_of code_at code_name_of step take_units drained after_heard after_tag command_of items_of lex_from lex_step tagged_command command first_of expect_words string number more_digits expect_end select_command fetch_command store_command append_command flag
offset_of_damage = refl

dial_after_damage : phase_of (greeted ++ say (codes "A1 NOOP") ∷ hear (codes "A") ∷ Dialled false ∷ []) ≡ phase.Greeting
unfolding response_of line_of tagged_response_of state_word_of state_response_of untagged_response_of untagged_kind_of count_kind_of number_response_of search_of correlator_at tag_at skip_uid last_all_at pair_at tokens_end_at token_at all_set_of uid_set_at ranges_at range_at string_at quoted_at quoted_raw_at literal_at nstring_at number_at positive_at item_list_at items_at item_at item_name_of code_at code_name_of step take_units drained after_heard after_tag command_of items_of lex_from lex_step tagged_command command first_of expect_words string number more_digits expect_end select_command fetch_command store_command append_command flag
dial_after_damage = refl

-- ---- a folder whose name is a literal

folder_of_a_literal : folders_of (say (codes "A2 SELECT {1}") ∷ hear (codes "+ go") ∷ say (codes "c") ∷ []) ≡ ((codes "c" ∷ codes "b" ∷ []), true)
unfolding response_of line_of tagged_response_of state_word_of state_response_of untagged_response_of untagged_kind_of count_kind_of number_response_of search_of correlator_at tag_at skip_uid last_all_at pair_at tokens_end_at token_at all_set_of uid_set_at ranges_at range_at string_at quoted_at quoted_raw_at literal_at nstring_at number_at positive_at item_list_at items_at item_at item_name_of code_at code_name_of step take_units drained after_heard after_tag command_of items_of lex_from lex_step tagged_command command first_of expect_words string number more_digits expect_end select_command fetch_command store_command append_command flag
folder_of_a_literal = refl

folder_before_its_piece : folders_of (say (codes "A2 SELECT {1}") ∷ hear (codes "+ go") ∷ []) ≡ ((codes "b" ∷ []), true)
unfolding response_of line_of tagged_response_of state_word_of state_response_of untagged_response_of untagged_kind_of count_kind_of number_response_of search_of correlator_at tag_at skip_uid last_all_at pair_at tokens_end_at token_at all_set_of uid_set_at ranges_at range_at string_at quoted_at quoted_raw_at literal_at nstring_at number_at positive_at item_list_at items_at item_at item_name_of code_at code_name_of step take_units drained after_heard after_tag command_of items_of lex_from lex_step tagged_command command first_of expect_words string number more_digits expect_end select_command fetch_command store_command append_command flag
folder_before_its_piece = refl

folder_without_request : folders_of (say (codes "A2 SELECT {1}") ∷ hear (codes "A2 NO x") ∷ []) ≡ ((codes "b" ∷ []), false)
unfolding response_of line_of tagged_response_of state_word_of state_response_of untagged_response_of untagged_kind_of count_kind_of number_response_of search_of correlator_at tag_at skip_uid last_all_at pair_at tokens_end_at token_at all_set_of uid_set_at ranges_at range_at string_at quoted_at quoted_raw_at literal_at nstring_at number_at positive_at item_list_at items_at item_at item_name_of code_at code_name_of step take_units drained after_heard after_tag command_of items_of lex_from lex_step tagged_command command first_of expect_words string number more_digits expect_end select_command fetch_command store_command append_command flag
folder_without_request = refl

-- ---- searches, by responses: one whose words are a literal, too

abbrev told : ToldState
told = selected.state.told

abbrev set : List ℕ → (ℕ → Bool) → ResponseData
set tag uids = Esearch tag (Some uids)

-- a search in one piece, and the first piece of one
abbrev search : ToldState
search = only_piece (command.Search (codes "w")) (opened told)

abbrev search_begun : ToldState
search_begun = first_piece verbs.Search (opened told)

found_by_search : (uids : ℕ → Bool) → (heard (set (codes "A2") uids) 0 search).results.found ≡ uids_of (Some uids)
found_by_search uids = refl

found_before_request : (uids : ℕ → Bool) → (last_piece (command.Search (codes "w")) (heard (Continue []) 0 (heard (set (codes "A2") uids) 0 search_begun))).results.found ≡ uids_of (Some uids)
found_before_request uids = refl

refused_before_request : (uids : ℕ → Bool) → (heard (Tagged (codes "A3") words.No None []) 0 (first_piece verbs.Search (opened (heard (Tagged (codes "A2") words.Ok None []) 0 (heard (set (codes "A2") uids) 0 search))))).results.found ≡ []
refused_before_request uids = refl

last_esearch_counts : (first last : ℕ → Bool) → (heard (set (codes "A2") last) 0 (heard (set (codes "A2") first) 0 search)).results.found ≡ uids_of (Some last)
last_esearch_counts first last = refl

esearch_of_another_tag : (uids others : ℕ → Bool) → (heard (set (codes "A1") others) 0 (heard (set (codes "A2") uids) 0 search)).results.found ≡ uids_of (Some uids)
esearch_of_another_tag uids others = refl

esearch_without_all : (uids : ℕ → Bool) → (heard (Esearch (codes "A2") None) 0 (heard (set (codes "A2") uids) 0 search)).results.found ≡ []
esearch_without_all uids = refl

-- ---- bodies, by responses

abbrev fetch : ToldState
fetch = only_piece (command.FetchBody 7) (opened told)

abbrev body : ℕ → Option (List ℕ) → ResponseData
body uid text = Fetch 1 (Uid uid ∷ Body text ∷ [])

abbrev body_in : Option FetchedBody → Option (List ℕ)
body_in None = None
body_in (Some message) = message.body

abbrev body_of : ToldState → Option (List ℕ)
body_of t = body_in t.results.message

body_told : (heard (body 7 (Some (codes "x"))) 0 fetch).results.message ≡ Some (record { folder = codes "b"; validity = Some 8; uid = 7; body = Some (codes "x") })
body_told = refl

nil_is_no_body : body_of (heard (body 7 None) 0 fetch) ≡ None
nil_is_no_body = refl

body_of_another_message : body_of (heard (body 8 (Some (codes "x"))) 0 fetch) ≡ None
body_of_another_message = refl

body_unasked : body_of (heard (body 7 (Some (codes "y"))) 0 (only_piece command.Noop (opened (heard (Tagged (codes "A2") words.Ok None []) 0 (heard (body 7 (Some (codes "x"))) 0 fetch))))) ≡ Some (codes "x")
body_unasked = refl

body_asked_again : body_of (only_piece (command.FetchBody 7) (opened (heard (Tagged (codes "A2") words.Ok None []) 0 (heard (body 7 (Some (codes "x"))) 0 fetch)))) ≡ None
body_asked_again = refl

-- the bytes of one command: 32 MiB
limit_is_a_number : heard_limit ≡ 33_554_432
limit_is_a_number = refl
