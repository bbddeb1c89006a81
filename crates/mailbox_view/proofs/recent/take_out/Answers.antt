use Rattle.std.proofs.Common.{rules, ◌≡◌, ◌≤◌, ◌<◌, length, ap, sym, ◌∙◌}
use Rattle.std.specs.List.{prefix_len}
use Rattle.mailbox_rows.specs.Mailboxes.{new_mailbox}
use Rattle.mailbox_view.specs.Selections.{is_other}
use Rattle.mailbox_view.proofs.FolderLemmas.{found_at, others_at, found_new, others_all}
use Rattle.mailbox_view.proofs.recent.take_out.Goals as goal

pub returns-then-place-len-clause-folder : goal.returns-then-place-len-clause-folder
returns-then-place-len-clause-folder c =
    let items = c.args.folders.now.items in
    let place : c.place_of-place.result ≡ prefix_len (is_other c.args.name.now) items = c.place_of-place.ensures.place ∙ ap (prefix_len (is_other c.args.name.now)) c.deref.ensures.value in
    let within : c.place_of-place.result < length items = search rules in
    c.remove.ensures.value ∙ sym (found_at c.args.name.now items c.place_of-place.result c.remove.result place within)

pub returns-then-place-len-clause-others : goal.returns-then-place-len-clause-others
returns-then-place-len-clause-others c =
    let items = c.args.folders.now.items in
    let place : c.place_of-place.result ≡ prefix_len (is_other c.args.name.now) items = c.place_of-place.ensures.place ∙ ap (prefix_len (is_other c.args.name.now)) c.deref.ensures.value in
    let within : c.place_of-place.result < length items = search rules in
    c.remove.ensures.items ∙ sym (others_at c.args.name.now items c.place_of-place.result place within)

pub returns-in_ok-from_slice-clause-folder : goal.returns-in_ok-from_slice-clause-folder
returns-in_ok-from_slice-clause-folder c =
    let items = c.args.folders.now.items in
    let place : c.place_of-place.result ≡ prefix_len (is_other c.args.name.now) items = c.place_of-place.ensures.place ∙ ap (prefix_len (is_other c.args.name.now)) c.deref.ensures.value in
    let past : length items ≤ c.place_of-place.result = search rules in
    c.new.ensures ∙ ap new_mailbox c.in_ok-from_slice.ensures ∙ sym (found_new c.args.name.now items (rw place at past))

pub returns-in_ok-from_slice-clause-others : goal.returns-in_ok-from_slice-clause-others
returns-in_ok-from_slice-clause-others c =
    let items = c.args.folders.now.items in
    let place : c.place_of-place.result ≡ prefix_len (is_other c.args.name.now) items = c.place_of-place.ensures.place ∙ ap (prefix_len (is_other c.args.name.now)) c.deref.ensures.value in
    let past : length items ≤ c.place_of-place.result = search rules in
    sym (others_all c.args.name.now items (rw place at past))
