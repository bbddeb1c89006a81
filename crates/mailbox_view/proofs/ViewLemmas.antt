-- What a FETCH makes of a view.
use Rattle.std.proofs.Common.{◌≡◌, ℕ, List, Some, None, ap, sym, ◌∙◌}
use Rattle.mailbox_rows.specs.declared.row.Fields.{Fields}
use Rattle.mailbox_rows.specs.Mailboxes.{MailboxState}
use Rattle.mailbox_view.specs.Fetched.{with_fetch}
use Rattle.mailbox_view.specs.Fetches.{excess_in}
use Rattle.mailbox_view.specs.Selections.{muted, with_concerned, concerned_box}
use Rattle.mailbox_view.specs.View.{ViewState, with_boxes, with_selection, in_box, after_excess, after_fetched}

pub fetched_in : (v : ViewState) (uid : ℕ) (fields : Fields) (boxes : List MailboxState) → excess_in uid fields (concerned_box v.selection.concerned v.boxes) ≡ None → boxes ≡ with_concerned v.selection.concerned (with_fetch uid fields) v.boxes → with_boxes v boxes ≡ after_fetched uid fields v
fetched_in v uid fields boxes few is = ap (with_boxes v) is ∙ ap (λ excess. after_excess excess (in_box (with_fetch uid fields) v)) (sym few)

pub fetched_past : (v : ViewState) (uid count bytes : ℕ) (fields : Fields) (boxes : List MailboxState) → excess_in uid fields (concerned_box v.selection.concerned v.boxes) ≡ Some (count, bytes) → boxes ≡ with_concerned v.selection.concerned (with_fetch uid fields) v.boxes → with_selection (with_boxes v boxes) (muted v.selection) ≡ after_fetched uid fields v
fetched_past v uid count bytes fields boxes many is = ap (λ boxes. with_selection (with_boxes v boxes) (muted v.selection)) is ∙ ap (λ excess. after_excess excess (in_box (with_fetch uid fields) v)) (sym many)
