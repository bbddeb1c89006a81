-- A fault is as safe as the page in whose place it is.
use Rattle.std.proofs.Common.{◌≡◌, ℕ, Bool, true, List, Option, None, is_some, sym, subst, Result, OnOk}
use Rattle.mime_tree.specs.Tree.{PartValue}
use Rattle.mailbox_rows.specs.Rows.{Rows}
use Rattle.mailbox_rows.specs.Mailboxes.{MailboxState}
use Rattle.page_frames.specs.Pages.{IsFramePage}
use Rattle.form_pages.specs.Others.{fault_page}
use Rattle.mail_pages.specs.declared.frame.Frame.{Frame}
use Rattle.mail_pages.specs.ShowPage.{shown_at}
use Rattle.account_answers.specs.Done.{no_folder, no_part, IsSafeList, IsSafeRows, IsSafeMessage, IsSafeBytes}

pub without_validity : {T E : Type 0} (result : Result T E) (folder : List ℕ) (page : ℕ) (validity : Option ℕ) (rows : Rows) → validity ≡ None
    → OnOk result (IsFramePage (fault_page 404 no_folder true)) → OnOk result (IsSafeRows folder page validity rows)
without_validity result folder page validity rows none safe = subst (λ one. OnOk result (IsSafeRows folder page one rows)) (sym none) safe

pub without_folder : {T E : Type 0} (result : Result T E) (folder : List ℕ) (page : ℕ) (box : Option MailboxState) → box ≡ None
    → OnOk result (IsFramePage (fault_page 404 no_folder true)) → OnOk result (IsSafeList folder page box)
without_folder result folder page box none safe = subst (λ one. OnOk result (IsSafeList folder page one)) (sym none) safe

pub without_part : {T E : Type 0} (result : Result T E) (place : Frame) (message : List ℕ) (part : Option (List ℕ)) (images : Bool) → shown_at message part ≡ None
    → OnOk result (IsFramePage (fault_page 404 no_part true)) → OnOk result (IsSafeMessage (is_some (shown_at message part)) place message part images)
without_part result place message part images none safe = subst (λ shown. OnOk result (IsSafeMessage (is_some shown) place message part images)) (sym none) safe

pub without_section : {T E : Type 0} (result : Result T E) (found : Option PartValue) → found ≡ None
    → OnOk result (IsFramePage (fault_page 404 no_part true)) → OnOk result (IsSafeBytes found)
without_section result found none safe = subst (λ one. OnOk result (IsSafeBytes one)) (sym none) safe
