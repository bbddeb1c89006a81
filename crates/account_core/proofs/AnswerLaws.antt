-- What is told is answered.
use Rattle.std.proofs.Common.{ℕ, List, Bool, Option, refl, ap, ◌∙◌}
use Rattle.std.specs.Prelude.{if◌then◌else◌}
use Rattle.mailbox_rows.specs.Mailboxes.{MailboxState}
use Rattle.mime_tree.specs.Tree.{PartValue}
use Rattle.mail_pages.specs.ShowPage.{page_bytes}
use Rattle.mail_pages.specs.declared.frame.Frame.TheVariants as frame
use Rattle.account_answers.specs.Answers.{fault_answer}
use Rattle.account_answers.specs.Done.{bytes_answer, list_answer, no_part, page_answer, part_answer, rows_answer, show_answer}
use Rattle.account_core.specs.Laws.{AnswersAll}

pub answers_all : AnswersAll
answers_all = record {
  folders = λ key t. refl;
  list = λ folder page key t box validity named valid.
      ap (λ (b : Option MailboxState). (list_answer folder page b).status) named
      ∙ ap (λ (v : Option ℕ). (rows_answer folder page v box.rows).status) valid;
  shown = λ at part images key t message told there.
      ap (λ (m : Option (List ℕ)). (show_answer (frame.Session at key) m part images).status) told
      ∙ ap (λ (b : Bool). (if b then page_answer images (page_bytes (frame.Session at key) message part images) else fault_answer 404 no_part).status) there;
  part = λ at section key t message p told there.
      ap (λ (m : Option (List ℕ)). (part_answer section m).status) told
      ∙ ap (λ (o : Option PartValue). (bytes_answer o).status) there;
}
