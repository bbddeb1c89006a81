use Rattle.std.proofs.Common.{sym, ap, ◌∙◌}
use Rattle.html_syntax.specs.Tokenizer.{tokens_of_bytes}
use Rattle.page_frames.proofs.Safe.{frame_page}
use Rattle.page_frames.proofs.pages.finish_page.Goals as goal

pub returns-clause-is_safe : goal.returns-clause-is_safe
returns-clause-is_safe c =
    frame_page c.args.out.written c.requires.frame (ap tokens_of_bytes (sym c.finish.ensures.spelled) ∙ c.finish.ensures.reads) c.finish.ensures.nested
