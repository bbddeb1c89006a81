use Rattle.std.proofs.Common.{◌≡◌, ◌++◌, replicate, length}
use Rattle.flowed_text.specs.Paragraphs.{paras_of}
use Rattle.page_frames.specs.Elements.{with_tokens}
use Rattle.mail_pages.specs.Flowed.{flowed_paras, paras_after, quote}
use Rattle.mail_pages.proofs.flowed.write_paras.Given as goal

abbrev pub invariant-loop-para : goal.invariant-loop-para
invariant-loop-para l = record {
  quotes : l.out.opened ≡ replicate l.depth quote ++ l.initial.out.opened;
  paras : with_tokens l.out (paras_after l.depth l.unread) l.initial.out.opened ≡ with_tokens l.initial.out (flowed_paras (paras_of l.text l.del_sp)) l.initial.out.opened;
}

abbrev pub decreases-loop-para : goal.decreases-loop-para
decreases-loop-para l = length l.unread
