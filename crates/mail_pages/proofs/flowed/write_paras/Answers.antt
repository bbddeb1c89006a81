use Rattle.std.proofs.Common.{◌∙◌, ap}
use Rattle.flowed_text.specs.Paragraphs.{paras_of}
use Rattle.page_frames.specs.Elements.{with_tokens}
use Rattle.mail_pages.specs.Flowed.{para_element}
use Rattle.mail_pages.proofs.QuoteSteps.{may_write_para, para_quotes, para_written, first_left, paras_ended}
use Rattle.mail_pages.proofs.flowed.write_paras.Goals as goal

pub write_para-requires : goal.write_para-requires
write_para-requires c =
    may_write_para c.loop-para.out c.change_depth.new.out c.loop-para.depth c.shown_depth-shown.result c.args.out.now.opened c.loop-para.invariant.quotes c.requires c.in_ok-change_depth.ensures

pub loop-para-preserved : goal.loop-para-preserved
loop-para-preserved c = record {
  quotes = para_quotes c.loop-para.out c.change_depth.new.out c.write_para.new.out c.loop-para.depth c.shown_depth-shown.result c.as_str.result.now c.args.out.now.opened
      c.loop-para.invariant.quotes c.in_ok-change_depth.ensures c.in_ok-write_para.ensures;
  paras = para_written c.loop-para.out c.change_depth.new.out c.write_para.new.out c.loop-para.depth c.shown_depth-shown.result c.loop-para.unread c.next.new.self c.in-Some.para c.args.out.now.opened
      c.loop-para.invariant.quotes (first_left c.in_ok-para.field-0 c.loop-para.unread c.next.new.self c.in-Some.para c.in-Some.is c.in_ok-para.ensures) c.shown_depth-shown.ensures c.in_ok-change_depth.ensures
      (c.in_ok-write_para.ensures ∙ ap (λ t. with_tokens c.change_depth.new.out (para_element t) c.change_depth.new.out.opened) c.as_str.ensures)
      ∙ c.loop-para.invariant.paras;
}

pub returns : goal.returns
returns c =
    paras_ended c.close_quotes.result c.loop-para.out c.args.out.now c.close_quotes.new.out c.loop-para.depth c.in_ok-para.field-0 c.loop-para.unread c.next.new.self (paras_of c.args.text.now c.args.del_sp) c.args.out.now.opened
    c.loop-para.invariant.quotes c.in_default.is c.in_ok-para.ensures c.loop-para.invariant.paras c.close_quotes.ensures
