use Rattle.std.proofs.Common.{sym, ap, ◌∙◌, chars, codes}
use Rattle.html_syntax.specs.Tokenizer.{same}
use Rattle.html_wash.proofs.StylingLemmas.{sheet_is}
use Rattle.html_wash.proofs.styling.is_sheet.Goals as goal

pub returns : goal.returns
returns c =
    sheet_is c.args.tag.now.name c.args.tag.now.attributes c.as_str.result.now c.trim.result.now c.is_screen.result
    (ap (same (codes "style")) (sym c.name.ensures) ∙ sym c.reads_as.ensures ∙ c.if-not-reads_as.false) c.as_str.utf8
    (ap chars c.as_str.ensures.value ∙ c.in_ok-media.ensures) c.trim.ensures c.is_screen.ensures
