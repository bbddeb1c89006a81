use Rattle.std.proofs.Common.{rules, sym, ◌∙◌, ap, ◌∷◌}
use Rattle.std.specs.Prelude.{map}
use Rattle.flowed_text.specs.Lines.{lines}
use Rattle.flowed_text.specs.Paragraphs.{paras_of, read_line}
use Rattle.flowed_text.proofs.Joining.{paras_of-none, begun_first, joined_line, closed_para}
use Rattle.flowed_text.proofs.reading.Paras.next.Goals as goal

pub returns-in_default : goal.returns-in_default
returns-in_default c = sym c.self.view_is ∙ paras_of-none c.self.inside.rest.now c.self.inside.del_sp c.in_default.ensures.lines

pub loop-line-init : goal.loop-line-init
loop-line-init c = record {
  text = search rules;
  sound = c.in_ok-begun.ensures.ends_in_space_if_flowing;
  paras = begun_first c.self.inside.rest.now c.in-Some.first.now c.in-Some.after.now c.self.inside.del_sp c.in_ok-begun.begun
      c.read_line-depth.result.0 c.read_line-depth.result.1.now c.in-Some.ensures.lines
      c.read_line-depth.ensures.depth c.read_line-depth.ensures.text c.in_ok-begun.ensures.para c.in_ok-begun.ensures.flowing;
}

pub loop-line-preserved : goal.loop-line-preserved
loop-line-preserved c = record {
  text = search rules;
  sound = c.in_ok-begun-2.ensures.ends_in_space_if_flowing;
  paras = joined_line c.self.inside.del_sp c.loop-line.begun c.in_ok-begun-2.begun c.in-Some-joinable_line.line.now (map read_line (lines c.loop-line.rest.now)) (map read_line (lines c.in-Some-joinable_line.after.now))
      c.in-Some-joinable_line.ensures.flows c.in-Some-joinable_line.ensures.line c.in_ok-begun-2.ensures.para c.in_ok-begun-2.ensures.flowing
      ∙ c.loop-line.invariant.paras;
}

pub returns : goal.returns
returns c =
    sym c.self.view_is ∙ sym c.loop-line.invariant.paras ∙ closed_para c.self.inside.del_sp c.loop-line.begun c.loop-line.rest.now c.in_default-joinable_line.ensures.none
    ∙ ap (λ p. p ∷ paras_of c.loop-line.rest.now c.self.inside.del_sp) (sym c.close_para.ensures)
