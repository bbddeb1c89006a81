use Rattle.std.proofs.Common.{◌≡◌, ◌<◌, ◌≤◌, ℕ, ◌∙◌, arith, take, ap, subst, take_all}
use Rattle.std.specs.List.{All}
use Rattle.std.specs.Prelude.{string_bytes}
use Rattle.std.proofs.lemmas.List.Elements.{All-more, All-nil}
use Rattle.flowed_text.specs.Flow.{flow}
use Rattle.flowed_text.proofs.RoundTrip.{IsShallow, paras_of-flow}
use Rattle.flowed_text.proofs.Written.{flow-more, flow-nil}
use Rattle.flowed_text.proofs.writing.write_flowed.Goals as goal

small : (depth : ℕ) → depth < 4294967296 → depth ≤ 4294967295
small depth lt = omega arith

pub loop-para-init : goal.loop-para-init
loop-para-init c = record { text = c.in_ok-text.ensures.bytes ∙ flow-nil; shallow = All-nil IsShallow }

pub loop-para-preserved : goal.loop-para-preserved
loop-para-preserved c = record {
  text = flow-more c.args.paras.now c.loop-para.para-index c.para-item.result (string_bytes c.loop-para.text) (string_bytes c.write_para.new.out) c.loop-para-test.true c.para-item.is
      c.loop-para.invariant.text c.in_ok-write_para.ensures.text;
  shallow = All-more IsShallow c.args.paras.now c.loop-para.para-index c.para-item.result c.loop-para-test.true c.loop-para.invariant.shallow
      (subst IsShallow c.para-item.is (small c.para-item.result.depth c.in_ok-write_para.ensures.depth));
}

pub returns-clause-parses : goal.returns-clause-parses
returns-clause-parses c = λ whole.
    let all : take c.loop-para.para-index c.args.paras.now ≡ c.args.paras.now = take_all c.loop-para.para-index c.args.paras.now c.loop-para-test.false in
    paras_of-flow c.args.paras.now (string_bytes c.loop-para.text) (c.loop-para.invariant.text ∙ ap flow all) (subst (All IsShallow) all c.loop-para.invariant.shallow) whole
