use Rattle.std.proofs.Common.{◌∙◌}
use Rattle.style_rules.specs.Rules.{rules, with_rules}
use Rattle.style_rules.specs.Seen.{block_seen}
use Rattle.style_rules.proofs.RuleSteps.{begins, reading_ends, reading_goes_on}
use Rattle.style_rules.proofs.rules.Rules.read.Goals as goal

pub loop-block-init : goal.loop-block-init
loop-block-init c = record {
  utf8 = c.as_str-rest.utf8;
  reading = begins c.args.self.now c.args.text.now c.as_str-rest.result.now (c.as_str-rest.ensures.value ∙ c.in_ok-spaced.ensures);
}

pub loop-block-preserved : goal.loop-block-preserved
loop-block-preserved c = record {
  utf8 = c.in-Some.ensures.2;
  reading = reading_goes_on c.loop-block.self c.read_block.new.self (with_rules c.args.self.now (rules c.args.text.now)) c.loop-block.rest.now (record { block = block_seen c.in-Some.block; rest = c.in-Some.after.now })
      c.in-Some.ensures.0 c.in-Some.ensures.1 c.loop-block.invariant.reading c.in_ok-read_block.ensures;
}

pub returns : goal.returns
returns c = reading_ends c.loop-block.self _ c.loop-block.rest.now c.in_default.ensures c.loop-block.invariant.reading
