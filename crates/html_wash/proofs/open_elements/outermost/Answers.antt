use Rattle.std.proofs.Common.{sym, ◌∙◌}
use Rattle.html_syntax.specs.Tokenizer.{is_among}
use Rattle.html_wash.specs.Elements.{name_of}
use Rattle.html_wash.specs.Seen.{lookup_of}
use Rattle.html_wash.proofs.Reversed.{first_here, first_nowhere, none_more}
use Rattle.html_wash.proofs.open_elements.outermost.Goals as goal

pub returns-then-closes : goal.returns-then-closes
returns-then-closes c = first_here (λ e. is_among (lookup_of c.args.kind).closes (name_of e)) c.args.region.now c.loop-i.i _ c.loop-i-test.true c.loop-i.invariant (sym c.closes.ensures ∙ c.if-closes.true)

pub loop-i-preserved : goal.loop-i-preserved
loop-i-preserved c = none_more (λ e. is_among (lookup_of c.args.kind).closes (name_of e)) c.args.region.now c.loop-i.i _ c.loop-i-test.true c.loop-i.invariant (sym c.closes.ensures ∙ c.if-closes.false)

pub returns : goal.returns
returns c = first_nowhere (λ e. is_among (lookup_of c.args.kind).closes (name_of e)) c.args.region.now c.loop-i.i c.loop-i-test.false c.loop-i.auto.i-end c.loop-i.invariant
