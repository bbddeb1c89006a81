use lib.Utf8.{encode}
use Rattle.std.proofs.Common.{ap, sym, ◌∙◌, drop}
use Rattle.flowed_text.specs.Lines.{strip_first}
use Rattle.flowed_text.specs.Paragraphs.{mark_count}
use Rattle.flowed_text.proofs.Joining.{mark_count-none, read_depth}
use Rattle.flowed_text.proofs.reading.read_line.Goals as goal

pub returns-clause-depth : goal.returns-clause-depth
unfolding encode
returns-clause-depth c =
    read_depth c.loop-after.depth (mark_count c.loop-after.rest.now) (mark_count c.args.line.now) c.loop-after.invariant.depth c.loop-after.invariant.small
    (mark_count-none c.loop-after.rest.now c.in_default.ensures.cases)

pub returns-clause-text : goal.returns-clause-text
unfolding encode
returns-clause-text c =
    c.strip_first.ensures ∙ ap (strip_first 32) (
    ap (λ n. drop n c.loop-after.rest.now) (sym (mark_count-none c.loop-after.rest.now c.in_default.ensures.cases)) ∙ c.loop-after.invariant.rest
    )
