use Rattle.std.proofs.Common.{rules, tests}
use Rattle.std.proofs.lemmas.Iterator.Search.{all_from_yields_List}
use Rattle.std.proofs.lemmas.Iterator.Splits.{YieldsList-from_slice_split}
use Rattle.compose_drafts.specs.Paragraphs.{is_line_feed, is_short}
use Rattle.compose_drafts.proofs.bodies.has_short_lines.Goals as goal

pub returns : goal.returns
returns c = all_from_yields_List is_short _ _ c.all.result c.all.ensures.ran (YieldsList-from_slice_split _ is_line_feed c.args.body.now c.split.ensures.rest c.split.ensures.done c.split.ensures.closure (λ x r q k. search (rules, tests))) (λ x b q k. search (rules, tests))
