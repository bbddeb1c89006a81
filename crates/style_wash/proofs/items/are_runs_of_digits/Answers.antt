use Rattle.std.proofs.Common.{rules, tests}
use Rattle.std.proofs.lemmas.Iterator.Search.{all_from_yields_List}
use Rattle.std.proofs.lemmas.Iterator.Splits.{YieldsList-from_slice_split}
use Rattle.style_wash.specs.Characters.{is_point}
use Rattle.style_wash.specs.Items.{is_digits}
use Rattle.style_wash.proofs.items.are_runs_of_digits.Goals as goal

pub returns : goal.returns
returns c = all_from_yields_List is_digits _ _ c.all.result c.all.ensures.ran (YieldsList-from_slice_split _ is_point c.args.text.now c.split.ensures.rest c.split.ensures.done c.split.ensures.closure (λ x r q k. search (rules, tests))) (λ x b q k. search (rules, tests))
