use Rattle.std.proofs.Common.{ap, ◌∙◌}
use Rattle.std.specs.Prelude.{is_some}
use Rattle.std.proofs.lemmas.Map.Text.{btree_map_updates_str}
use Rattle.std.specs.Str.{bytes_eq}
use Rattle.style_rules.proofs.Last.{some_or}
use Rattle.style_rules.proofs.cascade.add_word.Goals as goal

pub returns-in-Ok : goal.returns-in-Ok
returns-in-Ok c = λ class. ap is_some (btree_map_updates_str c.args.word.now c.args.words.now c.insert.new.self _ c.in-Ok.ensures.updates class) ∙ some_or (bytes_eq c.args.word.now class) _
