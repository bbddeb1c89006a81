use Rattle.std.proofs.Common.{map, ap, ◌∙◌}
use Rattle.html_syntax.specs.Token.{attribute_of}
use Rattle.html_tokens.specs.Attributes.{add_all}
use Rattle.html_tokens.proofs.FirstOfEach.{added_are_first}
use Rattle.html_tokens.proofs.attribute_list.attributes.Goals as goal

pub loop-reader-init : goal.loop-reader-init
loop-reader-init c = ap (λ l. add_all (map attribute_of l) c.args.reader) c.in_ok-pairs.ensures.items ∙ added_are_first c.args.reader
