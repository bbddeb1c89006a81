use Rattle.std.proofs.Common.{◌≡◌, length, map}
use Rattle.html_syntax.specs.Token.{attribute_of}
use Rattle.html_tokens.specs.Attributes.{add_all}
use Rattle.html_tokens.proofs.attribute_list.more_attributes.Given as goal

abbrev pub invariant-loop-attribute : goal.invariant-loop-attribute
invariant-loop-attribute l = add_all l.list l.reader ≡ add_all (map attribute_of l.fn.pairs.items) l.fn.reader

abbrev pub decreases-loop-attribute : goal.decreases-loop-attribute
decreases-loop-attribute l = length l.reader
