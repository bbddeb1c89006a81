use Rattle.std.proofs.Common.{◌≡◌, length, map}
use Rattle.html_syntax.specs.Token.{attribute_of}
use Rattle.html_tokens.specs.Attributes.{add_all, first_of_each}
use Rattle.html_tokens.proofs.attribute_list.attributes.Given as goal

abbrev pub invariant-loop-reader : goal.invariant-loop-reader
invariant-loop-reader l = add_all (map attribute_of l.pairs.items) l.reader ≡ first_of_each l.fn.reader

abbrev pub decreases-loop-reader : goal.decreases-loop-reader
decreases-loop-reader l = length l.reader
