use Rattle.std.proofs.Common.{◌≡◌, map, drop, chars}
use Rattle.html_syntax.specs.Token.{attribute_of}
use Rattle.html_syntax.specs.States.{has_name}
use Rattle.html_tokens.proofs.attribute_list.is_among.Given as goal

-- the names before this one are others
abbrev pub invariant-loop-known : goal.invariant-loop-known
invariant-loop-known l = has_name (chars l.name) (map attribute_of (drop l.known-index l.pairs)) ≡ has_name (chars l.name) (map attribute_of l.pairs)
